pub mod Options
pub mod Sizes
pub mod Times
pub mod Values
pub mod Words
