pub mod Keys
pub mod Spans
pub mod Written
pub mod Within
pub mod Digits
pub mod Unique
pub mod First
pub mod Back
