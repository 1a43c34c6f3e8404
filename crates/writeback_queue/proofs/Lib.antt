pub mod Items
pub mod Rows
pub mod Delays
pub mod Steps
