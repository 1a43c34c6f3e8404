pub mod Built
pub mod Calls
pub mod Escape
pub mod Faults
pub mod Limits
pub mod Reasons
pub mod Script
pub mod Words
