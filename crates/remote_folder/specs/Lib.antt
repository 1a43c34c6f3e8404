pub mod Folder
pub mod Names
pub mod Rows
pub mod Stamps
