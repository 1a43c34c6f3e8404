pub mod Entries
pub mod Lines
pub mod Names
pub mod Printed
pub mod Refusals
pub mod Replies
pub mod Tree
pub mod Words
