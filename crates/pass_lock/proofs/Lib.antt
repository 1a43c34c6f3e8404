pub mod Growing
pub mod Numbers
pub mod Dealing
pub mod Keeps
