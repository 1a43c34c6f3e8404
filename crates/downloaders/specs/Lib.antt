pub mod Crew
pub mod Rules
pub mod Orders
