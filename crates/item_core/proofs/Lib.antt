pub mod Counts
pub mod Examples
pub mod LawProofs
pub mod Steps
pub mod Stored
pub mod Views
