pub mod Spans
pub mod Sorted
pub mod Runs
pub mod Joined
pub mod Removed
pub mod Trimmed
pub mod Counts
pub mod Unique
