pub mod StreamsKept
pub mod NextPull
pub mod Outcomes
pub mod Rest
pub mod PullsLeft
pub mod ReadsOn
pub mod WholeRead
