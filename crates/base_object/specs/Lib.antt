pub mod Base
pub mod Streams
pub mod Pulls
pub mod PullsLeft
pub mod Reads
