pub mod Disks
pub mod Files
pub mod Names
