pub mod Disks
pub mod Files
pub mod Helds
pub mod Plans
pub mod Script
pub mod Slots
pub mod Stored
