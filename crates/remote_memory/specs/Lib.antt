pub mod Nodes
pub mod Script
pub mod Stores
