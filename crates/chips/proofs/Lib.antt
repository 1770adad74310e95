pub mod Memory
pub mod Finds
pub mod Steps
