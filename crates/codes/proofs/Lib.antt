pub mod Powers
pub mod Maps
pub mod Offsets
pub mod Checks
pub mod Halves
pub mod Runs
