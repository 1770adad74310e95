-- definitions
pub mod Floor
pub mod Setting
pub mod Short
pub mod Digits
pub mod Laws
pub mod Examples
-- the proof that the code keeps the law
pub mod Gray
pub mod Floors
pub mod Circle
pub mod Columns
pub mod Full
pub mod Joined
pub mod Lawful
