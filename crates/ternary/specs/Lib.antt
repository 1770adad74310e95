-- definitions
pub mod Bit
pub mod Planes
pub mod Words
pub mod Refusals
-- the proof that `==` of words keeps the laws of a comparison
pub mod Sameness
