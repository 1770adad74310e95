-- definitions
pub mod Plain
pub mod Fence
-- the proofs that the two codes keep the law
pub mod Plains
pub mod Fences
