-- definitions
pub mod Chip
-- definitions, and the proof of the row chip's law
pub mod Lent
