-- definitions
pub mod Spans
pub mod Meaning
pub mod Writing
pub mod Runs
pub mod Settings
pub mod Coding
pub mod Joined
-- the proof that joined codes keep the law, and that a word written in two parts is the joined word
pub mod Joins
