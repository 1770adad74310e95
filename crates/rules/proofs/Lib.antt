pub mod RowWords
pub mod Answering
