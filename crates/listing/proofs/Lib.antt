mod Spans
mod Insert
