-- a list found, or nothing; the end of a text
pub mod Parts
