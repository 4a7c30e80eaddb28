-- the words of a result with two answers
pub mod Words
