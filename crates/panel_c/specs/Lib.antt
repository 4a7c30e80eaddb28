-- the words of each answer
pub mod Words
