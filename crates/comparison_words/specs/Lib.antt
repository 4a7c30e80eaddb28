-- the words of a comparison
pub mod Words
