-- the words of an answer
pub mod Said
