-- whether two rows of words are the same, word by word
pub mod Words
