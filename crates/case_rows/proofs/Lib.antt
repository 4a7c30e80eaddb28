-- whether no word of a row is too large, word by word
pub mod Words
