-- whether lent words are as they are to be, word by word
pub mod Left
