-- three words that say an answer are its block
pub mod Said
