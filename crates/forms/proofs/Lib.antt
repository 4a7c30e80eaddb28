-- a row that is read and stored word by word, and a pass that begins
pub mod Steps
