-- the words of what the canonicaliser answers
pub mod Words
