-- a text that was read
pub mod Texts
