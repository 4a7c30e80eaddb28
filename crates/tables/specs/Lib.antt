-- input bytes in the order of reading, and the row that they are
pub mod Inputs
