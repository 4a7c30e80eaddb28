-- input bytes one by one: of the range test, of the order of reading and of the row
pub mod Bytes
