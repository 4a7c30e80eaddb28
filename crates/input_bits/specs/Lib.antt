-- the variables seen so far
pub mod Seen
