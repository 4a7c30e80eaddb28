-- how many variables are found so far
pub mod Counted
