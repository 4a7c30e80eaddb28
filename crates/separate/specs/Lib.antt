-- a number on the command line
pub mod Numbers
