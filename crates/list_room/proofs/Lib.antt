-- so many zeros, written out and not
pub mod Zeros
