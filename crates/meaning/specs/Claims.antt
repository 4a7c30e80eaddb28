-- The terms in which the claims about the rules are worded (proofs/Claims).
pub mod Terms
pub mod Column
pub mod Drawn
