-- one node's turn: what is written below it, what its own row holds after it, and what stays
pub mod Turns
-- the Lut that a node is, and its operands by their homes
pub mod Operands
-- what makes a row hold a node's normal form
pub mod Stores
