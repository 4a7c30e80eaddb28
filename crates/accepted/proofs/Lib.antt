-- the operands of a node: each has an answer, and how wide it is
pub mod Operands
-- what both evaluators do at a node
pub mod Gathered
-- a variable's byte inside the slice
pub mod Bytes
-- the kind that is left where it is none of some others
pub mod Left
