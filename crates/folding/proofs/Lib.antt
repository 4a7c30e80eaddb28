-- an operand is taken from a list, one place after another
pub mod Moved
