-- what is asked of the operands, what an answer stands for, and each rule of folding over rows
pub mod Folded
-- an operand taken from a list, the later ones moved down
pub mod Moved
-- the rules over rows are those of meaning's `fold`
pub mod FoldedLaws
