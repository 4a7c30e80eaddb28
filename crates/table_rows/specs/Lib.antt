-- programs made row by row, rows with a bit put in or two exchanged, and an operand that is ignored
pub mod RowLaws
-- the halves are the cofactors in the most significant operand
pub mod Halves
