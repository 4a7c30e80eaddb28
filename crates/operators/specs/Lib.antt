-- how wide an answer is, and that the operators keep it
pub mod Widths
-- a loop over a Lut's operands or a Bus's members
pub mod Folds
