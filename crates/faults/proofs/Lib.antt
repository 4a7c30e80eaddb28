-- the rules of a Lut's and an Arg's children, case by case
pub mod Leaves
