-- the variables below a root, as the nodes tell them
pub mod Inputs
-- the bytes of an assignment by its number
pub mod Driving
-- room for variables and for bytes
pub mod Room
