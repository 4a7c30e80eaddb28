-- a list that the numbers 1 to 8 let pass
pub mod Accepted
-- the variables that a user is shown
pub mod Shown
