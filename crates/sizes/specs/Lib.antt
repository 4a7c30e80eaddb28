-- a list past numbers 1 and 2 is within the limits
pub mod Within
-- numbers 1, 2 and 10 of a call that is brought one list or two
pub mod Lent
