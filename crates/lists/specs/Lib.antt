-- numbers in a range
pub mod Cases
-- a loop that asks a test of each member of a list
pub mod Scan
-- what code may rely on once a list is laid out right
pub mod Laid
