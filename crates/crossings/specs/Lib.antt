-- an answer depends on the variables of its tree alone
pub mod Depends
-- "bit v drives variable v", and an assignment with its run bits cleared, by bits
pub mod Driven
-- the assignments in blocks of one cleared self
pub mod Blocks
-- the lowest crossing so far, as the search goes
pub mod Lowest
-- stage after stage, each of more variables
pub mod Stages
-- what the search is given
pub mod Searching
