-- that a turn gets on in the text
pub mod Turns
-- the tally of a loop over the cases, turn by turn
pub mod Tallies
