-- what a turn does to the tally, and that the turns end
pub mod Counts
