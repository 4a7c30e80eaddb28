-- how much of the list can still come
pub mod Weights
-- the path of the walk, and what is left to be seen along it
pub mod Path
-- the entries, the numbers and the path
pub mod Table
-- one more entry, and stores that leave the entries
pub mod More
-- the moves of the walk: to the next child; a node more on the path; a node that gets its number
pub mod Next
pub mod Opening
pub mod Closing
-- what each step writes and answers
pub mod Steps
-- the walk, step by step
pub mod Walk
-- its beginning, its end, and how near it is
pub mod Ends
-- one turn
pub mod Turn
