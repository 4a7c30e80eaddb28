-- the numbers f j, f (j + 1), …
pub mod From
-- the first number that passes a test, as a search answers it
pub mod First
-- what a row holds of a node's normal form
pub mod Forms
-- forms stay where the rows that hold them stay
pub mod Kept
-- so they stay when other columns are written
pub mod Same
