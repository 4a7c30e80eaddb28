-- the list's words as the rows of the work space say them
pub mod Words
-- one entry's words, case by case
pub mod Entry
-- how many words there are
pub mod Sizes
-- words stored one after another
pub mod Stores
-- the words of one entry stored behind those of the entries before it
pub mod Writing
-- the words of a list of subtrees, with one subtree more at its end
pub mod Ends
-- the rows' words are those of the canonical list
pub mod Canonical
