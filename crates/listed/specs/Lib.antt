-- the subtrees seen so far: what keeping one more makes of them
pub mod Keeping
-- the entries of the work space, and the trees that they are
pub mod Entries
-- the tests by which an entry is found, and that they tell equal trees
pub mod Likeness
-- the complete list
pub mod Listing
-- one store, cell by cell
pub mod Cells
