-- what the rows of the work space hold, and the answer that a row shows
pub mod Rows
-- the root's row
pub mod Root
