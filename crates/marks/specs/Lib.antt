-- what one reached node does: it hands its mark on to its children
pub mod Handing
-- the marks on the way down from the root, and at its end
pub mod Passing
-- a work space that holds the marks
pub mod Marked
