-- the words among the bits of a mask
pub mod Among
-- the next of them
pub mod Next
