-- the children of two forms, the first asked before the others
pub mod Kids
