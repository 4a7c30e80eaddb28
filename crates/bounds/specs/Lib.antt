-- the search for a variable at n or above
pub mod Bounds
