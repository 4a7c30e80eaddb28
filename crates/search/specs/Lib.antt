-- the tests that are made node by node, and the search for the lowest faulty node
pub mod Search
