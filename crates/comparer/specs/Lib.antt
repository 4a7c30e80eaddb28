-- the search for the lowest deciding assignment
pub mod Searched
-- two lists past number 8 in one work space
pub mod Both
-- the call, way by way
pub mod Outcome
-- demand 2, of an answer
pub mod Demand
