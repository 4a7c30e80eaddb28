-- the judgement by the search's index
pub mod Judged
-- the call, way by way
pub mod Outcome
-- demand 3, of an answer
pub mod Demand
