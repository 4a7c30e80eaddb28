-- what the row of tests leaves in the work space, column by column
pub mod Left
-- the row of tests, and the verifier's call, way by way
pub mod Outcome
-- what a caller of `sound` may rely on, column by column
pub mod Held
-- the row of tests 3 to 8 by what the code answers
pub mod Answered
