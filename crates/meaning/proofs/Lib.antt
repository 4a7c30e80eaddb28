-- What holds of the rules. Nothing here is cited by a contract, so a change of a rule that breaks a claim is refused here.
-- ==== What is claimed of them: the demands, the numbers, no second outcome, and the examples
pub mod Claims
-- ==== What is proved, and need not be read to believe the rest
pub mod Laws
