-- which words may stand in a case's row
pub mod Cases
-- that outputs can be looked at after a call
pub mod Outputs
-- that reading an expected list gets on in the text
pub mod Written
-- what a comparison says
pub mod Verdicts
-- what a case expects, and whether what was seen differs
pub mod Judgement
