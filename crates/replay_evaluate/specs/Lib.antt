-- which words may stand in a case's row
pub mod Cases
-- that reading what it lends and expects gets on in the text
pub mod Inputs
