-- which words may stand in a case's row
pub mod Cases
