-- what a case's row is, and its words one by one
pub mod CaseRows
