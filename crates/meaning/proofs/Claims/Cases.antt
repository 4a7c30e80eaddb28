-- The examples of document 01 that it does not mark, as far as they are small, and a line for each case of each rule, so
-- that a slip in a definition is seen here: one table for one file of Rules, each under one claim.
pub mod Layouts
pub mod Verifications
pub mod Walks
pub mod Soundness
pub mod Evaluations
pub mod Comparisons
pub mod Separations
pub mod Tables
pub mod Canonicals
pub mod Verdicts
pub mod Outcomes
