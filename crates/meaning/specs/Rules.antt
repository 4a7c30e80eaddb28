-- The rules: one file for one section of document 01, or for one idea in it, each in the document's words.
-- ---- the numbers that a call answers with, and the limits
pub mod Limits
pub mod Numbers
-- ---- "The node list"
pub mod Kinds
pub mod Trees
-- ---- what several sections use: the lowest number that passes a test, words as bits, refusals in order, lent slices
pub mod Search
pub mod Words
pub mod Lent
pub mod Refusals
-- ---- numbers 1 to 8, and 10: sizes and layout; "Verification", and 000's own verifier to hold it against; "Evaluable"
pub mod Layout
pub mod Reach
pub mod Verification
pub mod PathByPath
pub mod Evaluable
-- ---- "Answers of a node"
pub mod Answers
pub mod Assignments
pub mod Pairs
-- ---- "Comparison and separation", and the verdict (document 002)
pub mod Comparison
pub mod Separation
pub mod Verdict
-- ---- "Truth-table routines"; "Canonical list"
pub mod Tables
pub mod Folding
pub mod Listing
pub mod Canonical
-- ---- the whole outcome of each public call
pub mod Calls
