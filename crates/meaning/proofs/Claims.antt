-- What is claimed of the rules, in the terms of specs/Claims. Each claim is proved in a line or two from the laws.
-- ---- the customer's demands 1, 2 and 3
pub mod Demands
-- ---- each number exactly when: the calls over node lists; the truth-table routines and the verdict's name
pub mod Numbers
pub mod Tables
-- ---- what each node's pair says, and where it stands
pub mod Pairs
-- ---- no second outcome meets a contract
pub mod Only
-- ---- reachable and least Cycle depth mean paths; the tests of equality mean equality
pub mod Reach
-- ---- verification says yes or no as 000's own verifier does
pub mod PathByPath
-- ---- the examples that document 01 marks *, and a line for each case of each rule
pub mod Examples
pub mod Cases
