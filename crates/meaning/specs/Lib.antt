-- The meaning of document 01, "The exact rules and the build".
-- ==== What a reader must believe: the rules, section by section in document 01's words
pub mod Rules
-- ==== The terms in which the claims are worded; what is claimed and what proves it stand in proofs
pub mod Claims
