-- a list that the verifier lets pass is prepared
pub mod Prepared
-- the work space after the pass, whole
pub mod Written
-- its answers are the plain evaluator's
pub mod Same
