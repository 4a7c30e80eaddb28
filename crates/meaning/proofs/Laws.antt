-- The laws: what is proved of the rules, for the proofs of the claims and of the code. A reader of the rules need believe
-- none of this.
-- ---- of one definition each
pub mod BoolLaws
pub mod KindLaws
pub mod SearchLaws
pub mod TreeLaws
pub mod WordLaws
pub mod TableLaws
pub mod AssignmentLaws
pub mod PairLaws
pub mod RefusalLaws
-- ---- the table of numbers: tests as statements, rows of tests, each test's numbers, and the range of a routine
pub mod TestLaws
pub mod NumberLaws
pub mod ColumnLaws
pub mod RangeLaws
-- ---- what a truth-table routine or the verdict says tells its answer
pub mod AnswerLaws
-- ---- reachability: the marks are the least Cycle depth; the inputs are the reachable variables
pub mod ReachLaws
pub mod PathLaws
pub mod InputLaws
-- ---- 000's walk path by path and the marks agree
pub mod PathByPathLaws
-- ---- the canonical list: folding and the normal form keep answers; an accepted root is well made; its list reads back
-- and is accepted
pub mod FoldLaws
pub mod NfLaws
pub mod MadeLaws
pub mod RootLaws
pub mod CleanLaws
pub mod ListingLaws
pub mod CanonicalLaws
-- ---- the demands, tree by tree and call by call
pub mod ComparisonLaws
pub mod SeparationLaws
pub mod KeptLaws
-- what code answers is the whole answer of the rules
pub mod ResultLaws
