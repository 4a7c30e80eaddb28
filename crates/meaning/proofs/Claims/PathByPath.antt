-- "Yes or no equals the Rust's" (document 01, "Verification"): verification, which tests a node once under the least number
-- of Cycle nodes over it, passes a list exactly when 000's verifier does, which walks the term path by path.
use Rattle.std.specs.Prelude.{ℕ, ◌≤◌, ◌≡◌, ◌↔◌, List, true, false, length}
use Rattle.meaning.specs.Rules.Layout.{sizes, work_for, layout}
use Rattle.meaning.specs.Rules.Verification.{verification}
use Rattle.meaning.specs.Rules.PathByPath.{verify_expr}
use Rattle.meaning.specs.Rules.Calls.{verify}
use Rattle.meaning.proofs.Laws.PathByPathLaws.{verifies_as_walked, refuses_as_walked, call_verifies}

-- ---- of every list past number 5
module _ (ns ps : List ℕ) (laid : (layout ns ps).number ≡ 0) where
  pub verifies_exactly : ((verification ns ps).number ≡ 0) ↔ (verify_expr ns ps ≡ true)
  verifies_exactly = verifies_as_walked ns ps laid

  pub refuses_exactly : ((verification ns ps).number ≡ 6) ↔ (verify_expr ns ps ≡ false)
  refuses_exactly = refuses_as_walked ns ps laid

  -- ---- and of the call, past 1, 2 and 10, whatever its work space holds
  module _ (work : List ℕ) (sized : (sizes ns ps).number ≡ 0) (lent : work_for ns ps ≤ length work) where
    pub call_verifies_exactly : ((verify ns ps work).answer.number ≡ 0) ↔ (verify_expr ns ps ≡ true)
    unfolding verify
    call_verifies_exactly = rw (call_verifies ns ps (length work) sized lent laid) verifies_exactly

    pub call_refuses_exactly : ((verify ns ps work).answer.number ≡ 6) ↔ (verify_expr ns ps ≡ false)
    unfolding verify
    call_refuses_exactly = rw (call_verifies ns ps (length work) sized lent laid) refuses_exactly
