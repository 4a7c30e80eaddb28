-- The marks are what is meant: a node counts exactly when a path leads to it from the root, and its mark tells the least
-- number of Cycle nodes on any such path (document 01, "Verification"). And the tests of equality are equality.
use Rattle.std.specs.Prelude.{ℕ, ◌-◌, ◌≤◌, ◌<◌, ◌≡◌, ◌↔◌, List, true}
use Rattle.std.proofs.Common.{arith, lt-ltb, ltb-true}
use Rattle.meaning.specs.declared.Answer.{Answer}
use Rattle.meaning.specs.Rules.Trees.{Tree, same, node_count}
use Rattle.meaning.specs.Rules.Reach.{PathTo, mark_of, reachable}
use Rattle.meaning.specs.Rules.Comparison.{same_answer}
use Rattle.meaning.proofs.Laws.TreeLaws.{same_eq, eq_same}
use Rattle.meaning.proofs.Laws.AssignmentLaws.{same_answer_eq, eq_same_answer}
use Rattle.meaning.proofs.Laws.PathLaws.{mark_path, mark_least}

module _ (ns ps : List ℕ) where
  -- "reachable from the root, itself included"
  pub reachable_exactly : (i : ℕ) → i < node_count ns → (reachable ns ps i ≡ true) ↔ ((d : ℕ) × PathTo ns ps i d)
  reachable_exactly i h = (
    λ r. (mark_of ns ps i - 1, mark_path ns ps i h (ltb-true 0 (mark_of ns ps i) r)),
    λ p. lt-ltb 0 (mark_of ns ps i) (mark_least ns ps p.1).0,
  )

  -- "the least number of Cycle nodes over it on any path from the root": there is such a path, and none has fewer
  pub depth_attained : (i : ℕ) → i < node_count ns → reachable ns ps i ≡ true → PathTo ns ps i (mark_of ns ps i - 1)
  depth_attained i h r = mark_path ns ps i h (ltb-true 0 (mark_of ns ps i) r)

  pub depth_least : (i d : ℕ) → PathTo ns ps i d → mark_of ns ps i - 1 ≤ d
  depth_least i d p = omega (arith, mark_least ns ps p)

-- two terms are the same tree, two answers the same answer, exactly when the test says so
pub same_exactly : (t u : Tree) → (same t u ≡ true) ↔ (t ≡ u)
same_exactly t u = (same_eq t u, eq_same t u)

pub same_answer_exactly : (x y : Answer) → (same_answer x y ≡ true) ↔ (x ≡ y)
same_answer_exactly x y = (same_answer_eq x y, eq_same_answer x y)
