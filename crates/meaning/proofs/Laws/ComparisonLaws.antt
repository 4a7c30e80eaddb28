-- Two trees compared: Equiv exactly when demand 2 says, else the lowest deciding assignment.
use Rattle.std.specs.Prelude.{ℕ, ◌+◌, ◌≤◌, ◌<◌, ◌≡◌, ◌↔◌, ◌⊎◌, ◌≢◌, List, Bool, true, false, cond, ◌&&◌, ◌||◌, length, leb, eqb}
use Rattle.std.proofs.Math.Path.{refl}
use Rattle.std.proofs.Common.{ap, subst, inl, inr, arith}
use Rattle.std.proofs.Math.Logic.{⊎_elim}
use Rattle.std.proofs.Math.Bool.{or-true}
use Rattle.std.proofs.Math.Decide.{dec_lt}
use borrow.Author.Tests.{leb-true, eqb-true, eqb-false, eq-eqb}
use Rattle.meaning.specs.declared.Answer.{Answer}
use Rattle.meaning.specs.declared.Check.TheVariants.{Equiv, NotEquiv, Inconclusive}
use Rattle.meaning.specs.Rules.Comparison.{Comparison}
use Rattle.meaning.proofs.Laws.BoolLaws.{true_false, and_left, and_right, and_both, not_is_true, not_is_false, or_cases, or_right_false}
use Rattle.meaning.proofs.Laws.SearchLaws.{IsLowest, lowest_is}
use Rattle.meaning.specs.Rules.Limits.{most_inputs}
use Rattle.meaning.specs.Rules.Search.{lowest}
use Rattle.meaning.specs.Rules.Trees.{Tree, same, root_of}
use Rattle.meaning.proofs.Laws.TreeLaws.{same_eq, eq_same}
use Rattle.meaning.specs.Rules.Answers.{Assignment, answer}
use Rattle.meaning.specs.Rules.Refusals.{is_done, done}
use Rattle.meaning.specs.Rules.Assignments.{inputs, drive}
use Rattle.meaning.specs.Rules.Layout.{sizes, work_for, room}
use Rattle.meaning.specs.Rules.Evaluable.{sound}
use Rattle.meaning.specs.Rules.Calls.{compare_refusal, comparison}
use Rattle.meaning.proofs.Laws.RefusalLaws.{then_rest, require_done, is_done_lem}
use Rattle.meaning.specs.Rules.Comparison.{is_value, same_answer, agree, decides, assignments, deciding_index, verdict_of, equivalent, decided_at, compare_trees, comparison_refused}
use Rattle.meaning.proofs.Laws.AssignmentLaws.{same_answer_eq, same_answer_refl, drive_assigns, number, number_lt, assigns_number}
use Rattle.meaning.specs.Claims.Terms.{OneValue, EverywhereEqual, first, second, Decided}

agree_one : (x y : Answer) → agree x y ≡ true → OneValue x y
agree_one x y h = (same_answer_eq x y (and_right (is_value x) (same_answer x y) h), and_left (is_value x) (same_answer x y) h)

one_agree : (x y : Answer) → OneValue x y → agree x y ≡ true
one_agree x y o =
    and_both (is_value x) (same_answer x y) o.1 (subst (λ (z : Answer). same_answer x z ≡ true) o.0 (same_answer_refl x))

-- a verdict at an assignment is never Equiv
decided_not_equiv : (x y : Answer) → verdict_of x y ≡ Equiv → ⊥
decided_not_equiv x y h = go (is_value x && is_value y) h
  where
    go : (b : Bool) → cond b NotEquiv Inconclusive ≡ Equiv → ⊥
    go true e = let z : ◌≡◌ {A = ℕ} 0 1 = cc in omega arith
    go false e = let z : ◌≡◌ {A = ℕ} 0 1 = cc in omega arith

module _ (t u : Tree) where
  found : IsLowest (decides (inputs t) t u) 0 (assignments t) (deciding_index t u)
  unfolding deciding_index
  found = lowest_is (decides (inputs t) t u) (assignments t)

  before : (j : ℕ) → j < deciding_index t u → OneValue (first t u j) (second t u j)
  before j h = agree_one (first t u j) (second t u j) (not_is_false (agree (first t u j) (second t u j)) (found.before j (omega arith) h))

  at_index : deciding_index t u < assignments t → OneValue (first t u (deciding_index t u)) (second t u (deciding_index t u)) → ⊥
  at_index h o =
      true_false (one_agree _ _ o) (not_is_true (agree (first t u (deciding_index t u)) (second t u (deciding_index t u))) (found.passes h))

  everywhere : deciding_index t u ≡ assignments t → EverywhereEqual t u
  everywhere e α a =
      subst (λ (β : Assignment). OneValue (answer β t) (answer β u)) (assigns_number (inputs t) α a)
      (before (number (inputs t) α) (omega (arith, number_lt (inputs t) α a.on)))

  nowhere : EverywhereEqual t u → deciding_index t u ≡ assignments t
  nowhere all = elim (dec_lt (deciding_index t u) (assignments t)) [
    | yes h ↦ absurd (at_index h (all (drive (inputs t) (deciding_index t u)) (drive_assigns (inputs t) (deciding_index t u))))
    | no h ↦ omega (arith, found.within)
  ]

  -- the test that compare_trees makes
  abbrev equal : Bool
  equal = same t u || eqb (deciding_index t u) (assignments t)

  equal_is : equal ≡ true → compare_trees t u ≡ equivalent
  unfolding compare_trees
  equal_is h = rw h

  unequal_is : equal ≡ false → compare_trees t u ≡ decided_at (deciding_index t u) (first t u (deciding_index t u)) (second t u (deciding_index t u))
  unfolding compare_trees
  unequal_is h = rw h

  equal_if : (t ≡ u) ⊎ EverywhereEqual t u → equal ≡ true
  equal_if (inl e) = rw (eq_same t u e) refl
  equal_if (inr all) = rw (eq-eqb (deciding_index t u) (assignments t) (nowhere all)) (or-true (same t u))

  -- "Equiv exactly if the two terms are the same tree or every assignment .. gives both roots one equal value"
  pub equiv_exactly : ((compare_trees t u).verdict ≡ Equiv) ↔ ((t ≡ u) ⊎ EverywhereEqual t u)
  equiv_exactly = (λ h. go equal refl h, λ h. ap (λ (c : Comparison). c.verdict) (equal_is (equal_if h)))
    where
      go : (b : Bool) → equal ≡ b → (compare_trees t u).verdict ≡ Equiv → (t ≡ u) ⊎ EverywhereEqual t u
      go true e h = ⊎_elim (λ s. inl (same_eq t u s)) (λ q. inr (everywhere (eqb-true (deciding_index t u) (assignments t) q)))
          (or_cases (same t u) (eqb (deciding_index t u) (assignments t)) e)
      go false e h =
          absurd (decided_not_equiv (first t u (deciding_index t u)) (second t u (deciding_index t u)) (rw (unequal_is e) at h))

  pub otherwise_lowest : (compare_trees t u).verdict ≢ Equiv → Decided t u (compare_trees t u)
  otherwise_lowest h = go equal refl
    where
      below : equal ≡ false → deciding_index t u < assignments t
      below e =
          omega (arith, found.within, eqb-false (deciding_index t u) (assignments t) (or_right_false (same t u) (eqb (deciding_index t u) (assignments t)) e))

      go : (b : Bool) → equal ≡ b → Decided t u (compare_trees t u)
      go true e = absurd (h (ap (λ (c : Comparison). c.verdict) (equal_is e)))
      go false e = rw (unequal_is e) (record {
        exists = below e;
        fails = at_index (below e);
        lowest = before;
        answers = (refl, refl);
        verdict = refl;
      })

-- two trees compared answer with no refusal
pub compared_done : (t u : Tree) → (compare_trees t u).refusal ≡ done
unfolding compare_trees
compared_done t u = go (same t u || eqb (deciding_index t u) (assignments t))
  where
    go : (b : Bool) → (cond b equivalent (decided_at (deciding_index t u) (first t u (deciding_index t u)) (second t u (deciding_index t u)))).refusal ≡ done
    go true = refl
    go false = refl

-- ---- a call that is not refused
module _ (ns ps ms qs : List ℕ) (work : ℕ) (done : (comparison ns ps ms qs work).refusal.number ≡ 0) where
  passed : is_done (compare_refusal ns ps ms qs work) ≡ true
  unfolding comparison
  passed = is_done_lem (λ c. c.refusal) (compare_refusal ns ps ms qs work) (compare_trees (root_of ns ps) (root_of ms qs)) (comparison_refused (compare_refusal ns ps ms qs work)) refl done

  pub compared_trees : comparison ns ps ms qs work ≡ compare_trees (root_of ns ps) (root_of ms qs)
  unfolding comparison
  compared_trees = rw passed

  -- number 9 has let only equal trees pass with more inputs than 30
  pub few_inputs : root_of ns ps ≢ root_of ms qs → length (inputs (root_of ns ps)) ≤ most_inputs
  unfolding compare_refusal
  few_inputs h =
      let t = root_of ns ps in
      let u = root_of ms qs in
      let few =
      then_rest (sound ms qs) _ (then_rest (sound ns ps) _ (then_rest (room (work_for ns ps + work_for ms qs) work) _
      (then_rest (sizes ms qs) _ (then_rest (sizes ns ps) _ passed)))) in
      ⊎_elim (λ s. absurd (h (same_eq t u s))) (λ l. leb-true (length (inputs t)) most_inputs l)
      (or_cases (same t u) (leb (length (inputs t)) most_inputs) (require_done _ 8 few))
