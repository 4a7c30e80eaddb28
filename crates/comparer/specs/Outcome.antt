-- The comparison's call, way by way: what is answered, and what the work space holds.
use Rattle.std.specs.Prelude.{ℕ, ◌+◌, ◌≤◌, ◌≡◌, ◌≢◌, List, [], ◌∷◌, true, false, cond, length, leb, Ok, Err}
use Rattle.std.proofs.Math.Path.{refl, sym, ap}
use Rattle.std.proofs.Common.{◌∙◌}
use borrow.Author.Tests.{leb-true, eq-eqb, ne_eqb}
use Rattle.meaning.specs.declared.Refusal.{Refusal}
use Rattle.meaning.specs.Rules.Comparison.{Comparison}
use Rattle.meaning.specs.Rules.Limits.{most_inputs, variable_count}
use Rattle.meaning.specs.Rules.Numbers.{many_inputs}
use Rattle.meaning.specs.Rules.Trees.{Tree, same, root_of}
use Rattle.meaning.specs.Rules.Lent.{cleared}
use Rattle.meaning.specs.Rules.Refusals.{is_done, asked, ◌then◌, require, work_after}
use Rattle.meaning.specs.Rules.Refusals as refusals
use Rattle.meaning.specs.Rules.Layout.{sizes, work_for, room}
use Rattle.meaning.specs.Rules.Evaluable.{sound}
use Rattle.meaning.specs.Rules.Assignments.{inputs}
use Rattle.meaning.specs.Rules.Comparison.{few_inputs, equivalent, compare_trees, comparison_refused, found, comparison_result}
use Rattle.meaning.specs.Rules.Calls.{compare_refusal, comparison, compared, Compared, compare}
use Rattle.meaning.specs.Claims.Terms.{Says}
use Rattle.meaning.proofs.Laws.RefusalLaws.{require_done, work_cleared, with_done, with_refused, done_of_ok, refused_of_err, asked_is}
use Rattle.meaning.proofs.Laws.NumberLaws.{then_go, then_stop, then_joined, then_says, never}
use Rattle.meaning.proofs.Laws.ColumnLaws.{sound_says, few_says}
use Rattle.inputs.specs.Driving.{Drivable}
use Rattle.inputs.specs.Inputs.{inputs_below}
use Rattle.inputs.specs.Room.{undriven_bytes, undriven_length, fresh_undriven, blanks_length}
use Rattle.sizes.specs.Lent.{lent_both_row, both_room, both_keeps}
use Rattle.columns.specs.ColumnLaws.{cleared_alike}
use Rattle.comparer.specs.Both.{tree_test}
use Rattle.comparer.specs.Searched.{searched, searched_result, same_trees, other_trees}

-- ---- trees that are not the same: 9, or the search
abbrev pub few_row : Tree → Refusal
few_row t = require (leb (length (inputs t)) most_inputs) many_inputs

pub few_passed : (t : Tree) → (few_row t).number ≡ 0 → length (inputs t) ≤ most_inputs
few_passed t h =
    leb-true (length (inputs t)) most_inputs (require_done (leb (length (inputs t)) most_inputs) 8 (eq-eqb (few_row t).number 0 h))

unfoldable pub other_answer : Tree → Tree → Comparison
other_answer t u = cond (is_done (few_row t)) (searched t u) (comparison_refused (few_row t))

pub other_refused : (t u : Tree) → (few_row t).number ≢ 0 → comparison_refused (few_row t) ≡ other_answer t u
unfolding other_answer
other_refused t u h = rw (ne_eqb (few_row t).number 0 h) refl

pub other_searched : (t u : Tree) → (few_row t).number ≡ 0 → searched t u ≡ other_answer t u
unfolding other_answer
other_searched t u h = rw (eq-eqb (few_row t).number 0 h) refl

-- the same of what the code answers
module _ (t u : Tree) where
  few_answered : asked (leb (length (inputs t)) most_inputs) many_inputs ≡ refusals.answered (few_row t)
  few_answered = asked_is (leb (length (inputs t)) most_inputs) 8

  module _ (e : Refusal) (stop : asked (leb (length (inputs t)) most_inputs) many_inputs ≡ Err e) where
    pub few_stops : Err e ≡ comparison_result (other_answer t u)
    few_stops =
        let refused = refused_of_err (few_row t) e (sym few_answered ∙ stop) in
        ap Err (sym refused.0) ∙ sym (with_refused (few_row t) (found (comparison_refused (few_row t))) refused.1)
        ∙ ap comparison_result (other_refused t u refused.1)

  module _ (go : asked (leb (length (inputs t)) most_inputs) many_inputs ≡ Ok tt) where
    few_done : (few_row t).number ≡ 0
    few_done = done_of_ok (few_row t) (sym few_answered ∙ go)

    pub few_enough : length (inputs t) ≤ most_inputs
    few_enough = few_passed t few_done

    -- what the search drives
    pub to_drive : (vs bytes : List ℕ) → vs ≡ inputs t → bytes ≡ undriven_bytes variable_count → Drivable vs bytes
    to_drive vs bytes named blank = record {
      few = rw named few_enough;
      within = inputs_below t vs (length bytes) named (ap length blank ∙ undriven_length variable_count);
      others = rw blank (fresh_undriven vs variable_count);
    }

    pub few_go : Ok (found (searched t u)) ≡ comparison_result (other_answer t u)
    few_go = sym (searched_result t u) ∙ ap comparison_result (other_searched t u few_done)

module _ (ns ps ms qs : List ℕ) where
  -- 3 to 8 of the first list, then of the second
  abbrev pub both_row : Refusal
  both_row = sound ns ps then sound ms qs

  -- and 9
  abbrev pub rest_row : Refusal
  rest_row = sound ns ps then sound ms qs then few_inputs (root_of ns ps) (root_of ms qs)

  -- what they leave to be answered
  unfoldable pub rest_answer : Comparison
  rest_answer = cond (is_done rest_row) (compare_trees (root_of ns ps) (root_of ms qs)) (comparison_refused rest_row)

  abbrev few : Refusal
  few = few_inputs (root_of ns ps) (root_of ms qs)

  joined : (both_row then few) ≡ rest_row
  joined = then_joined (sound ns ps) (sound ms qs) few

  -- ---- a list is refused
  pub rest_refused : both_row.number ≢ 0 → comparison_refused both_row ≡ rest_answer
  unfolding rest_answer
  rest_refused h =
      let whole : rest_row ≡ both_row = sym joined ∙ then_stop both_row few h in
      rw (whole, ne_eqb both_row.number 0 h) refl

  module _ (done : both_row.number ≡ 0) where
    whole : rest_row ≡ few
    whole = sym joined ∙ then_go both_row few done

    -- ---- the trees are the same, however many variables they have
    pub rest_same : same (root_of ns ps) (root_of ms qs) ≡ true → equivalent ≡ rest_answer
    unfolding rest_answer
    rest_same e = rw (whole, e) (same_trees (root_of ns ps) (root_of ms qs) e)

    -- ---- they are not
    pub rest_other : same (root_of ns ps) (root_of ms qs) ≡ false → other_answer (root_of ns ps) (root_of ms qs) ≡ rest_answer
    unfolding rest_answer other_answer
    rest_other e = rw (whole, e, other_trees (root_of ns ps) (root_of ms qs) e) refl

  -- ---- the same of what the code answers
  module _ (e : Refusal) (stop : refusals.answered both_row ≡ Err e) where
    pub both_stop : Err e ≡ comparison_result rest_answer
    both_stop =
        let refused = refused_of_err both_row e stop in
        ap Err (sym refused.0) ∙ sym (with_refused both_row (found (comparison_refused both_row)) refused.1) ∙ ap comparison_result (rest_refused refused.1)

  module _ (go : refusals.answered both_row ≡ Ok tt) where
    pub same_found : same (root_of ns ps) (root_of ms qs) ≡ true → Ok (found equivalent) ≡ comparison_result rest_answer
    same_found e = ap comparison_result (rest_same (done_of_ok both_row go) e)

    pub other_found : same (root_of ns ps) (root_of ms qs) ≡ false → comparison_result (other_answer (root_of ns ps) (root_of ms qs)) ≡ comparison_result rest_answer
    other_found e = ap comparison_result (rest_other (done_of_ok both_row go) e)

  -- ---- the call
  module _ (work : List ℕ) where
    abbrev lent : Refusal
    lent = lent_both_row ns ps ms qs (length work)

    row : (lent then rest_row) ≡ compare_refusal ns ps ms qs (length work)
    unfolding compare_refusal
    row =
        let last : Refusal = room (work_for ns ps + work_for ms qs) (length work) in
        then_joined (sizes ns ps) (sizes ms qs then last) rest_row
        ∙ ap (λ (x : Refusal). sizes ns ps then x) (then_joined (sizes ms qs) last rest_row)

    outcome : (r : Refusal) (c : Comparison) (left : List ℕ) → r ≡ (lent then rest_row)
        → c ≡ cond (is_done r) (compare_trees (root_of ns ps) (root_of ms qs)) (comparison_refused r) → left ≡ work_after r work
        → compared c left ≡ compare ns ps ms qs work
    unfolding compare comparison
    outcome r c left is f g = let whole : r ≡ compare_refusal ns ps ms qs (length work) = is ∙ row in rw (f, g, whole) refl

    -- 1, 2 or 10 refuses
    pub refused_lent : lent.number ≢ 0 → compared (comparison_refused lent) work ≡ compare ns ps ms qs work
    refused_lent h =
        outcome lent (comparison_refused lent) work (sym (then_stop lent rest_row h)) (rw (ne_eqb lent.number 0 h) refl) (sym (both_keeps ns ps ms qs work h))

    -- the rest of the row answers
    pub answered : lent.number ≡ 0 → compared rest_answer (cleared work) ≡ compare ns ps ms qs work
    unfolding cleared rest_answer
    answered h = outcome rest_row rest_answer (cleared work) (sym (then_go lent rest_row h)) refl (sym swept)
      where
        says : Says rest_row (3 ∷ 4 ∷ 5 ∷ 6 ∷ 7 ∷ 8 ∷ 3 ∷ 4 ∷ 5 ∷ 6 ∷ 7 ∷ 8 ∷ 9 ∷ [])
        says = then_says (sound_says ns ps) (then_says (sound_says ms qs) (few_says ns ps ms qs))

        swept : work_after rest_row work ≡ cleared work
        swept = work_cleared rest_row work (never says 1 refl) (never says 2 refl) (never says 10 refl)

    -- ---- the same of what the code answers
    module _ (e : Refusal) (stop : refusals.answered lent ≡ Err e) where
      stopped : compared (comparison_refused lent) work ≡ compare ns ps ms qs work
      stopped = refused_lent (refused_of_err lent e stop).1

      pub lent_answer : Err e ≡ comparison_result (compare ns ps ms qs work).answer
      lent_answer =
          let refused = refused_of_err lent e stop in
          ap Err (sym refused.0) ∙ sym (with_refused lent (found (comparison_refused lent)) refused.1) ∙ ap (λ (x : Compared). comparison_result x.answer) stopped

      pub lent_work : work ≡ (compare ns ps ms qs work).work
      lent_work = ap (λ (x : Compared). x.work) stopped

    module _ (go : refusals.answered lent ≡ Ok tt) where
      rest_whole : compared rest_answer (cleared work) ≡ compare ns ps ms qs work
      rest_whole = answered (done_of_ok lent go)

      pub rest_answers : comparison_result rest_answer ≡ comparison_result (compare ns ps ms qs work).answer
      rest_answers = ap (λ (x : Compared). comparison_result x.answer) rest_whole

      pub rest_works : cleared work ≡ (compare ns ps ms qs work).work
      rest_works = ap (λ (x : Compared). x.work) rest_whole

-- what the proofs of the call, of what is left past 10 and past the tree test rest on
pub ruleset call = (lent_answer, lent_work, rest_answers, rest_works, both_room, cleared_alike)

pub ruleset past_10 = (both_stop, same_found, other_found, tree_test)

pub ruleset past_trees = (few_stops, few_enough, to_drive, few_go, blanks_length)
