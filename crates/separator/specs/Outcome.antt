-- The separation's call, way by way: what is answered, and what the work space holds.
use Rattle.std.specs.Prelude.{ℕ, ◌*◌, ◌^◌, ◌≤◌, ◌≡◌, ◌≢◌, List, [], ◌∷◌, Bool, true, false, cond, length, eqb, Ok, Err}
use Rattle.std.proofs.Math.Path.{refl, ap}
use Rattle.std.proofs.Common.{sym, ◌∙◌, arith, eq-eqb, eqb-true, ne_eqb}
use Rattle.meaning.specs.Rules.Limits.{work_per_node}
use Rattle.meaning.specs.declared.Refusal.{Refusal}
use Rattle.meaning.specs.Rules.Separation.{Separation}
use Rattle.meaning.specs.Rules.Trees.{Tree, node_count, root_of}
use Rattle.meaning.specs.Rules.Answers.{answer}
use Rattle.meaning.specs.Rules.Assignments.{upto, drive}
use Rattle.meaning.specs.Rules.Lent.{cleared}
use Rattle.meaning.specs.Rules.Refusals.{is_done, ◌then◌, work_after}
use Rattle.meaning.specs.Rules.Refusals as refusals
use Rattle.meaning.specs.Rules.Layout.{sizes, work_for, room}
use Rattle.meaning.specs.Rules.Evaluable.{sound}
use Rattle.meaning.specs.Rules.Separation.{in_bounds, bounded, run_cleared, crossing_index, separated, crossing_at, separate_tree, separation_refused, found, separation_result}
use Rattle.meaning.specs.Rules.Calls.{separate_refusal, separation, judged, Judged, separate}
use Rattle.meaning.specs.Claims.Terms.{Says}
use Rattle.meaning.proofs.Laws.RefusalLaws.{then_first, then_rest, require_done, work_cleared, with_refused, done_of_ok, refused_of_err}
use Rattle.meaning.proofs.Laws.NumberLaws.{then_go, then_stop, then_joined, then_says, never}
use Rattle.meaning.proofs.Laws.ColumnLaws.{sound_says, bounded_says}
use Rattle.sizes.specs.Lent.{lent_row, lent_room, lent_keeps}
use Rattle.columns.specs.ColumnLaws.{cleared_alike}
use Rattle.verifier.specs.Left.{sound_work}
use Rattle.rows.specs.Rows.{Prepared}
use Rattle.pass.specs.Prepared.{sound_prepares}

-- a judgement refuses nothing, so its result is what it found
pub judged_result : (t : Tree) (n run : ℕ) → separation_result (separate_tree t n run) ≡ Ok (found (separate_tree t n run))
unfolding separate_tree
judged_result t n run = by_end (eqb (crossing_index t n run) (2 ^ n))
  where
    i : ℕ
    i = crossing_index t n run

    last : Separation
    last = crossing_at i (answer (drive (upto n) i) t) (answer (run_cleared run (drive (upto n) i)) t)

    by_end : (b : Bool) → separation_result (cond b separated last) ≡ Ok (found (cond b separated last))
    by_end true = refl
    by_end false = refl

module _ (ns ps : List ℕ) (n run : ℕ) where
  -- 3 to 8, then 11
  abbrev pub rest_row : Refusal
  rest_row = sound ns ps then bounded ns n run

  -- what they leave to be answered
  unfoldable pub rest_answer : Separation
  rest_answer = cond (is_done rest_row) (separate_tree (root_of ns ps) n run) (separation_refused rest_row)

  pub rest_refused : rest_row.number ≢ 0 → separation_refused rest_row ≡ rest_answer
  unfolding rest_answer
  rest_refused h = rw (ne_eqb rest_row.number 0 h) refl

  module _ (done : rest_row.number ≡ 0) where
    passed : is_done rest_row ≡ true
    passed = eq-eqb rest_row.number 0 done

    pub rest_sound : is_done (sound ns ps) ≡ true
    rest_sound = then_first (sound ns ps) (bounded ns n run) passed

    pub rest_bounds : in_bounds ns n run ≡ true
    rest_bounds = require_done (in_bounds ns n run) 10 (then_rest (sound ns ps) (bounded ns n run) passed)

    pub rest_judged : separate_tree (root_of ns ps) n run ≡ rest_answer
    unfolding rest_answer
    rest_judged = rw passed refl

  -- ---- the same of what the code answers
  refused_row : rest_row.number ≢ 0 → Err rest_row ≡ separation_result rest_answer
  refused_row h = sym (with_refused rest_row (found (separation_refused rest_row)) h) ∙ ap separation_result (rest_refused h)

  pub list_stops : (e : Refusal) → refusals.answered (sound ns ps) ≡ Err e → Err e ≡ separation_result rest_answer
  list_stops e stop =
      let refused = refused_of_err (sound ns ps) e stop in
      let row : rest_row ≡ sound ns ps = then_stop (sound ns ps) (bounded ns n run) refused.1 in
      ap Err (sym refused.0 ∙ sym row) ∙ refused_row (rw row refused.1)

  module _ (go : refusals.answered (sound ns ps) ≡ Ok tt) where
    past_8 : rest_row ≡ bounded ns n run
    past_8 = then_go (sound ns ps) (bounded ns n run) (done_of_ok (sound ns ps) go)

    pub bounds_stop : (e : Refusal) → refusals.answered (bounded ns n run) ≡ Err e → Err e ≡ separation_result rest_answer
    bounds_stop e stop =
        let refused = refused_of_err (bounded ns n run) e stop in
        ap Err (sym refused.0 ∙ sym past_8) ∙ refused_row (rw past_8 refused.1)

    pub prepared : (work : List ℕ) → work_per_node * node_count ns ≤ length work → Prepared ns ps 0 (sound_work ns ps 0 work)
    prepared work room = sound_prepares ns ps 0 work (omega (arith, room)) (done_of_ok (sound ns ps) go)

    module _ (bounds : refusals.answered (bounded ns n run) ≡ Ok tt) where
      past_11 : rest_row.number ≡ 0
      past_11 = rw past_8 (done_of_ok (bounded ns n run) bounds)

      pub marks_in_bounds : in_bounds ns n run ≡ true
      marks_in_bounds = rest_bounds past_11

      pub tree_judged : Ok (found (separate_tree (root_of ns ps) n run)) ≡ separation_result rest_answer
      tree_judged = sym (judged_result (root_of ns ps) n run) ∙ ap separation_result (rest_judged past_11)

  -- ---- the call
  module _ (work : List ℕ) where
    abbrev lent : Refusal
    lent = lent_row ns ps (length work)

    row : (lent then rest_row) ≡ separate_refusal ns ps n run (length work)
    unfolding separate_refusal
    row = then_joined (sizes ns ps) (room (work_for ns ps) (length work)) rest_row

    outcome : (r : Refusal) (s : Separation) (left : List ℕ) → r ≡ (lent then rest_row)
        → s ≡ cond (is_done r) (separate_tree (root_of ns ps) n run) (separation_refused r) → left ≡ work_after r work
        → judged s left ≡ separate ns ps n run work
    unfolding separate separation
    outcome r s left is f g = let whole : r ≡ separate_refusal ns ps n run (length work) = is ∙ row in rw (f, g, whole) refl

    -- 1, 2 or 10 refuses
    pub refused_lent : lent.number ≢ 0 → judged (separation_refused lent) work ≡ separate ns ps n run work
    refused_lent h =
        outcome lent (separation_refused lent) work (sym (then_stop lent rest_row h)) (rw (ne_eqb lent.number 0 h) refl) (sym (lent_keeps ns ps work h))

    -- the rest of the row answers
    pub answered : lent.number ≡ 0 → judged rest_answer (cleared work) ≡ separate ns ps n run work
    unfolding cleared rest_answer
    answered h = outcome rest_row rest_answer (cleared work) (sym (then_go lent rest_row h)) refl (sym swept)
      where
        says : Says rest_row (3 ∷ 4 ∷ 5 ∷ 6 ∷ 7 ∷ 8 ∷ 11 ∷ [])
        says = then_says (sound_says ns ps) (bounded_says ns n run)

        swept : work_after rest_row work ≡ cleared work
        swept = work_cleared rest_row work (never says 1 refl) (never says 2 refl) (never says 10 refl)

    -- ---- the same of what the code answers
    module _ (e : Refusal) (stop : refusals.answered lent ≡ Err e) where
      stopped : judged (separation_refused lent) work ≡ separate ns ps n run work
      stopped = refused_lent (refused_of_err lent e stop).1

      pub lent_answer : Err e ≡ separation_result (separate ns ps n run work).answer
      lent_answer =
          let refused = refused_of_err lent e stop in
          ap Err (sym refused.0) ∙ sym (with_refused lent (found (separation_refused lent)) refused.1) ∙ ap (λ (x : Judged). separation_result x.answer) stopped

      pub lent_work : work ≡ (separate ns ps n run work).work
      lent_work = ap (λ (x : Judged). x.work) stopped

    module _ (go : refusals.answered lent ≡ Ok tt) where
      rest_whole : judged rest_answer (cleared work) ≡ separate ns ps n run work
      rest_whole = answered (done_of_ok lent go)

      pub rest_answers : separation_result rest_answer ≡ separation_result (separate ns ps n run work).answer
      rest_answers = ap (λ (x : Judged). separation_result x.answer) rest_whole

      pub rest_works : cleared work ≡ (separate ns ps n run work).work
      rest_works = ap (λ (x : Judged). x.work) rest_whole

-- what the proofs of the call and of what is left past 10 rest on
pub ruleset call = (lent_answer, lent_work, rest_answers, rest_works, lent_room, cleared_alike)

pub ruleset past_10 = (list_stops, bounds_stop, prepared, marks_in_bounds, tree_judged)
