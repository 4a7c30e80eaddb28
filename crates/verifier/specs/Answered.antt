-- The row of tests 3 to 8 by what the code answers: what each Ok lets the next step rely on, and what the row answers and leaves.
use Rattle.std.specs.Prelude.{ℕ, ◌+◌, ◌*◌, ◌≤◌, ◌<◌, ◌≡◌, ◌≢◌, List, length, ltb, Ok, Err}
use Rattle.std.proofs.Common.{sym, subst, ap, ◌∙◌, arith}
use Rattle.std.proofs.Math.Decide.{dec_lt}
use Rattle.meaning.specs.declared.Refusal.{Refusal}
use Rattle.meaning.specs.Rules.Limits.{work_per_node}
use Rattle.meaning.specs.Rules.Numbers.{no_root}
use Rattle.meaning.specs.Rules.Trees.{node_count}
use Rattle.meaning.specs.Rules.Refusals.{refuse, answered, asked, require, ◌then◌}
use Rattle.meaning.specs.Rules.Reach.{mark_of}
use Rattle.columns.specs.Columns.{mark_column, with_column}
use Rattle.columns.specs.ColumnLaws.{with_none}
use Rattle.meaning.specs.Rules.Layout.{layout}
use Rattle.meaning.specs.Rules.Verification.{verification}
use Rattle.meaning.specs.Rules.Evaluable.{rooted, evaluability, sound}
use Rattle.meaning.proofs.Laws.RefusalLaws.{answered_refused, done_of_ok, refused_of_err, asked_is}
use Rattle.meaning.proofs.Laws.NumberLaws.{then_go, then_stop}
use Rattle.meaning.proofs.Laws.ColumnLaws.{rooted_passed}
use Rattle.lists.specs.Laid.{Laid, layout_laid}
use Rattle.marks.specs.Marked.{Marked}
use Rattle.shapes.specs.Shapes.{Shaped}
use Rattle.verifier.specs.Outcome.{to_six, six_laid, sound_stops, sound_empty, sound_goes}
use Rattle.verifier.specs.Left.{with_marks, with_shapes, verified_work, sound_work, verified_refused, verified_laid, sound_refused, sound_verified, empty_work, marked, still_marked, shaped}

-- an Err of a test is one of the row that it begins
stops : (r row e : Refusal) → answered r ≡ Err e → (r.number ≢ 0 → r ≡ row) → Err e ≡ answered row
stops r row e stop same =
    let refused = refused_of_err r e stop in
    sym stop ∙ ap answered (same refused.1)

module _ (ns ps : List ℕ) where
  -- ---- 3 to 5
  module _ (e : Refusal) (stop : answered (layout ns ps) ≡ Err e) where
    pub layout_stops : Err e ≡ answered (to_six ns ps)
    layout_stops = stops (layout ns ps) (to_six ns ps) e stop (λ h. sym (then_stop (layout ns ps) (verification ns ps) h))

    pub layout_leaves : (base : ℕ) (work : List ℕ) → work ≡ verified_work ns ps base work
    layout_leaves base work = sym (verified_refused ns ps base work (refused_of_err (layout ns ps) e stop).1)

  module _ (go : answered (layout ns ps) ≡ Ok tt) where
    done : (layout ns ps).number ≡ 0
    done = done_of_ok (layout ns ps) go

    pub laid_out : Laid ns ps
    laid_out = layout_laid ns ps done

    pub marks_there : (base : ℕ) (work : List ℕ) → work_per_node * (base + node_count ns) ≤ length work → Marked ns ps base (with_marks ns ps base work)
    marks_there base work room = marked ns ps base work room laid_out

    pub six_answers : answered (verification ns ps) ≡ answered (to_six ns ps)
    six_answers = ap answered (sym (then_go (layout ns ps) (verification ns ps) done))

    pub marks_left : (base : ℕ) (work : List ℕ) → with_marks ns ps base work ≡ verified_work ns ps base work
    marks_left base work = sym (verified_laid ns ps base work done)

  -- ---- 6
  module _ (e : Refusal) (stop : answered (to_six ns ps) ≡ Err e) where
    pub six_stops : Err e ≡ answered (sound ns ps)
    six_stops = stops (to_six ns ps) (sound ns ps) e stop (sound_stops ns ps)

    pub six_leaves : (base : ℕ) (work : List ℕ) → verified_work ns ps base work ≡ sound_work ns ps base work
    six_leaves base work = sym (sound_refused ns ps base work (refused_of_err (to_six ns ps) e stop).1)

  module _ (go : answered (to_six ns ps) ≡ Ok tt) where
    six : (to_six ns ps).number ≡ 0
    six = done_of_ok (to_six ns ps) go

    pub six_laid_out : Laid ns ps
    six_laid_out = layout_laid ns ps (six_laid ns ps six)

    module _ (base : ℕ) (work : List ℕ) where
      marks_kept : verified_work ns ps base work ≡ with_marks ns ps base work
      marks_kept = verified_laid ns ps base work (six_laid ns ps six)

      pub shapes_left : with_shapes ns ps base (verified_work ns ps base work) ≡ sound_work ns ps base work
      shapes_left = ap (with_shapes ns ps base) marks_kept ∙ sym (sound_verified ns ps base work six)

      module _ (room : work_per_node * (base + node_count ns) ≤ length work) where
        pub still_there : Marked ns ps base (with_shapes ns ps base (verified_work ns ps base work))
        still_there = subst (λ w. Marked ns ps base (with_shapes ns ps base w)) (sym marks_kept) (still_marked ns ps base work room six_laid_out)

        pub shapes_there : Shaped ns ps base (with_shapes ns ps base (verified_work ns ps base work))
        shapes_there = subst (λ w. Shaped ns ps base (with_shapes ns ps base w)) (sym marks_kept) (shaped ns ps base work room)

    -- ---- 7
    root_asked : asked (ltb 0 (node_count ns)) no_root ≡ answered (rooted ns)
    root_asked = asked_is (ltb 0 (node_count ns)) 6

    module _ (e : Refusal) (stop : asked (ltb 0 (node_count ns)) no_root ≡ Err e) where
      refused : (rooted ns ≡ e) × ((rooted ns).number ≢ 0)
      refused = refused_of_err (rooted ns) e (sym root_asked ∙ stop)

      empty : node_count ns ≡ 0
      empty = elim (dec_lt 0 (node_count ns)) [
        | yes some ↦ absurd (refused.1 ((rooted_passed ns ps).when.1 some))
        | no none ↦ omega (arith, none)
      ]

      pub root_stops : Err e ≡ answered (sound ns ps)
      root_stops = sym stop ∙ root_asked ∙ ap answered (root_row empty)
        where
          root_refused : node_count ns ≡ 0 → rooted ns ≡ refuse no_root 0
          root_refused none = rw none

          root_row : node_count ns ≡ 0 → rooted ns ≡ sound ns ps
          root_row none = root_refused none ∙ sound_empty ns ps six none

      pub root_leaves : (base : ℕ) (work : List ℕ) → verified_work ns ps base work ≡ sound_work ns ps base work
      root_leaves base work =
          verified_laid ns ps base work (six_laid ns ps six) ∙ no_rows base work ∙ sym (sound_verified ns ps base work six)
        where
          no_rows : (base : ℕ) (work : List ℕ) → with_marks ns ps base work ≡ with_shapes ns ps base (with_marks ns ps base work)
          no_rows base work =
              ap (λ (n : ℕ). with_column mark_column base n (mark_of ns ps) work) empty ∙ with_none mark_column base (mark_of ns ps) work
              ∙ sym (empty_work ns ps base work empty)

    -- ---- 8
    pub root_goes : asked (ltb 0 (node_count ns)) no_root ≡ Ok tt → answered (evaluability ns ps) ≡ answered (sound ns ps)
    root_goes some = ap answered (sound_goes ns ps six ((rooted_passed ns ps).when.0 (done_of_ok (rooted ns) (sym root_asked ∙ some))))

-- what the proofs of the rows 3 to 6 and 3 to 8 rest on
pub ruleset to_6 = (layout_stops, layout_leaves, laid_out, marks_there, six_answers, marks_left)

pub ruleset to_8 = (six_stops, six_leaves, six_laid_out, shapes_left, still_there, shapes_there, root_stops, root_leaves, root_goes)
