-- What the row of tests leaves in the work space, whole, and then column by column for a list that passed.
use Rattle.std.specs.Prelude.{ℕ, ◌+◌, ◌*◌, ◌≤◌, ◌≡◌, ◌≢◌, List, cond, length}
use Rattle.std.proofs.Common.{ap, ◌∙◌, arith, eq-eqb, ne_eqb}
use Rattle.meaning.specs.Rules.Limits.{work_per_node}
use Rattle.meaning.specs.Rules.Trees.{node_count}
use Rattle.meaning.specs.Rules.Refusals.{is_done, ◌then◌}
use Rattle.meaning.specs.Rules.Layout.{layout}
use Rattle.meaning.specs.Rules.Reach.{mark_of}
use Rattle.meaning.specs.Rules.Verification.{verification}
use Rattle.columns.specs.Columns.{mark_column, shape_column, with_column}
use Rattle.columns.specs.ColumnLaws.{with_none, with_length, with_column_lem, with_other_column}
use Rattle.lists.specs.Laid.{Laid}
use Rattle.shapes.specs.Shapes.{shape_at, Shaped}
use Rattle.marks.specs.Marked.{Marked}

module _ (ns ps : List ℕ) (base : ℕ) where
  -- column MARK of every node, column SHAPE of every node; all else as it was
  abbrev pub with_marks : List ℕ → List ℕ
  with_marks work = with_column mark_column base (node_count ns) (mark_of ns ps) work

  abbrev pub with_shapes : List ℕ → List ℕ
  with_shapes work = with_column shape_column base (node_count ns) (shape_at ns ps) work

  -- numbers 3 to 6: a list that 3, 4 or 5 refuses leaves all as it was; any other has its marks there
  unfoldable pub verified_work : List ℕ → List ℕ
  verified_work work = cond (is_done (layout ns ps)) (with_marks work) work

  -- numbers 3 to 8: and a list past 6 has its shapes there too (an empty list has no rows)
  unfoldable pub sound_work : List ℕ → List ℕ
  sound_work work = cond (is_done (layout ns ps then verification ns ps)) (with_shapes (with_marks work)) (verified_work work)

  -- ---- by the numbers
  pub verified_refused : (work : List ℕ) → (layout ns ps).number ≢ 0 → verified_work work ≡ work
  unfolding verified_work
  verified_refused work h = rw (ne_eqb (layout ns ps).number 0 h)

  pub verified_laid : (work : List ℕ) → (layout ns ps).number ≡ 0 → verified_work work ≡ with_marks work
  unfolding verified_work
  verified_laid work h = rw (eq-eqb (layout ns ps).number 0 h)

  pub sound_refused : (work : List ℕ) → (layout ns ps then verification ns ps).number ≢ 0 → sound_work work ≡ verified_work work
  unfolding sound_work
  sound_refused work h = rw (ne_eqb (layout ns ps then verification ns ps).number 0 h)

  pub sound_verified : (work : List ℕ) → (layout ns ps then verification ns ps).number ≡ 0 → sound_work work ≡ with_shapes (with_marks work)
  unfolding sound_work
  sound_verified work h = rw (eq-eqb (layout ns ps then verification ns ps).number 0 h)

  pub empty_work : (work : List ℕ) → node_count ns ≡ 0 → with_shapes (with_marks work) ≡ work
  empty_work work none =
      ap (λ (n : ℕ). with_column shape_column base n (shape_at ns ps) (with_column mark_column base n (mark_of ns ps) work)) none
      ∙ with_none shape_column base (shape_at ns ps) (with_column mark_column base 0 (mark_of ns ps) work) ∙ with_none mark_column base (mark_of ns ps) work

  -- ---- column by column
  module _ (work : List ℕ) (room : work_per_node * (base + node_count ns) ≤ length work) where
    marked_length : length (with_marks work) ≡ length work
    marked_length = with_length mark_column base (node_count ns) (mark_of ns ps) work

    pub marked : Laid ns ps → Marked ns ps base (with_marks work)
    marked laid = record {
      laid = laid;
      room = rw marked_length room;
      marks = with_column_lem mark_column base (node_count ns) (mark_of ns ps) work (omega arith) room;
    }

    -- writing the shapes leaves the marks
    pub still_marked : Laid ns ps → Marked ns ps base (with_shapes (with_marks work))
    still_marked laid = record {
      laid = laid;
      room = rw (with_length shape_column base (node_count ns) (shape_at ns ps) (with_marks work), marked_length) room;
      marks = λ i l.
          with_other_column shape_column base (node_count ns) (shape_at ns ps) (with_marks work) mark_column (base + i) (omega arith) (omega arith) (λ e. absurd (omega arith))
          ∙ (marked laid).marks i l;
    }

    pub shaped : Shaped ns ps base (with_shapes (with_marks work))
    shaped = with_column_lem shape_column base (node_count ns) (shape_at ns ps) (with_marks work) (omega arith) (rw marked_length room)
