-- What a caller of `sound` may rely on: column by column where it answers 0, and whatever it answers, that the rows of a
-- list before it stay as they were. No second outcome meets its promise.
use Rattle.std.specs.Prelude.{ℕ, ◌+◌, ◌*◌, ◌≤◌, ◌<◌, ◌≡◌, refl, ◌≢◌, List, Bool, true, false, cond, length, get_or, Result, ⊤}
use Rattle.std.proofs.Common.{sym, subst, ◌∙◌, arith}
use Rattle.meaning.specs.declared.Refusal.{Refusal}
use Rattle.meaning.specs.Rules.Limits.{work_per_node}
use Rattle.meaning.specs.Rules.Trees.{node_count}
use Rattle.meaning.specs.Rules.Refusals.{is_done, answered, ◌then◌}
use Rattle.meaning.specs.Rules.Layout.{layout}
use Rattle.meaning.specs.Rules.Reach.{mark_of}
use Rattle.meaning.specs.Rules.Verification.{verification}
use Rattle.meaning.specs.Rules.Evaluable.{sound}
use Rattle.meaning.specs.Claims.Column.{Sound}
use Rattle.meaning.proofs.Laws.ColumnLaws.{sound_passed}
use Rattle.columns.specs.Columns.{place, cell, mark_column, shape_column, Column}
use Rattle.columns.specs.ColumnLaws.{with_length, with_elsewhere, with_row_before}
use Rattle.shapes.specs.Shapes.{shape_at}
use Rattle.verifier.specs.Left.{with_marks, with_shapes, verified_work, sound_work, sound_verified, still_marked, shaped}
use Rattle.verifier.specs.Outcome.{sound_six}

-- the work space after the row 3 to 8 passed a list whose first row is `base`, by what it was before
pub record Held (ns ps : List ℕ) (base : ℕ) (before after : List ℕ) : Type 0 where
  -- every node is laid out right, verifies and fits, and there is a root (Claims/Column)
  pub passed : Sound ns ps
  pub size : length after ≡ length before
  pub marks : Column after mark_column base (node_count ns) (mark_of ns ps)
  pub shapes : Column after shape_column base (node_count ns) (shape_at ns ps)
  -- every other word
  pub others : (k : ℕ) → ((i : ℕ) → i < node_count ns → k ≢ place mark_column (base + i))
      → ((i : ℕ) → i < node_count ns → k ≢ place shape_column (base + i)) → get_or after k 0 ≡ get_or before k 0

module _ (ns ps : List ℕ) (base : ℕ) (work : List ℕ) where
  pub sound_holds : work_per_node * (base + node_count ns) ≤ length work → (sound ns ps).number ≡ 0 → Held ns ps base work (sound_work ns ps base work)
  sound_holds room done =
      let left : sound_work ns ps base work ≡ with_shapes ns ps base (with_marks ns ps base work) = sound_verified ns ps base work (sound_six ns ps done) in
      let passed : Sound ns ps = (sound_passed ns ps).when.0 done in
      subst (Held ns ps base work) (sym left) (record {
        passed = passed;
        size = with_length shape_column base (node_count ns) (shape_at ns ps) (with_marks ns ps base work) ∙ with_length mark_column base (node_count ns) (mark_of ns ps) work;
        marks = (still_marked ns ps base work room passed.0).marks;
        shapes = shaped ns ps base work room;
        others = λ k m s.
            with_elsewhere shape_column base (node_count ns) (shape_at ns ps) (with_marks ns ps base work) k s
            ∙ with_elsewhere mark_column base (node_count ns) (mark_of ns ps) work k m;
      })

  -- the rows before `base`, those of a first list, say, are not touched
  pub rows_before : (p j : ℕ) → p < work_per_node → j < base → cell (sound_work ns ps base work) p j ≡ cell work p j
  unfolding sound_work verified_work
  rows_before p j hp h = go (is_done (layout ns ps then verification ns ps)) (is_done (layout ns ps))
    where
      marked : cell (with_marks ns ps base work) p j ≡ cell work p j
      marked = with_row_before mark_column base (node_count ns) (mark_of ns ps) work p j (omega arith) hp h

      go : (a b : Bool)
          → cell (cond a (with_shapes ns ps base (with_marks ns ps base work)) (cond b (with_marks ns ps base work) work)) p j ≡ cell work p j
      go true b = with_row_before shape_column base (node_count ns) (shape_at ns ps) (with_marks ns ps base work) p j (omega arith) hp h ∙ marked
      go false true = marked
      go false false = refl

  -- two outcomes that both meet the promise of `sound` are the same
  pub sound_only : {r r' : Refusal} {after after' : List ℕ} → (r ≡ sound ns ps) × (after ≡ sound_work ns ps base work)
      → (r' ≡ sound ns ps) × (after' ≡ sound_work ns ps base work) → (r ≡ r') × (after ≡ after')
  sound_only p q = (p.0 ∙ sym q.0, p.1 ∙ sym q.1)

  -- and of what code hands back
  pub sound_result_only : {r r' : Result ⊤ Refusal} {after after' : List ℕ} → (r ≡ answered (sound ns ps)) × (after ≡ sound_work ns ps base work)
      → (r' ≡ answered (sound ns ps)) × (after' ≡ sound_work ns ps base work) → (r ≡ r') × (after ≡ after')
  sound_result_only p q = (p.0 ∙ sym q.0, p.1 ∙ sym q.1)
