-- The work space after the pass, whole: columns STATE and VALUE of the list's rows hold its pairs, all else is as it was.
use Rattle.std.specs.Prelude.{ℕ, ◌+◌, ◌*◌, ◌≤◌, ◌<◌, ◌≡◌, ◌≢◌, List, length, get_or, set}
use Rattle.std.proofs.Common.{ap, sym, ◌∙◌, arith}
use Rattle.meaning.specs.Rules.Limits.{work_per_node}
use Rattle.meaning.specs.Rules.Trees.{node_count}
use Rattle.meaning.specs.Rules.Answers.{Assignment}
use Rattle.meaning.specs.Rules.Pairs.{state_at, value_at}
use Rattle.columns.specs.Columns.{place, cell, mark_column, shape_column, state_column, value_column, with_column}
use Rattle.columns.specs.ColumnLaws.{with_next, with_none, with_length, with_elsewhere, with_other_column, with_row_before, with_column_lem, with_beside}
use Rattle.rows.specs.Rows.{Prepared, stays_prepared, Filled}

module _ (ns ps : List ℕ) (α : Assignment) (base : ℕ) where
  -- the pairs of the first m nodes, written
  abbrev pub with_pairs_to : ℕ → List ℕ → List ℕ
  with_pairs_to m work = with_column value_column base m (value_at ns ps α) (with_column state_column base m (state_at ns ps α) work)

  -- of every node
  abbrev pub with_pairs : List ℕ → List ℕ
  with_pairs work = with_pairs_to (node_count ns) work

  -- ---- as the loop goes
  pub pairs_none : (work : List ℕ) → with_pairs_to 0 work ≡ work
  pairs_none work =
      with_none value_column base (value_at ns ps α) (with_column state_column base 0 (state_at ns ps α) work) ∙ with_none state_column base (state_at ns ps α) work

  pub pairs_next : (m : ℕ) (work : List ℕ) (state value : ℕ) → state ≡ state_at ns ps α m → value ≡ value_at ns ps α m
      → set (set (with_pairs_to m work) (place state_column (base + m)) state) (place value_column (base + m)) value ≡ with_pairs_to (m + 1) work
  pairs_next m work state value s v =
      let states = with_column state_column base m (state_at ns ps α) work in
      let row : ℕ = place state_column (base + m) in
      let beside : with_column value_column base m (value_at ns ps α) (set states row (state_at ns ps α m)) ≡ set (with_pairs_to m work) row (state_at ns ps α m) =
      with_beside value_column base m (value_at ns ps α) states row (state_at ns ps α m) (λ i l e. absurd (omega arith)) in
      rw (s, v)
      (ap (λ (w : List ℕ). set w (place value_column (base + m)) (value_at ns ps α m))
      (sym beside ∙ ap (with_column value_column base m (value_at ns ps α)) (sym (with_next state_column base m (state_at ns ps α) work)))
      ∙ sym (with_next value_column base m (value_at ns ps α) (with_column state_column base (m + 1) (state_at ns ps α) work)))

  pub pairs_length : (m : ℕ) (work : List ℕ) → length (with_pairs_to m work) ≡ length work
  pairs_length m work =
      with_length value_column base m (value_at ns ps α) (with_column state_column base m (state_at ns ps α) work)
      ∙ with_length state_column base m (state_at ns ps α) work

  -- ---- the frame: what is in neither column of those rows stays
  pub pairs_elsewhere : (m : ℕ) (work : List ℕ) (k : ℕ) → ((i : ℕ) → i < m → k ≢ place state_column (base + i))
      → ((i : ℕ) → i < m → k ≢ place value_column (base + i)) → get_or (with_pairs_to m work) k 0 ≡ get_or work k 0
  pairs_elsewhere m work k s v =
      with_elsewhere value_column base m (value_at ns ps α) (with_column state_column base m (state_at ns ps α) work) k v
      ∙ with_elsewhere state_column base m (state_at ns ps α) work k s

  pub pairs_other_column : (m : ℕ) (work : List ℕ) (q row : ℕ) → q < work_per_node → q ≢ state_column → q ≢ value_column
      → cell (with_pairs_to m work) q row ≡ cell work q row
  pairs_other_column m work q row h s v =
      with_other_column value_column base m (value_at ns ps α) (with_column state_column base m (state_at ns ps α) work) q row (omega arith) h v
      ∙ with_other_column state_column base m (state_at ns ps α) work q row (omega arith) h s

  pub pairs_row_before : (m : ℕ) (work : List ℕ) (q row : ℕ) → q < work_per_node → row < base → cell (with_pairs_to m work) q row ≡ cell work q row
  pairs_row_before m work q row h l =
      with_row_before value_column base m (value_at ns ps α) (with_column state_column base m (state_at ns ps α) work) q row (omega arith) h l
      ∙ with_row_before state_column base m (state_at ns ps α) work q row (omega arith) h l

  -- ---- so every list stays prepared, this one for the next assignment too, and the pairs are there
  pub pairs_beside : (m : ℕ) (work ms qs : List ℕ) (at : ℕ) → Prepared ms qs at work → Prepared ms qs at (with_pairs_to m work)
  pairs_beside m work ms qs at p =
      stays_prepared ms qs at work (with_pairs_to m work) p (pairs_length m work)
      (λ i h. pairs_other_column m work mark_column (at + i) (omega arith) (λ e. absurd (omega arith)) (λ e. absurd (omega arith)))
      (λ i h. pairs_other_column m work shape_column (at + i) (omega arith) (λ e. absurd (omega arith)) (λ e. absurd (omega arith)))

  module _ (work : List ℕ) (p : Prepared ns ps base work) where
    pub still_prepared : (m : ℕ) → Prepared ns ps base (with_pairs_to m work)
    still_prepared m = pairs_beside m work ns ps base p

    pub filled_to : (m : ℕ) → m ≤ node_count ns → Filled ns ps α base (with_pairs_to m work) m
    filled_to m l =
        let states : List ℕ = with_column state_column base m (state_at ns ps α) work in
        let room : work_per_node * (base + m) ≤ length work = omega (arith, p.room) in
        let size : length states ≡ length work = with_length state_column base m (state_at ns ps α) work in
        record {
          ready = still_prepared m;
          states = λ i h.
              with_other_column value_column base m (value_at ns ps α) states state_column (base + i) (omega arith) (omega arith) (λ e. absurd (omega arith))
              ∙ with_column_lem state_column base m (state_at ns ps α) work (omega arith) room i h;
          values = with_column_lem value_column base m (value_at ns ps α) states (omega arith) (rw size room);
        }

-- what a caller of `pass` may rely on: every node's pair, the marks and shapes, every other word
pub passed : (ns ps : List ℕ) (α : Assignment) (base : ℕ) (work : List ℕ) → Prepared ns ps base work
    → Filled ns ps α base (with_pairs ns ps α base work) (node_count ns)
passed ns ps α base work p = filled_to ns ps α base work p (node_count ns) (omega arith)
