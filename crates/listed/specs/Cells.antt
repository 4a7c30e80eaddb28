-- One store in the work space, cell by cell.
use Rattle.std.specs.Prelude.{ℕ, ◌<◌, ◌≡◌, ◌≢◌, List, length, set}
use Rattle.std.proofs.Common.{arith}
use Rattle.std.proofs.Math.Seq.{get_or-set_same, get_or-set_other}
use Rattle.meaning.specs.Rules.Limits.{work_per_node}
use Rattle.columns.specs.Columns.{place, cell, listed_column}
use Rattle.listed.specs.Entries.{listed_place, listed_at}

module _ (work : List ℕ) (v : ℕ) where
  pub same_cell : (q i : ℕ) → place q i < length work → cell (set work (place q i) v) q i ≡ v
  same_cell q i h = get_or-set_same work (place q i) v 0 h

  pub other_column : (p i q j : ℕ) → p < work_per_node → q < work_per_node → q ≢ p → cell (set work (place p i) v) q j ≡ cell work q j
  other_column p i q j hp hq ne = get_or-set_other work (place p i) (place q j) v 0 (λ e. ne (omega arith))

  pub other_row : (q i j : ℕ) → j ≢ i → cell (set work (place q i) v) q j ≡ cell work q j
  other_row q i j ne = get_or-set_other work (place q i) (place q j) v 0 (λ e. ne (omega arith))

  -- an entry
  pub same_entry : (k : ℕ) → listed_place k < length work → listed_at (set work (listed_place k) v) k ≡ v
  unfolding listed_at
  same_entry k h = get_or-set_same work (listed_place k) v 0 h

  pub other_entry : (i k : ℕ) → k ≢ i → listed_at (set work (listed_place i) v) k ≡ listed_at work k
  unfolding listed_at
  other_entry i k ne = get_or-set_other work (listed_place i) (listed_place k) v 0 (λ e. ne (omega arith))

  pub cell_beside : (k q i : ℕ) → q < listed_column → cell (set work (listed_place k) v) q i ≡ cell work q i
  cell_beside k q i h = get_or-set_other work (listed_place k) (place q i) v 0 (λ e. absurd (omega arith))

  pub entry_beside : (q i k : ℕ) → q < listed_column → listed_at (set work (place q i) v) k ≡ listed_at work k
  unfolding listed_at
  entry_beside q i k h = get_or-set_other work (place q i) (listed_place k) v 0 (λ e. absurd (omega arith))
