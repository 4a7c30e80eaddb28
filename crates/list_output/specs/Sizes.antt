-- How many words the first entries have, of nodes and of the pool.
use Prim.Native.Nat.{ℕ, zero, suc, ◌+◌, ◌*◌, ◌/◌, ◌%◌, ◌≤◌, ◌<◌}
use Rattle.std.specs.Prelude.{◌≡◌, List, [], ◌∷◌, ◌++◌, Bool, true, false, cond, length, eqb}
use Rattle.std.proofs.Math.Path.{refl, ap₂}
use Rattle.std.proofs.Common.{◌∙◌, add-one, eq-eqb}
use native.Mathlib.Omega.{arith}
use Rattle.std.proofs.Math.Decide.{ℕ_discrete}
use Rattle.std.proofs.Math.ListN.{length-append}
use Rattle.meaning.specs.Rules.Limits.{words_per_node, widest_bus}
use Rattle.meaning.specs.Rules.Kinds.{lut_word}
use Rattle.columns.specs.Columns.{cell, kind_column, count_column, program_column}
use Rattle.form_rows.specs.From.{from_length}
use Rattle.listed.specs.Entries.{listed_at}
use Rattle.list_output.specs.Words.{program_count, child_count, entry_node, program_part, kid_number, kids_part, entry_part, pool_size, row_nodes, row_pool, Rows}

-- ---- one entry
pub program_one : (work : List ℕ) (h : ℕ) → program_count work h ≤ 1
unfolding program_count
program_one work h = go (eqb (cell work kind_column h) lut_word)
  where
    go : (b : Bool) → cond b 1 0 ≤ 1
    go true = omega arith
    go false = omega arith

pub program_lut : (work : List ℕ) (h : ℕ) → cell work kind_column h ≡ lut_word → program_count work h ≡ 1
unfolding program_count
program_lut work h e = rw (eq-eqb (cell work kind_column h) lut_word e)

pub child_few : (work : List ℕ) (e : ℕ) → cell work count_column (e / 2) ≤ widest_bus → child_count work e ≤ widest_bus + 1
unfolding child_count
child_few work e few = go (eqb (e % 2) 1)
  where
    go : (b : Bool) → cond b 0 (program_count work (e / 2) + cell work count_column (e / 2)) ≤ widest_bus + 1
    go true = omega arith
    go false = omega (arith, program_one work (e / 2), few)

pub program_size : (work : List ℕ) (h : ℕ) → length (program_part work h) ≡ program_count work h
unfolding program_part program_count
program_size work h = go (eqb (cell work kind_column h) lut_word)
  where
    go : (b : Bool) → length (cond b (cell work program_column h ∷ []) []) ≡ cond b 1 0
    go true = refl
    go false = refl

pub kids_size : (ns ps work : List ℕ) (h : ℕ) → length (kids_part ns ps work h) ≡ cell work count_column h
unfolding kids_part
kids_size ns ps work h = from_length (kid_number ns ps work h) 0 (cell work count_column h)

pub part_size : (ns ps work : List ℕ) (e : ℕ) → length (entry_part ns ps work e) ≡ child_count work e
unfolding entry_part child_count
part_size ns ps work e = go (eqb (e % 2) 1)
  where
    go : (b : Bool) → length (cond b [] (program_part work (e / 2) ++ kids_part ns ps work (e / 2)))
        ≡ cond b 0 (program_count work (e / 2) + cell work count_column (e / 2))
    go true = refl
    go false =
        length-append (program_part work (e / 2)) (kids_part ns ps work (e / 2))
        ∙ ap₂ (λ (x y : ℕ). x + y) (program_size work (e / 2)) (kids_size ns ps work (e / 2))

-- ---- the first k entries, and one more
module _ (work : List ℕ) where
  pub size_none : pool_size work 0 ≡ 0
  unfolding pool_size
  size_none = refl

  pub size_next : (k : ℕ) → pool_size work (k + 1) ≡ pool_size work k + child_count work (listed_at work k)
  unfolding pool_size
  size_next k = rw (add-one k)

  pub nodes_none : row_nodes work 0 ≡ []
  unfolding row_nodes
  nodes_none = refl

  pub nodes_next : (k : ℕ) → row_nodes work (k + 1) ≡ row_nodes work k ++ entry_node work (pool_size work k) (listed_at work k)
  unfolding row_nodes
  nodes_next k = rw (add-one k)

  pub nodes_size : (k : ℕ) → length (row_nodes work k) ≡ k * words_per_node
  unfolding row_nodes
  nodes_size zero = refl
  nodes_size (suc k) =
      length-append (row_nodes work k) (entry_node work (pool_size work k) (listed_at work k)) ∙ omega (arith, nodes_size k)

  -- the part of entry k ends within the pool
  pub size_within : (k n : ℕ) → k < n → pool_size work k + child_count work (listed_at work k) ≤ pool_size work n
  unfolding pool_size
  size_within k zero h = absurd (omega arith)
  size_within k (suc n) h = elim (ℕ_discrete k n) [
    | yes e ↦ rw e (omega arith)
    | no e ↦ omega (arith, size_within k n (omega arith))
  ]

  -- no count overflows
  pub size_small : {count : ℕ} → Rows work count → (k : ℕ) → k ≤ count → pool_size work k ≤ k * (widest_bus + 1)
  unfolding pool_size
  size_small rows zero h = omega arith
  size_small rows (suc k) h =
      omega (arith, size_small rows k (omega arith), child_few work (listed_at work k) (rows.few k (omega arith)))

  module _ (ns ps : List ℕ) where
    pub pool_none : row_pool ns ps work 0 ≡ []
    unfolding row_pool
    pool_none = refl

    pub pool_next : (k : ℕ) → row_pool ns ps work (k + 1) ≡ row_pool ns ps work k ++ entry_part ns ps work (listed_at work k)
    unfolding row_pool
    pool_next k = rw (add-one k)

    pub pool_size_lem : (k : ℕ) → length (row_pool ns ps work k) ≡ pool_size work k
    unfolding row_pool pool_size
    pool_size_lem zero = refl
    pool_size_lem (suc k) =
        length-append (row_pool ns ps work k) (entry_part ns ps work (listed_at work k))
        ∙ ap₂ (λ (x y : ℕ). x + y) (pool_size_lem k) (part_size ns ps work (listed_at work k))
