-- The words of the list as the rows of the work space say them: an entry's kind, datum and children, its node, its part
-- of the pool. specs/Canonical shows that they are those of the canonical list.
use Rattle.std.specs.Prelude.{ℕ, zero, suc, ◌+◌, ◌-◌, ◌/◌, ◌%◌, ◌^◌, ◌≤◌, ◌<◌, ◌≡◌, List, [], ◌∷◌, ◌++◌, cond, eqb}
use Rattle.meaning.specs.Rules.Limits.{widest_bus}
use Rattle.meaning.specs.Rules.Kinds.{program_word, lut_word, cycle_word, has_children}
use Rattle.meaning.specs.Rules.Trees.{node_count, node_of}
use Rattle.columns.specs.Columns.{cell, kind_column, datum_column, count_column, number_column, program_column}
use Rattle.form_rows.specs.From.{from}
use Rattle.form_rows.specs.Forms.{kid_at, Home, Formed}
use Rattle.listed.specs.Entries.{listed_at, Readable}

-- ---- entry e: an odd one is a Program
unfoldable pub entry_kind : List ℕ → ℕ → ℕ
entry_kind work e = cond (eqb (e % 2) 1) program_word (cell work kind_column (e / 2))

-- a Lut's Program is a child too
unfoldable pub program_count : List ℕ → ℕ → ℕ
program_count work h = cond (eqb (cell work kind_column h) lut_word) 1 0

unfoldable pub child_count : List ℕ → ℕ → ℕ
child_count work e = cond (eqb (e % 2) 1) 0 (program_count work (e / 2) + cell work count_column (e / 2))

-- its node, whose part of the pool starts at `at`
unfoldable pub entry_first : List ℕ → ℕ → ℕ → ℕ
entry_first work at e = cond (has_children (entry_kind work e)) at (cell work datum_column (e / 2) % 2 ^ 32)

unfoldable pub entry_count : List ℕ → ℕ → ℕ
entry_count work e = cond (has_children (entry_kind work e)) (child_count work e) (cell work datum_column (e / 2) / 2 ^ 32)

abbrev pub entry_node : List ℕ → ℕ → ℕ → List ℕ
entry_node work at e = node_of (entry_kind work e) (entry_first work at e) (entry_count work e)

-- its part of the pool
unfoldable pub program_part : List ℕ → ℕ → List ℕ
program_part work h = cond (eqb (cell work kind_column h) lut_word) (cell work program_column h ∷ []) []

unfoldable pub kid_number : List ℕ → List ℕ → List ℕ → ℕ → ℕ → ℕ
kid_number ns ps work h j = cell work number_column (kid_at ns ps work h j) - 2

unfoldable pub kids_part : List ℕ → List ℕ → List ℕ → ℕ → List ℕ
kids_part ns ps work h = from (kid_number ns ps work h) 0 (cell work count_column h)

unfoldable pub entry_part : List ℕ → List ℕ → List ℕ → ℕ → List ℕ
entry_part ns ps work e = cond (eqb (e % 2) 1) [] (program_part work (e / 2) ++ kids_part ns ps work (e / 2))

-- ---- the first k entries: how many pool entries they have, their nodes, their parts
unfoldable pub pool_size : List ℕ → ℕ → ℕ
pool_size work zero = 0
pool_size work (suc k) = pool_size work k + child_count work (listed_at work k)

unfoldable pub row_nodes : List ℕ → ℕ → List ℕ
row_nodes work zero = []
row_nodes work (suc k) = row_nodes work k ++ entry_node work (pool_size work k) (listed_at work k)

unfoldable pub row_pool : List ℕ → List ℕ → List ℕ → ℕ → List ℕ
row_pool ns ps work zero = []
row_pool ns ps work (suc k) = row_pool ns ps work k ++ entry_part ns ps work (listed_at work k)

-- ---- what the words are read from
pub record Rows (work : List ℕ) (count : ℕ) : Type 0 where
  pub reads : Readable work count
  pub known : (k : ℕ) → k < count → cell work kind_column (listed_at work k / 2) ≤ cycle_word
  pub few : (k : ℕ) → k < count → cell work count_column (listed_at work k / 2) ≤ widest_bus

-- the children of the form in row h have their numbers, and those are words
pub record Numbers (ns ps work : List ℕ) (h : ℕ) : Type 0 where
  pub formed : Formed ns ps work (node_count ns)
  pub home : Home ns ps work h
  pub program : cell work kind_column h ≡ lut_word → cell work program_column h < 2 ^ 32
  pub kids : (j : ℕ) → j < cell work count_column h
      → (2 ≤ cell work number_column (kid_at ns ps work h j)) × (cell work number_column (kid_at ns ps work h j) < 2 ^ 32 + 2)
