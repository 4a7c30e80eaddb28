-- What a row of the work space holds of a node's normal form (document 01, "Canonical list"): the node's home, and at a
-- home the kind, the datum and the children of the form, each child by its own home.
use Rattle.std.specs.Prelude.{ℕ, ◌+◌, ◌*◌, ◌≤◌, ◌<◌, ◌≡◌, ◌≢◌, List, cond, length, get_or, eqb}
use Rattle.meaning.specs.Rules.Limits.{work_per_node, most_operands, widest_bus}
use Rattle.meaning.specs.Rules.Kinds.{const_word, program_word, variable_word, lut_word, cycle_word}
use Rattle.meaning.specs.Rules.Trees.{Tree, Forest, node, none, ◌◂◌, forest, node_count, children_at, tree_of}
use Rattle.meaning.specs.Rules.Reach.{mark_of}
use Rattle.meaning.specs.Rules.Folding.{nf}
use Rattle.meaning.specs.Claims.Column.{Sound}
use Rattle.columns.specs.Columns.{cell, home_column, kind_column, datum_column, count_column, operand_column}
use Rattle.form_rows.specs.From.{from}

-- the normal form of the tree at node i
unfoldable pub nf_at : List ℕ → List ℕ → ℕ → Tree
nf_at ns ps i = nf (tree_of ns ps i)

abbrev pub program_of : ℕ → Tree
program_of d = node program_word d none

-- a tree from what a row says: a Lut has the Program whose value is d in front of its operands
unfoldable pub made : ℕ → ℕ → Forest → Tree
made k d cs = cond (eqb k lut_word) (node lut_word 0 (program_of d ◂ cs)) (node k d cs)

-- child j of the form in row h, by its home, a Lut's Program not counted
unfoldable pub kid_at : List ℕ → List ℕ → List ℕ → ℕ → ℕ → ℕ
kid_at ns ps work h j =
    cond (eqb (cell work kind_column h) lut_word) (cell work (operand_column + j) h) (cell work home_column (get_or (children_at ns ps h) j 0))

abbrev pub kids_in : List ℕ → List ℕ → List ℕ → ℕ → List ℕ
kids_in ns ps work h = from (kid_at ns ps work h) 0 (cell work count_column h)

-- node h is the root or below it, and its row holds its normal form
pub record Home (ns ps work : List ℕ) (h : ℕ) : Type 0 where
  pub inside : h < node_count ns
  pub marked : 0 < mark_of ns ps h
  pub own : cell work home_column h ≡ h

-- what the row of a home holds
pub record FormAt (ns ps work : List ℕ) (h : ℕ) : Type 0 where
  pub known : cell work kind_column h ≤ cycle_word
  pub bit : cell work kind_column h ≡ const_word → cell work datum_column h < 2
  pub few : cell work count_column h ≤ widest_bus
  pub leaf : cell work kind_column h ≤ variable_word → cell work count_column h ≡ 0
  pub operands : cell work kind_column h ≡ lut_word → cell work count_column h ≤ most_operands
  pub given : cell work kind_column h ≢ lut_word → cell work count_column h ≤ length (children_at ns ps h)
  pub tree : nf_at ns ps h ≡ made (cell work kind_column h) (cell work datum_column h) (forest (nf_at ns ps) (kids_in ns ps work h))
  pub kids : (j : ℕ) → j < cell work count_column h → (kid_at ns ps work h j < h) × Home ns ps work (kid_at ns ps work h j)

-- node i's normal form is the one in its home's row
pub record HomeOf (ns ps work : List ℕ) (i : ℕ) : Type 0 where
  pub below : cell work home_column i ≤ i
  pub home : Home ns ps work (cell work home_column i)
  pub same : nf_at ns ps i ≡ nf_at ns ps (cell work home_column i)

-- a list past number 8 of which the first m nodes' normal forms are written
pub record Formed (ns ps work : List ℕ) (m : ℕ) : Type 0 where
  pub sound : Sound ns ps
  pub room : work_per_node * node_count ns ≤ length work
  pub within : m ≤ node_count ns
  pub homes : (i : ℕ) → i < m → 0 < mark_of ns ps i → HomeOf ns ps work i
  pub forms : (h : ℕ) → h < m → Home ns ps work h → FormAt ns ps work h
