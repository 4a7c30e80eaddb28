-- The column of the table "Numbers a call answers with": what each number stands for, in words. Which call answers it,
-- and after which tests, is claimed in Claims/Numbers.
use Rattle.std.specs.Prelude.{ℕ, ◌-◌, ◌%◌, ◌≤◌, ◌<◌, ◌≡◌, ◌⊎◌, ◌≢◌, List, true, false, ◌&&◌, length, get_or}
use Rattle.meaning.specs.Rules.Limits.{words_per_node, most_nodes, most_pool, variable_count, most_inputs}
use Rattle.meaning.specs.Rules.Kinds.{variable_word, cycle_word, is_gate}
use Rattle.meaning.specs.Rules.Trees.{node_count, kind_at, first_at, children_at, tree_of, root_of}
use Rattle.meaning.specs.Rules.Layout.{laid_out}
use Rattle.meaning.specs.Rules.Reach.{reachable, mark_of}
use Rattle.meaning.specs.Rules.Verification.{wrong_tree}
use Rattle.meaning.specs.Rules.Evaluable.{is_bit, shape, misfits}
use Rattle.meaning.specs.Rules.Assignments.{inputs}
use Rattle.meaning.specs.Rules.Separation.{is_marked}
use Rattle.meaning.specs.Rules.Canonical.{canonical_nodes, canonical_pool}
use Rattle.meaning.specs.Claims.Terms.{LowestFaulty}

module _ (ns ps : List ℕ) where
  -- 1: "node words are not a multiple of three"
  abbrev pub Misaligned : Type 0
  Misaligned = length ns % words_per_node ≢ 0

  -- 2: "a list exceeds its limit"
  abbrev pub OverLimit : Type 0
  OverLimit = (most_nodes < node_count ns) ⊎ (most_pool < length ps)

  abbrev pub Sized : Type 0
  Sized = (length ns % words_per_node ≡ 0) × ((node_count ns ≤ most_nodes) × (length ps ≤ most_pool))

  -- 3: "a kind above 16"
  abbrev pub KindAbove : ℕ → Type 0
  KindAbove i = cycle_word < kind_at ns i

  -- 4: "a field or child count breaks the layout, or for kinds 4 to 16 first + count is above the pool's length"; "lowest
  -- number if it has two"
  abbrev pub BreaksLayout : ℕ → Type 0
  BreaksLayout i = (kind_at ns i ≤ cycle_word) × (laid_out ns ps i ≡ false)

  -- 5: "a child is not numbered below its node"
  abbrev pub ChildNotBelow : ℕ → Type 0
  ChildNotBelow i =
      (kind_at ns i ≤ cycle_word) × (laid_out ns ps i ≡ true)
      × ((j : ℕ) × (j < length (children_at ns ps i)) × (i ≤ get_or (children_at ns ps i) j 0))

  abbrev pub WellLaid : ℕ → Type 0
  WellLaid i =
      (kind_at ns i ≤ cycle_word) × (laid_out ns ps i ≡ true)
      × ((j : ℕ) → j < length (children_at ns ps i) → get_or (children_at ns ps i) j 0 < i)

  -- 6: "verification fails", at a reachable node, under the least number of Cycle nodes over it
  abbrev pub Unverified : ℕ → Type 0
  Unverified i = (reachable ns ps i ≡ true) × (wrong_tree (mark_of ns ps i - 1) (tree_of ns ps i) ≡ true)

  abbrev pub Verifies : ℕ → Type 0
  Verifies i = reachable ns ps i ≡ true → wrong_tree (mark_of ns ps i - 1) (tree_of ns ps i) ≡ false

  -- 7: "empty list, where a root is needed"
  abbrev pub Empty : Type 0
  Empty = node_count ns ≤ 0

  abbrev pub Rooted : Type 0
  Rooted = 0 < node_count ns

  -- 8: "verified but not evaluable", at a reachable node
  abbrev pub Misfit : ℕ → Type 0
  Misfit i = (reachable ns ps i ≡ true) × (misfits ns ps i ≡ true)

  abbrev pub Fits : ℕ → Type 0
  Fits i = reachable ns ps i ≡ true → misfits ns ps i ≡ false

  -- 14: "a reachable gate (kinds 4 to 8) that isn't a bit"
  abbrev pub WideGate : ℕ → Type 0
  WideGate i = ((reachable ns ps i && is_gate (kind_at ns i)) ≡ true) × (is_bit (shape (tree_of ns ps i)) ≡ false)

  abbrev pub NoWideGate : ℕ → Type 0
  NoWideGate i = (reachable ns ps i && is_gate (kind_at ns i)) ≡ true → is_bit (shape (tree_of ns ps i)) ≡ true

  -- of every node
  abbrev pub All : (ℕ → Type 0) → Type 0
  All P = (i : ℕ) → i < node_count ns → P i

  -- "the lowest faulty node", of a list whose lower nodes are fine
  abbrev pub Lowest : (ℕ → Type 0) → (ℕ → Type 0) → ℕ → Type 0
  Lowest = LowestFaulty (node_count ns)

  -- past number 8
  abbrev pub Sound : Type 0
  Sound = All WellLaid × (All Verifies × (Rooted × All Fits))

-- 9: "over 30 variables below the first root, trees unequal"
abbrev pub ManyInputs : List ℕ → List ℕ → List ℕ → List ℕ → Type 0
ManyInputs ns ps ms qs = (root_of ns ps ≢ root_of ms qs) × (most_inputs < length (inputs (root_of ns ps)))

-- 11: "n above 30, a variable at n or above anywhere in the list, or a mark at bit n or above"
abbrev pub OutOfBounds : List ℕ → ℕ → ℕ → Type 0
OutOfBounds ns n run =
    ((most_inputs < n)
    ⊎ ((i : ℕ) × (i < node_count ns) × ((kind_at ns i ≡ variable_word) × (n ≤ first_at ns i))))
    ⊎ ((v : ℕ) × (n ≤ v) × (is_marked run v ≡ true))

abbrev pub InBounds : List ℕ → ℕ → ℕ → Type 0
InBounds ns n run =
    ((n ≤ most_inputs)
    × ((i : ℕ) → i < node_count ns → kind_at ns i ≡ variable_word → first_at ns i < n))
    × ((v : ℕ) → n ≤ v → is_marked run v ≡ false)

-- 12: "an assignment slice over 256 bytes, or a byte above 2"
abbrev pub NoAssignment : List ℕ → Type 0
NoAssignment bytes = (variable_count < length bytes) ⊎ ((j : ℕ) × (j < length bytes) × (2 < get_or bytes j 0))

abbrev pub IsAssignment : List ℕ → Type 0
IsAssignment bytes = (length bytes ≤ variable_count) × ((j : ℕ) → j < length bytes → get_or bytes j 0 ≤ 2)

-- 19: "an output slice shorter than the answer, or a list answered above the limits"
abbrev pub NoRoom : List ℕ → List ℕ → ℕ → ℕ → Type 0
NoRoom ns ps out_nodes out_pool =
    (((out_nodes < length (canonical_nodes ns ps)) ⊎ (out_pool < length (canonical_pool ns ps)))
    ⊎ (most_nodes < node_count (canonical_nodes ns ps)))
    ⊎ (most_pool < length (canonical_pool ns ps))

abbrev pub Room : List ℕ → List ℕ → ℕ → ℕ → Type 0
Room ns ps out_nodes out_pool =
    (((length (canonical_nodes ns ps) ≤ out_nodes) × (length (canonical_pool ns ps) ≤ out_pool))
    × (node_count (canonical_nodes ns ps) ≤ most_nodes))
    × (length (canonical_pool ns ps) ≤ most_pool)
