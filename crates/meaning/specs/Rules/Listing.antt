-- The list of a tree (document 01, "Canonical list"): "each distinct subtree below the root once, Programs included,
-- children before parents, left to right, pool without gaps".
use Rattle.std.specs.Prelude.{ℕ, ◌+◌, ◌/◌, ◌%◌, ◌^◌, List, [], ◌∷◌, ◌++◌, map, cond, length}
use Rattle.meaning.specs.Rules.Kinds.{has_children}
use Rattle.meaning.specs.Rules.Trees.{Tree, Forest, node, none, ◌◂◌, kind_word, datum, children, trees, same, node_of, nth_tree}
use Rattle.meaning.specs.Rules.Search.{lowest}
use Rattle.meaning.specs.Rules.Refusals.{some}

-- ---- the subtrees, each at its first visit
abbrev pub keep : Tree → List Tree → List Tree
keep t seen = cond (some (same t) seen) seen (seen ++ (t ∷ []))

abbrev mutual
  pub visit : Tree → List Tree → List Tree
  visit (node k d cs) seen = keep (node k d cs) (visit_all cs seen)

  pub visit_all : Forest → List Tree → List Tree
  visit_all none seen = seen
  visit_all (t ◂ ts) seen = visit_all ts (visit t seen)

unfoldable pub subtrees : Tree → List Tree
subtrees t = visit t []

-- a subtree's number
abbrev pub number_in : List Tree → Tree → ℕ
number_in all t = lowest (λ i. same t (nth_tree all i)) (length all)

abbrev pub child_numbers : List Tree → Tree → List ℕ
child_numbers all t = map (number_in all) (trees (children t))

-- a tree's node: its part of the pool, which starts at `at`, or the two halves of its datum
abbrev pub first_word : ℕ → Tree → ℕ
first_word at t = cond (has_children (kind_word t)) at (datum t % 2 ^ 32)

abbrev pub count_word : Tree → ℕ
count_word t = cond (has_children (kind_word t)) (length (trees (children t))) (datum t / 2 ^ 32)

abbrev pub node_at : ℕ → Tree → List ℕ
node_at at t = node_of (kind_word t) (first_word at t) (count_word t)

-- the words of the nodes, "pool without gaps": a node's part starts where the part before it ends
abbrev pub node_words : ℕ → List Tree → List ℕ
node_words at [] = []
node_words at (t ∷ ts) = node_at at t ++ node_words (at + length (trees (children t))) ts

abbrev pub pool_words : List Tree → List Tree → List ℕ
pool_words all [] = []
pool_words all (t ∷ ts) = child_numbers all t ++ pool_words all ts

unfoldable pub listed_nodes : Tree → List ℕ
listed_nodes t = node_words 0 (subtrees t)

unfoldable pub listed_pool : Tree → List ℕ
listed_pool t = pool_words (subtrees t) (subtrees t)
