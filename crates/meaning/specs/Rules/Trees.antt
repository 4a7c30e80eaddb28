-- A node list and the tree at each of its nodes (document 01, "The node list").
use Rattle.std.specs.Prelude.{ℕ, zero, suc, ◌+◌, ◌-◌, ◌*◌, ◌/◌, ◌^◌, List, [], ◌∷◌, ◌++◌, Bool, true, false, cond, ◌&&◌, length, get_or, take, drop, replicate, eqb}
use Rattle.meaning.specs.Rules.Limits.{words_per_node}
use Rattle.meaning.specs.Rules.Kinds.{program_word, cycle_word, has_children}

-- ---- trees: the kind word, the datum (a constant's bit, a Program's value, a variable's number, else 0), the children.
-- Two terms are the same tree when these are equal, `≡`.
mutual
  pub data Tree : Type 0 where
    node : ℕ → ℕ → Forest → Tree

  pub data Forest : Type 0 where
    none : Forest
    ◌◂◌ : Tree → Forest → Forest

infixr 67 ◌◂◌
-- `≡` of trees as a test
abbrev mutual
  pub same : Tree → Tree → Bool
  same (node k d cs) (node k' d' cs') = eqb k k' && eqb d d' && same_all cs cs'

  pub same_all : Forest → Forest → Bool
  same_all none none = true
  same_all none (u ◂ us) = false
  same_all (t ◂ ts) none = false
  same_all (t ◂ ts) (u ◂ us) = same t u && same_all ts us

abbrev pub kind_word : Tree → ℕ
kind_word (node k d cs) = k

abbrev pub datum : Tree → ℕ
datum (node k d cs) = d

abbrev pub children : Tree → Forest
children (node k d cs) = cs

abbrev pub forest : (ℕ → Tree) → List ℕ → Forest
forest f [] = none
forest f (i ∷ is) = f i ◂ forest f is

abbrev pub trees : Forest → List Tree
trees none = []
trees (t ◂ ts) = t ∷ trees ts

abbrev pub forest_of : List Tree → Forest
forest_of [] = none
forest_of (t ∷ ts) = t ◂ forest_of ts

-- ---- the words of a node: kind, first, count, and zeros where a node has more of them
abbrev pub node_of : ℕ → ℕ → ℕ → List ℕ
node_of kind first count = kind ∷ first ∷ count ∷ replicate (words_per_node - 3) 0

-- the words of node i of the list ns
abbrev pub node_count : List ℕ → ℕ
node_count ns = length ns / words_per_node

abbrev pub kind_at : List ℕ → ℕ → ℕ
kind_at ns i = get_or ns (i * words_per_node) 0

abbrev pub first_at : List ℕ → ℕ → ℕ
first_at ns i = get_or ns (i * words_per_node + 1) 0

abbrev pub count_at : List ℕ → ℕ → ℕ
count_at ns i = get_or ns (i * words_per_node + 2) 0

-- "Program: low half in first, high half in count"; kinds 4 to 16 have children and no datum
unfoldable pub datum_at : List ℕ → ℕ → ℕ
datum_at ns i =
    cond (has_children (kind_at ns i)) 0
    (cond (eqb (kind_at ns i) program_word) (first_at ns i + count_at ns i * 2 ^ 32) (first_at ns i))

-- "Children are the pool entries first to first + count - 1", of the pool ps
unfoldable pub children_at : List ℕ → List ℕ → ℕ → List ℕ
children_at ns ps i = cond (has_children (kind_at ns i)) (take (count_at ns i) (drop (first_at ns i) ps)) []

-- ---- the trees of the first n nodes, in order: a node's children are taken from the trees before it.
-- `stump` stands for a child that is not numbered below its node; number 5 refuses every list that has one.
abbrev pub stump : Tree
stump = node (suc cycle_word) 0 none

abbrev pub nth_tree : List Tree → ℕ → Tree
nth_tree ts i = get_or ts i stump

unfoldable pub trees_of : List ℕ → List ℕ → ℕ → List Tree
trees_of ns ps zero = []
trees_of ns ps (suc i) =
    let ts = trees_of ns ps i in
    ts ++ (node (kind_at ns i) (datum_at ns i) (forest (λ c. get_or ts c stump) (children_at ns ps i)) ∷ [])

-- the tree at node i; `TreeLaws.tree-at` says that it is node i over the trees at its children
unfoldable pub tree_of : List ℕ → List ℕ → ℕ → Tree
tree_of ns ps i = get_or (trees_of ns ps (suc i)) i stump

-- "The last node is the root"
unfoldable pub root_of : List ℕ → List ℕ → Tree
root_of ns ps = tree_of ns ps (node_count ns - 1)
