-- Classes written out: `(AND v0 v0)` laid out in two ways. In the first list v0 stands twice, and v1 between them, where
-- no path leads to it; in the second v0 stands once, behind a v1 that no path leads to.
use Rattle.std.specs.Prelude.{ℕ, ◌≡◌, refl, List, [], ◌∷◌, ◌++◌, true}
use Rattle.meaning.specs.Rules.Kinds.{variable_word}
use Rattle.meaning.specs.Rules.Trees.{same, node_of, datum_at, children_at, trees_of, tree_of, root_of}
use Rattle.meaning.specs.Rules.Reach.{marks}
use Rattle.meaning.specs.Rules.Search.{lowest}
use Rattle.classes.specs.Classes.{has_tree, class_of, class_at}

abbrev twice : List ℕ
twice = node_of variable_word 0 0 ++ node_of variable_word 1 0 ++ node_of variable_word 0 0 ++ node_of 6 0 2

abbrev twice_pool : List ℕ
twice_pool = 0 ∷ 2 ∷ []

abbrev once : List ℕ
once = node_of variable_word 1 0 ++ node_of variable_word 0 0 ++ node_of 6 0 2

abbrev once_pool : List ℕ
once_pool = 1 ∷ 1 ∷ []

abbrev first : ℕ → ℕ
first = class_at twice twice_pool twice twice_pool

abbrev second : ℕ → ℕ
second = class_at twice twice_pool once once_pool

-- the second v0 is like the first, v1 has no class, the root is its own
pub own_classes : (first 0 ≡ 0) × (first 1 ≡ 4) × (first 2 ≡ 0) × (first 3 ≡ 3)
unfolding class_at class_of has_tree lowest marks tree_of trees_of datum_at children_at
own_classes = (refl, refl, refl, refl)

-- the other list's v0 has the class of the first's, and its root that of the first's root: the trees are the same
pub other_classes : (second 0 ≡ 4) × (second 1 ≡ 0) × (second 2 ≡ 3)
unfolding class_at class_of has_tree lowest marks tree_of trees_of datum_at children_at
other_classes = (refl, refl, refl)

pub roots_same : same (root_of twice twice_pool) (root_of once once_pool) ≡ true
unfolding root_of tree_of trees_of datum_at children_at
roots_same = refl
