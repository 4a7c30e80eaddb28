-- Classes: one number for all nodes that have the same tree (document 01, "Comparison and separation": "Equal trees").
-- A class is the lowest node of a first list with that tree, so that two nodes have one class exactly when their trees
-- are the same.
use Rattle.std.specs.Prelude.{ℕ, ◌≤◌, ◌<◌, ◌≡◌, List, Bool, true, false, cond, ◌&&◌, ltb, eqb}
use Rattle.std.proofs.Math.Path.{refl}
use Rattle.std.proofs.Common.{sym, ap, subst, ◌∙◌, arith, lt-ltb, eq-eqb, ne_eqb}
use Rattle.std.proofs.Math.Decide.{dec_lt}
use Rattle.meaning.specs.Rules.Trees.{Tree, same, node_count, tree_of}
use Rattle.meaning.specs.Rules.Reach.{mark_of}
use Rattle.meaning.specs.Rules.Search.{lowest}
use Rattle.meaning.proofs.Laws.BoolLaws.{true_false, and_both, and_right}
use Rattle.meaning.proofs.Laws.SearchLaws.{lowest_is, lowest_only}
use Rattle.meaning.proofs.Laws.TreeLaws.{same_eq, eq_same, same_refl}

-- node i is the root or below it, and has the tree t
unfoldable pub has_tree : List ℕ → List ℕ → Tree → ℕ → Bool
has_tree ns ps t i = ltb 0 (mark_of ns ps i) && same (tree_of ns ps i) t

-- the class of a tree: the lowest such node; the node count where there is none
unfoldable pub class_of : List ℕ → List ℕ → Tree → ℕ
class_of ns ps t = lowest (has_tree ns ps t) (node_count ns)

-- node j of a list ms qs, by its class in the list ns ps; a node that no path reaches has none
unfoldable pub class_at : List ℕ → List ℕ → List ℕ → List ℕ → ℕ → ℕ
class_at ns ps ms qs j = cond (ltb 0 (mark_of ms qs j)) (class_of ns ps (tree_of ms qs j)) (node_count ns)

-- ---- a search that stops at a number which passes, or goes on to it, finds the same
module _ (p : ℕ → Bool) where
  lowest_under : (n i : ℕ) → i < n → p i ≡ true → lowest p n ≤ i
  lowest_under n i h passes = elim (dec_lt i (lowest p n)) [
    | yes k ↦ absurd (true_false passes ((lowest_is p n).before i (omega arith) k))
    | no k ↦ omega arith
  ]

  lowest_short : (n i : ℕ) → i < n → p i ≡ true → lowest p i ≡ lowest p n
  lowest_short n i h passes = sym (lowest_only p n (lowest p i) (record {
    after = omega arith;
    within = omega (arith, (lowest_is p i).within);
    passes = λ l. elim (dec_lt (lowest p i) i) [
      | yes k ↦ (lowest_is p i).passes k
      | no k ↦ subst (λ (x : ℕ). p x ≡ true) (omega (arith, (lowest_is p i).within)) passes
    ];
    before = (lowest_is p i).before;
  }))

module _ (ns ps : List ℕ) where
  -- a marked node has its own tree
  has_own : (i : ℕ) → 0 < mark_of ns ps i → has_tree ns ps (tree_of ns ps i) i ≡ true
  unfolding has_tree
  has_own i marked =
      let t : Tree = tree_of ns ps i in
      and_both (ltb 0 (mark_of ns ps i)) (same t t) (lt-ltb 0 (mark_of ns ps i) marked) (same_refl t)

  has_only : (t : Tree) (i : ℕ) → has_tree ns ps t i ≡ true → tree_of ns ps i ≡ t
  unfolding has_tree
  has_only t i has = same_eq (tree_of ns ps i) t (and_right (ltb 0 (mark_of ns ps i)) (same (tree_of ns ps i) t) has)

  -- the class of a tree that is there has it, and is the lowest node with it
  pub class_has : (t : Tree) → class_of ns ps t < node_count ns → tree_of ns ps (class_of ns ps t) ≡ t
  unfolding class_of
  class_has t h =
      has_only t (lowest (has_tree ns ps t) (node_count ns)) ((lowest_is (has_tree ns ps t) (node_count ns)).passes h)

  pub class_under : (i : ℕ) → i < node_count ns → 0 < mark_of ns ps i → class_of ns ps (tree_of ns ps i) ≤ i
  unfolding class_of
  class_under i h marked = lowest_under (has_tree ns ps (tree_of ns ps i)) (node_count ns) i h (has_own i marked)

  -- one class, one tree
  pub class_same : (i : ℕ) (t : Tree) → i < node_count ns → 0 < mark_of ns ps i
      → eqb (class_of ns ps (tree_of ns ps i)) (class_of ns ps t) ≡ same (tree_of ns ps i) t
  class_same i t h marked = go (same (tree_of ns ps i) t) refl
    where
      own : Tree
      own = tree_of ns ps i

      one : class_of ns ps own ≡ class_of ns ps t → own ≡ t
      one e =
          let low : class_of ns ps own ≤ i = class_under i h marked in
          sym (class_has own (omega arith)) ∙ ap (tree_of ns ps) e ∙ class_has t (omega arith)

      go : (b : Bool) → same own t ≡ b → eqb (class_of ns ps own) (class_of ns ps t) ≡ same own t
      go true e = eq-eqb (class_of ns ps own) (class_of ns ps t) (ap (class_of ns ps) (same_eq own t e)) ∙ sym e
      go false e = ne_eqb (class_of ns ps own) (class_of ns ps t) (λ q. true_false (eq_same own t (one q)) e) ∙ sym e

  -- in the first list itself no node above node j need be asked: node j has its own tree
  pub class_own : (j : ℕ) → j < node_count ns → 0 < mark_of ns ps j
      → lowest (has_tree ns ps (tree_of ns ps j)) j ≡ class_of ns ps (tree_of ns ps j)
  unfolding class_of
  class_own j h marked = lowest_short (has_tree ns ps (tree_of ns ps j)) (node_count ns) j h (has_own j marked)

  pub class_whole : (t : Tree) → lowest (has_tree ns ps t) (node_count ns) ≡ class_of ns ps t
  unfolding class_of
  class_whole t = refl

  module _ (ms qs : List ℕ) (j : ℕ) where
    pub class_marked : 0 < mark_of ms qs j → class_at ns ps ms qs j ≡ class_of ns ps (tree_of ms qs j)
    unfolding class_at
    class_marked h = rw (lt-ltb 0 (mark_of ms qs j) h)

    pub class_unmarked : mark_of ms qs j ≡ 0 → class_at ns ps ms qs j ≡ node_count ns
    unfolding class_at
    class_unmarked e = rw e
