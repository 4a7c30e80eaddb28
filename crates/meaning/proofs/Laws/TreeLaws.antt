-- The law by which a pass over the node list meets the trees: the tree at a node is the node over the trees at its children.
use Prim.Native.Nat.{ℕ, zero, suc, ◌<◌}
use Rattle.std.specs.Prelude.{◌≡◌, ◌&&◌, length, eqb}
use Rattle.std.proofs.Math.Path.{refl, ap}
use Rattle.std.proofs.Common.{ap₂, subst, ◌∙◌, add-one, ltb-true, eqb-true, eq-eqb}
use mathlib.Core.List.{List, ◌∷◌, []}
use Rattle.std.proofs.Math.Bool.{true}
use native.Mathlib.Omega.{arith}
use Rattle.std.proofs.Math.Decide.{dec_lt}
use Rattle.std.proofs.Math.ListN.{get_or, length-append, get_or-append}
use Rattle.std.proofs.Math.Seq.{get_or_at}
use Rattle.std.proofs.Math.Dec.{ltb}
use Rattle.meaning.proofs.Laws.BoolLaws.{true_false, and_left, and_right, and_both}
use Rattle.meaning.specs.Rules.Trees.{Tree, Forest, node, none, ◌◂◌, same, same_all, forest, kind_at, datum_at, children_at, stump, trees_of, tree_of}
use Rattle.meaning.specs.Rules.Refusals.{every}

-- two functions that agree below i make the same forest of a list of numbers below i
forest_below : (f g : ℕ → Tree) (i : ℕ) (cs : List ℕ) → every (λ c. ltb c i) cs ≡ true
    → ((c : ℕ) → c < i → f c ≡ g c) → forest f cs ≡ forest g cs
forest_below f g i [] h e = refl
forest_below f g i (c ∷ cs) h e =
    ap₂ (λ (t : Tree) (ts : Forest). t ◂ ts) (e c (ltb-true c i (and_left (ltb c i) (every (λ c. ltb c i) cs) h)))
    (forest_below f g i cs (and_right (ltb c i) (every (λ c. ltb c i) cs) h) e)

module _ (ns ps : List ℕ) where
  -- node i over the trees at its children
  abbrev pub grown : (ℕ → Tree) → ℕ → Tree
  grown f i = node (kind_at ns i) (datum_at ns i) (forest f (children_at ns ps i))

  trees_length : (n : ℕ) → length (trees_of ns ps n) ≡ n
  unfolding trees_of
  trees_length zero = refl
  trees_length (suc n) = length-append (trees_of ns ps n) _ ∙ rw (trees_length n, add-one)

  pub tree_from : (i : ℕ) → tree_of ns ps i ≡ grown (λ c. get_or (trees_of ns ps i) c stump) i
  unfolding tree_of trees_of
  tree_from i = get_or_at (trees_of ns ps i) _ [] stump i (trees_length i)

  -- the trees of the first n nodes
  pub trees_at : (n i : ℕ) → i < n → get_or (trees_of ns ps n) i stump ≡ tree_of ns ps i
  unfolding trees_of tree_of
  trees_at zero i h = absurd (omega arith)
  trees_at (suc n) i h = elim (dec_lt i n) [
    | yes k ↦ get_or-append (trees_of ns ps n) _ stump i (rw (trees_length n) k) ∙ trees_at n i k
    | no k ↦ let e : i ≡ n = omega arith in rw e
  ]

  -- the unfolding law; its condition is that number 5 does not refuse at node i
  pub tree_at : (i : ℕ) → every (λ c. ltb c i) (children_at ns ps i) ≡ true → tree_of ns ps i ≡ grown (tree_of ns ps) i
  tree_at i h =
      tree_from i ∙ ap (λ (f : Forest). node (kind_at ns i) (datum_at ns i) f)
      (forest_below (λ c. get_or (trees_of ns ps i) c stump) (tree_of ns ps) i (children_at ns ps i) h (trees_at i))

-- ---- `same` decides equality of trees
node_path : {k k' d d' : ℕ} {cs cs' : Forest} → k ≡ k' → d ≡ d' → cs ≡ cs' → node k d cs ≡ node k' d' cs'
node_path p q r = cc

mutual
  pub same_eq : (t u : Tree) → same t u ≡ true → t ≡ u
  same_eq (node k d cs) (node k' d' cs') h =
      let kd = and_left (eqb k k' && eqb d d') (same_all cs cs') h in
      node_path (eqb-true k k' (and_left (eqb k k') (eqb d d') kd)) (eqb-true d d' (and_right (eqb k k') (eqb d d') kd))
      (same_all_eq cs cs' (and_right (eqb k k' && eqb d d') (same_all cs cs') h))

  pub same_all_eq : (ts us : Forest) → same_all ts us ≡ true → ts ≡ us
  same_all_eq none none h = refl
  same_all_eq none (u ◂ us) h = absurd (true_false h refl)
  same_all_eq (t ◂ ts) none h = absurd (true_false h refl)
  same_all_eq (t ◂ ts) (u ◂ us) h =
      ap₂ (λ (x : Tree) (xs : Forest). x ◂ xs) (same_eq t u (and_left (same t u) (same_all ts us) h))
      (same_all_eq ts us (and_right (same t u) (same_all ts us) h))

mutual
  pub same_refl : (t : Tree) → same t t ≡ true
  same_refl (node k d cs) =
      and_both (eqb k k && eqb d d) (same_all cs cs) (and_both (eqb k k) (eqb d d) (eq-eqb k k refl) (eq-eqb d d refl)) (same_all_refl cs)

  pub same_all_refl : (ts : Forest) → same_all ts ts ≡ true
  same_all_refl none = refl
  same_all_refl (t ◂ ts) = and_both (same t t) (same_all ts ts) (same_refl t) (same_all_refl ts)

pub eq_same : (t u : Tree) → t ≡ u → same t u ≡ true
eq_same t u e = subst (λ (x : Tree). same t x ≡ true) e (same_refl t)
