-- "the variables below the first root": a variable occurs in the root's tree exactly if a reachable node is that variable.
use Rattle.std.specs.Prelude.{ℕ, zero, suc, ◌-◌, ◌<◌, ◌≡◌, refl, ◌↔◌, [], List, ◌∷◌, Bool, false, ◌&&◌, ◌||◌, ltb}
use Rattle.std.proofs.Common.{sym, ap, ◌∙◌, ⊎_elim, arith}
use Rattle.std.proofs.Math.Path.{subst}
use Rattle.std.proofs.Math.Bool.{true, or-true}
use Rattle.std.proofs.Math.Dec.{eqb}
use borrow.Author.Tests.{eqb-true, eq-eqb, ltb-true}
use Rattle.meaning.proofs.Laws.BoolLaws.{true_false, and_left, and_right, or_cases}
use Rattle.meaning.specs.Rules.Trees.{Tree, forest, node_count, kind_at, datum_at, children_at, tree_of, root_of}
use Rattle.meaning.proofs.Laws.TreeLaws.{tree_at}
use Rattle.meaning.specs.Rules.Refusals.{some}
use Rattle.meaning.specs.Rules.Layout.{children_below}
use Rattle.meaning.specs.Rules.Reach.{mark_of, PathTo, at_root, down}
use Rattle.meaning.specs.Rules.Assignments.{occurs, occurs_in}
use Rattle.meaning.proofs.Laws.ReachLaws.{reach_child, reach_root}
use Rattle.meaning.proofs.Laws.PathLaws.{mark_path, path_small}
use Rattle.meaning.proofs.Laws.RootLaws.{every_in}

-- in a forest made from a list of numbers
in_forest : (v : ℕ) (f : ℕ → Tree) (cs : List ℕ) (c : ℕ) → some (eqb c) cs ≡ true → occurs v (f c) ≡ true → occurs_in v (forest f cs) ≡ true
in_forest v f [] c h o = absurd (true_false h refl)
in_forest v f (x ∷ cs) c h o = go (eqb c x) refl (in_forest v f cs c)
  where
    go : (b : Bool) → eqb c x ≡ b → (some (eqb c) cs ≡ true → occurs v (f c) ≡ true → occurs_in v (forest f cs) ≡ true)
        → (occurs v (f x) || occurs_in v (forest f cs)) ≡ true
    go true e ih = rw (subst (λ (y : ℕ). occurs v (f y) ≡ true) (eqb-true c x e) o) refl
    go false e ih = rw (ih (rw e at h) o) (or-true (occurs v (f x)))

of_forest : (v : ℕ) (f : ℕ → Tree) (cs : List ℕ) → occurs_in v (forest f cs) ≡ true
    → (c : ℕ) × (some (eqb c) cs ≡ true) × (occurs v (f c) ≡ true)
of_forest v f [] h = absurd (true_false h refl)
of_forest v f (x ∷ cs) h = ⊎_elim first (λ o. later (of_forest v f cs o)) (or_cases (occurs v (f x)) (occurs_in v (forest f cs)) h)
  where
    first : occurs v (f x) ≡ true → (c : ℕ) × (some (eqb c) (x ∷ cs) ≡ true) × (occurs v (f c) ≡ true)
    first o = (x, rw (eq-eqb x x refl) refl, o)

    later : (c : ℕ) × (some (eqb c) cs ≡ true) × (occurs v (f c) ≡ true) → (c : ℕ) × (some (eqb c) (x ∷ cs) ≡ true) × (occurs v (f c) ≡ true)
    later r = (r.0, rw r.1 (or-true (eqb r.0 x)), r.2)

module _ (ns ps : List ℕ) (below : (i : ℕ) → i < node_count ns → children_below ns ps i ≡ true) (v : ℕ) where
  -- node j is reachable and is the variable v
  pub record IsInput (j : ℕ) : Type 0 where
    pub small : j < node_count ns
    pub marked : 0 < mark_of ns ps j
    pub kind : kind_at ns j ≡ 3
    pub number : datum_at ns j ≡ v

  occurs_at : (i : ℕ) → i < node_count ns
      → occurs v (tree_of ns ps i) ≡ (eqb (kind_at ns i) 3 && eqb (datum_at ns i) v || occurs_in v (forest (tree_of ns ps) (children_at ns ps i)))
  occurs_at i h = ap (occurs v) (tree_at ns ps i (below i h))

  down_to : (b i : ℕ) → i < b → i < node_count ns → 0 < mark_of ns ps i → occurs v (tree_of ns ps i) ≡ true → (j : ℕ) × IsInput j
  down_to zero i l h m o = absurd (omega arith)
  down_to (suc b) i l h m o =
      ⊎_elim (λ e. (i, record { small = h; marked = m; kind = eqb-true (kind_at ns i) 3 (and_left own (eqb (datum_at ns i) v) e); number = eqb-true (datum_at ns i) v (and_right own (eqb (datum_at ns i) v) e) }))
      (λ e.
      let (c, k, o') = of_forest v (tree_of ns ps) (children_at ns ps i) e in
      let small : c < i = ltb-true c i (every_in (λ c. ltb c i) (children_at ns ps i) (below i h) c k) in
      down_to b c (omega arith) (omega arith) (reach_child ns ps i c h small m k) o')
      (or_cases (own && eqb (datum_at ns i) v) (occurs_in v (forest (tree_of ns ps) (children_at ns ps i))) (sym (occurs_at i h) ∙ o))
    where
      own : Bool
      own = eqb (kind_at ns i) 3

  up_from : {i d : ℕ} → PathTo ns ps i d → occurs v (tree_of ns ps i) ≡ true → occurs v (root_of ns ps) ≡ true
  unfolding root_of
  up_from (at_root {i = i} e) o = subst (λ (x : ℕ). occurs v (tree_of ns ps x) ≡ true) (omega arith) o
  up_from (down {i = i} {j = j} p l c) o =
      up_from p (occurs_at j (path_small ns ps p) ∙ rw (in_forest v (tree_of ns ps) (children_at ns ps j) i c o) (or-true (eqb (kind_at ns j) 3 && eqb (datum_at ns j) v)))

  -- v occurs in the root's tree exactly if some reachable node is the variable v
  pub inputs_reachable : 0 < node_count ns → (occurs v (root_of ns ps) ≡ true) ↔ ((j : ℕ) × IsInput j)
  unfolding root_of
  inputs_reachable h = (λ o. down_to (node_count ns) (node_count ns - 1) (omega arith) (omega arith) (reach_root ns ps (node_count ns - 1) (omega arith)) o, back)
    where
      back : (j : ℕ) × IsInput j → occurs v (root_of ns ps) ≡ true
      back r =
          let i = r.1 in
          up_from (mark_path ns ps r.0 i.small i.marked)
          (occurs_at r.0 i.small ∙ rw (eq-eqb (kind_at ns r.0) 3 i.kind, eq-eqb (datum_at ns r.0) v i.number) refl)
