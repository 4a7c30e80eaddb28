-- From the tests node by node to the root's tree: an accepted list without DC, register or ARG below the root is Made.
use Prim.Native.Nat.{ℕ, zero, suc, ◌+◌, ◌-◌, ◌≤◌, ◌<◌}
use Rattle.std.specs.Prelude.{◌≡◌, refl, [], List, ◌∷◌, Bool, cond, ◌&&◌, ◌||◌, length, drop, ltb, eqb}
use Rattle.std.proofs.Common.{sym, ap, subst, ◌∙◌}
use Rattle.std.proofs.Math.Bool.{true, false, not, or-true}
use native.Mathlib.Omega.{arith}
use Rattle.std.proofs.Math.ListN.{length-take, length-drop}
use borrow.Author.Tests.{eqb-true, eq-eqb, ne_eqb, leb-true, ltb-true, ltb-false, lt-ltb, le-ltb}
use Rattle.meaning.specs.Rules.Kinds.{kind_of, may_have, is_plain, is_gate}
use Rattle.meaning.proofs.Laws.BoolLaws.{true_false, and_left, and_right, not_is_false, or_left_false, or_right_false}
use Rattle.meaning.specs.Rules.Trees.{Tree, Forest, node, none, trees, forest, node_count, kind_at, first_at, count_at, datum_at, children_at, tree_of, root_of}
use Rattle.meaning.proofs.Laws.TreeLaws.{tree_at}
use Rattle.meaning.specs.Rules.Refusals.{every, some}
use Rattle.meaning.specs.Rules.Layout.{first_fits, laid_out, children_below, layout_fault}
use Rattle.meaning.specs.Rules.Reach.{mark_of, reachable}
use Rattle.meaning.specs.Rules.Verification.{wrong, wrong_tree, verify_fault, is_program}
use Rattle.meaning.specs.Rules.Evaluable.{fits, fits_tree, shape_fault, is_bit, shape, shapes, shape_step}
use Rattle.meaning.specs.Rules.Canonical.{gate_fault}
use Rattle.meaning.proofs.Laws.ReachLaws.{reach_child, reach_root}
use Rattle.meaning.proofs.Laws.NfLaws.{Made, a_bit}
use Rattle.meaning.proofs.Laws.MadeLaws.{Sorted, a_program, is_a_bit, is_a_bus, AllSorted, empty, and_then, NodeOk, sort_node}

cond_zero : (b : Bool) (n : ℕ) → cond b (suc n) 0 ≡ 0 → b ≡ false
cond_zero true n h = absurd (omega arith)
cond_zero false n h = refl

layout_parts : (a b c : Bool) → ◌≡◌ {A = ℕ} (cond a 3 (cond b 4 (cond c 5 0))) 0 → (a ≡ false) × (b ≡ false) × (c ≡ false)
layout_parts true b c h = absurd (omega arith)
layout_parts false true c h = absurd (omega arith)
layout_parts false false c h = (refl, refl, cond_zero c 4 h)

pub forest_length : (f : ℕ → Tree) (cs : List ℕ) → length (trees (forest f cs)) ≡ length cs
forest_length f [] = refl
forest_length f (c ∷ cs) = ap suc (forest_length f cs)

-- the children that every test passes
pub every_in : (p : ℕ → Bool) (cs : List ℕ) → every p cs ≡ true → (c : ℕ) → some (eqb c) cs ≡ true → p c ≡ true
every_in p [] h c k = absurd (true_false k refl)
every_in p (x ∷ cs) h c k = go (eqb c x) refl (every_in p cs (and_right (p x) (every p cs) h) c)
  where
    go : (b : Bool) → eqb c x ≡ b → (some (eqb c) cs ≡ true → p c ≡ true) → p c ≡ true
    go true e ih = subst (λ (y : ℕ). p y ≡ true) (sym (eqb-true c x e)) (and_left (p x) (every p cs) h)
    go false e ih = ih (rw e at k)

all_sorted : (D : ℕ → Type 0) (f : ℕ → Tree) (cs : List ℕ) → ((c : ℕ) → some (eqb c) cs ≡ true → Sorted D (f c)) → AllSorted D (forest f cs)
all_sorted D f [] h = empty
all_sorted D f (c ∷ cs) h =
    and_then (h c (rw (eq-eqb c c refl))) (all_sorted D f cs (λ x k. h x (rw k (or-true (eqb x c)))))

made_of : (D : ℕ → Type 0) {t : Tree} → Sorted D t → is_program t ≡ false → Made D t
made_of D a_program h = absurd (true_false refl h)
made_of D (is_a_bit b) h = a_bit b
made_of D (is_a_bus m e) h = m

-- ---- what the tests say of the list
pub record Accepted (ns ps : List ℕ) (D : ℕ → Type 0) : Type 0 where
  pub laid : (i : ℕ) → i < node_count ns → layout_fault ns ps i ≡ 0
  pub verified : (i : ℕ) → i < node_count ns → verify_fault ns ps i ≡ 0
  pub shaped : (i : ℕ) → i < node_count ns → shape_fault ns ps i ≡ 0
  pub gated : (i : ℕ) → i < node_count ns → gate_fault ns ps i ≡ 0
  pub bounded : (i : ℕ) → i < node_count ns → kind_at ns i ≡ 3 → D (first_at ns i)
  pub plain : (i : ℕ) → i < node_count ns → 0 < mark_of ns ps i → is_plain (kind_of (kind_at ns i)) ≡ true

module _ (ns ps : List ℕ) (D : ℕ → Type 0) (acc : Accepted ns ps D) where
  module _ (i : ℕ) (small : i < node_count ns) where
    laid_out_lem : (ltb 16 (kind_at ns i) ≡ false) × (not (laid_out ns ps i) ≡ false) × (not (children_below ns ps i) ≡ false)
    unfolding layout_fault
    laid_out_lem = layout_parts (ltb 16 (kind_at ns i)) (not (laid_out ns ps i)) (not (children_below ns ps i)) (acc.laid i small)

    kind_ok : kind_at ns i < 17
    kind_ok = omega (arith, ltb-false 16 (kind_at ns i) laid_out_lem.0)

    below_ok : children_below ns ps i ≡ true
    below_ok = not_is_false (children_below ns ps i) laid_out_lem.2

    abbrev counted : Bool
    counted = may_have (kind_of (kind_at ns i)) (count_at ns i)

    abbrev fitting : Bool
    fitting = first_fits (kind_at ns i) (first_at ns i) (count_at ns i) (length ps)

    count_ok : counted ≡ true
    count_ok = and_left counted fitting (not_is_false (laid_out ns ps i) laid_out_lem.1)

    first_ok : fitting ≡ true
    first_ok = and_right counted fitting (not_is_false (laid_out ns ps i) laid_out_lem.1)

    -- the tree at i is node i over these children
    abbrev cs : Forest
    cs = forest (tree_of ns ps) (children_at ns ps i)

    tree_is : tree_of ns ps i ≡ node (kind_at ns i) (datum_at ns i) cs
    tree_is = tree_at ns ps i below_ok

    leaf_ok : kind_at ns i < 4 → cs ≡ none
    unfolding children_at
    leaf_ok h = rw (le-ltb 3 (kind_at ns i) (omega arith))

    inner_first : 3 < kind_at ns i → first_at ns i + count_at ns i ≤ length ps
    inner_first h =
        leb-true (first_at ns i + count_at ns i) (length ps)
        (rw (ne_eqb (kind_at ns i) 0 (λ e. omega arith), ne_eqb (kind_at ns i) 1 (λ e. omega arith), ne_eqb (kind_at ns i) 2 (λ e. omega arith), ne_eqb (kind_at ns i) 3 (λ e. omega arith)) at first_ok)

    children_length : 3 < kind_at ns i → length (children_at ns ps i) ≡ count_at ns i
    unfolding children_at
    children_length h =
        rw (lt-ltb 3 (kind_at ns i) h, length-take (count_at ns i) (drop (first_at ns i) ps), length-drop (first_at ns i) ps) (omega (arith, inner_first h))

    arity_ok : 3 < kind_at ns i → may_have (kind_of (kind_at ns i)) (length (trees cs)) ≡ true
    arity_ok h = subst (λ (n : ℕ). may_have (kind_of (kind_at ns i)) n ≡ true) (sym (forest_length (tree_of ns ps) (children_at ns ps i) ∙ children_length h)) count_ok

    inner_ok : 3 < kind_at ns i → datum_at ns i ≡ 0
    unfolding datum_at
    inner_ok h = rw (lt-ltb 3 (kind_at ns i) h)

    constant_ok : kind_at ns i ≡ 0 → datum_at ns i < 2
    unfolding datum_at
    constant_ok e = rw e (ltb-true (first_at ns i) 2 (rw e at first_ok))

    variable_ok : kind_at ns i ≡ 3 → D (datum_at ns i)
    unfolding datum_at
    variable_ok e = rw e (acc.bounded i small e)

    module _ (marked : 0 < mark_of ns ps i) where
      right_ok : wrong (kind_of (kind_at ns i)) (mark_of ns ps i - 1) (trees cs) ≡ false
      unfolding verify_fault
      right_ok =
          let h : (ltb 0 (mark_of ns ps i) && wrong_tree (mark_of ns ps i - 1) (tree_of ns ps i)) ≡ false = cond_zero _ 5 (acc.verified i small) in
          rw (lt-ltb 0 (mark_of ns ps i) marked, tree_is) at h

      abbrev at_root : Bool
      at_root = eqb (suc i) (node_count ns)

      shape_ok : (not (fits_tree (tree_of ns ps i)) || at_root && is_program (tree_of ns ps i)) ≡ false
      unfolding shape_fault
      shape_ok =
          let h : (reachable ns ps i && (not (fits_tree (tree_of ns ps i)) || at_root && is_program (tree_of ns ps i))) ≡ false = cond_zero _ 7 (acc.shaped i small) in
          rw (lt-ltb 0 (mark_of ns ps i) marked) at h

      root_no_program : suc i ≡ node_count ns → is_program (tree_of ns ps i) ≡ false
      root_no_program e =
          rw (eq-eqb (suc i) (node_count ns) e) at (or_right_false (not (fits_tree (tree_of ns ps i))) (at_root && is_program (tree_of ns ps i)) shape_ok)

      fit_ok : fits (kind_of (kind_at ns i)) (shapes cs) ≡ true
      fit_ok =
          let f : fits_tree (tree_of ns ps i) ≡ true = not_is_false (fits_tree (tree_of ns ps i)) (or_left_false (not (fits_tree (tree_of ns ps i))) (at_root && is_program (tree_of ns ps i)) shape_ok) in
          rw tree_is at f

      gate_ok : 3 < kind_at ns i → kind_at ns i < 9 → is_bit (shape_step (kind_of (kind_at ns i)) (shapes cs)) ≡ true
      unfolding gate_fault
      gate_ok h k =
          let g : (reachable ns ps i && is_gate (kind_at ns i) && not (is_bit (shape (tree_of ns ps i)))) ≡ false = cond_zero _ 13 (acc.gated i small) in
          let b : not (is_bit (shape (tree_of ns ps i))) ≡ false =
          rw (lt-ltb 0 (mark_of ns ps i) marked, lt-ltb 3 (kind_at ns i) h, lt-ltb (kind_at ns i) 9 k) at g in
          let f : is_bit (shape (tree_of ns ps i)) ≡ true = not_is_false (is_bit (shape (tree_of ns ps i))) b in
          rw tree_is at f

      node_ok : NodeOk D (kind_at ns i) (datum_at ns i) cs
      node_ok = record {
        known = kind_ok;
        leaf = leaf_ok;
        arity = arity_ok;
        inner = inner_ok;
        constant = constant_ok;
        variable = variable_ok;
        depth = mark_of ns ps i - 1;
        right = right_ok;
        fit = fit_ok;
        gate = gate_ok;
        plain = acc.plain i small marked;
      }

  -- every reachable node is a Program, a bit or a bus
  sorted_below : (b i : ℕ) → i < b → i < node_count ns → 0 < mark_of ns ps i → Sorted D (tree_of ns ps i)
  sorted_below zero i h l m = absurd (omega arith)
  sorted_below (suc b) i h l m =
      rw (tree_is i l)
      (sort_node D (kind_at ns i) (datum_at ns i) (cs i l) (node_ok i l m)
      (all_sorted D (tree_of ns ps) (children_at ns ps i) (λ c k.
      let below : c < i = ltb-true c i (every_in (λ c. ltb c i) (children_at ns ps i) (below_ok i l) c k) in
      sorted_below b c (omega arith) (omega arith) (reach_child ns ps i c l below m k))))

  pub sorted_at : (i : ℕ) → i < node_count ns → 0 < mark_of ns ps i → Sorted D (tree_of ns ps i)
  sorted_at i l m = sorted_below (suc i) i (omega arith) l m

  -- the root is Made
  pub root_made : 0 < node_count ns → Made D (root_of ns ps)
  unfolding root_of
  root_made h =
      let last : suc (node_count ns - 1) ≡ node_count ns = omega arith in
      let marked : 0 < mark_of ns ps (node_count ns - 1) = reach_root ns ps (node_count ns - 1) last in
      made_of D (sorted_at (node_count ns - 1) (omega arith) marked) (root_no_program (node_count ns - 1) (omega arith) marked last)
