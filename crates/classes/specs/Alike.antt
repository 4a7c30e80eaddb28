-- Two nodes are alike by their words and by their children's classes: the trees of the children need not be walked.
use Prim.Native.Nat.{ℕ, suc, ◌+◌, ◌≤◌, ◌<◌}
use Rattle.std.specs.Prelude.{◌≡◌, ◌≢◌, Bool, true, false, ◌&&◌, length, get_or, drop}
use Rattle.std.proofs.Math.Path.{refl, ap₂}
use Rattle.std.proofs.Common.{sym, ap, ◌∙◌, arith, add-one, zero-add, lt-ltb, eq-eqb, ne_eqb}
use mathlib.Core.List.{List, [], ◌∷◌}
use Rattle.std.proofs.Math.Bool.{and-false}
use Rattle.std.proofs.Math.ListN.{drop_of_length-le}
use Rattle.std.proofs.Math.Seq.{drop-cons}
use Rattle.std.proofs.Math.Dec.{ltb, eqb}
use Rattle.meaning.specs.Rules.Trees.{Tree, same, same_all, forest, node_count, kind_at, datum_at, children_at, tree_of}
use Rattle.meaning.specs.Rules.Reach.{mark_of}
use Rattle.meaning.proofs.Laws.ReachLaws.{reach_child}
use Rattle.meaning.proofs.Laws.TreeLaws.{tree_at}
use Rattle.lists.specs.Scan.{some_at}
use Rattle.lists.specs.Laid.{children_below_lem}
use Rattle.columns.specs.Columns.{place, cell, class_column}
use Rattle.classes.specs.Classes.{has_tree, class_of, class_same, class_marked}
use Rattle.classes.specs.Ready.{Filled}

-- as many, and class by class the same: the children cs of the first list, and ds of the list whose first row is `base`
unfoldable pub same_classes : List ℕ → ℕ → List ℕ → List ℕ → Bool
same_classes work base [] [] = true
same_classes work base [] (d ∷ ds) = false
same_classes work base (c ∷ cs) [] = false
same_classes work base (c ∷ cs) (d ∷ ds) =
    eqb (cell work class_column c) (cell work class_column (base + d)) && same_classes work base cs ds

-- every one of them has a row
abbrev pub Rows : List ℕ → ℕ → List ℕ → Type 0
Rows work base cs = (i : ℕ) → i < length cs → place class_column (base + get_or cs i 0) < length work

-- ---- a loop over both
module _ (work : List ℕ) (base : ℕ) where
  pub classes_count : (cs ds : List ℕ) → length cs ≢ length ds → same_classes work base cs ds ≡ false
  unfolding same_classes
  classes_count [] [] h = absurd (h refl)
  classes_count [] (d ∷ ds) h = refl
  classes_count (c ∷ cs) [] h = refl
  classes_count (c ∷ cs) (d ∷ ds) h =
      rw (classes_count cs ds (λ e. h (ap suc e))) (and-false (eqb (cell work class_column c) (cell work class_column (base + d))))

  module _ (cs ds : List ℕ) (i : ℕ) where
    abbrev Alike : Bool → Type 0
    Alike b = eqb (cell work class_column (get_or cs i 0)) (cell work class_column (base + get_or ds i 0)) ≡ b

    pub classes_more : i < length cs → i < length ds → Alike true
        → same_classes work base (drop (i + 1) cs) (drop (i + 1) ds) ≡ same_classes work base (drop i cs) (drop i ds)
    unfolding same_classes
    classes_more h k e = rw (add-one i, drop-cons cs i 0 h, drop-cons ds i 0 k, e)

    pub classes_stop : i < length cs → i < length ds → Alike false
        → same_classes work base (drop i cs) (drop i ds) ≡ false
    unfolding same_classes
    classes_stop h k e = rw (drop-cons cs i 0 h, drop-cons ds i 0 k, e)

    pub classes_done : length cs ≤ i → length ds ≤ i → same_classes work base (drop i cs) (drop i ds) ≡ true
    unfolding same_classes
    classes_done h k = rw (drop_of_length-le cs h, drop_of_length-le ds k)

-- ---- from the children's classes to their trees
module _ (ns ps ms qs work : List ℕ) (base : ℕ) where
  -- a child's cell is its tree's class
  pub record Told (c : ℕ) : Type 0 where
    pub inside : c < node_count ns
    pub marked : 0 < mark_of ns ps c
    pub class : cell work class_column c ≡ class_of ns ps (tree_of ns ps c)

  abbrev pub Tells : ℕ → Type 0
  Tells d = cell work class_column (base + d) ≡ class_of ns ps (tree_of ms qs d)

  same_forest : (cs ds : List ℕ) → ((i : ℕ) → i < length cs → Told (get_or cs i 0))
      → ((i : ℕ) → i < length ds → Tells (get_or ds i 0))
      → same_classes work base cs ds ≡ same_all (forest (tree_of ns ps) cs) (forest (tree_of ms qs) ds)
  unfolding same_classes
  same_forest [] [] f g = refl
  same_forest [] (d ∷ ds) f g = refl
  same_forest (c ∷ cs) [] f g = refl
  same_forest (c ∷ cs) (d ∷ ds) f g =
      let one : Told c = f 0 (omega arith) in
      let other : Tells d = g 0 (omega arith) in
      ap₂ (λ (a b : Bool). a && b)
      (ap₂ eqb one.class other ∙ class_same ns ps c (tree_of ms qs d) one.inside one.marked)
      (same_forest cs ds (λ i h. f (suc i) (omega arith)) (λ i h. g (suc i) (omega arith)))

-- ---- node i of the first list and node j of the list
module _ {ns ps : List ℕ} {i : ℕ} {ms qs : List ℕ} {base j : ℕ} {work : List ℕ}
    (f : Filled ns ps i ms qs base j work) (inside : i < node_count ns) where
  child : (at : ℕ) → at < length (children_at ns ps i) → get_or (children_at ns ps i) at 0 < i
  child at k = (f.first.sound.0 i inside).2 at k

  other : (at : ℕ) → at < length (children_at ms qs j) → get_or (children_at ms qs j) at 0 < j
  other at k = (f.list.sound.0 j f.inside).2 at k

  pub child_rows : Rows work 0 (children_at ns ps i)
  child_rows at k = omega (arith, child at k, inside, f.first.room)

  pub other_rows : Rows work base (children_at ms qs j)
  other_rows at k = omega (arith, other at k, f.inside, f.list.room)

  abbrev forests : Bool
  forests = same_all (forest (tree_of ns ps) (children_at ns ps i)) (forest (tree_of ms qs) (children_at ms qs j))

  -- by words: node i and node j over their children's trees
  by_words : has_tree ns ps (tree_of ms qs j) i
      ≡ (ltb 0 (mark_of ns ps i) && (eqb (kind_at ns i) (kind_at ms j) && eqb (datum_at ns i) (datum_at ms j) && forests))
  unfolding has_tree
  by_words =
      ap₂ (λ (t u : Tree). ltb 0 (mark_of ns ps i) && same t u)
      (tree_at ns ps i (children_below_lem ns ps i (f.first.sound.0 i inside)))
      (tree_at ms qs j (children_below_lem ms qs j (f.list.sound.0 j f.inside)))

  pub kinds_differ : kind_at ns i ≢ kind_at ms j → has_tree ns ps (tree_of ms qs j) i ≡ false
  kinds_differ d = by_words ∙ rw (ne_eqb (kind_at ns i) (kind_at ms j) d) (and-false (ltb 0 (mark_of ns ps i)))

  pub data_differ : datum_at ns i ≢ datum_at ms j → has_tree ns ps (tree_of ms qs j) i ≡ false
  data_differ d =
      by_words
      ∙ rw (ne_eqb (datum_at ns i) (datum_at ms j) d, and-false (eqb (kind_at ns i) (kind_at ms j))) (and-false (ltb 0 (mark_of ns ps i)))

  pub not_reached : mark_of ns ps i ≡ 0 → has_tree ns ps (tree_of ms qs j) i ≡ false
  not_reached e = by_words ∙ rw e

  module _ (marked : 0 < mark_of ns ps i) (reached : 0 < mark_of ms qs j) where
    told : (at : ℕ) → at < length (children_at ns ps i) → Told ns ps ms qs work base (get_or (children_at ns ps i) at 0)
    told at k =
        let c : ℕ = get_or (children_at ns ps i) at 0 in
        let low : c < i = child at k in
        let below : 0 < mark_of ns ps c = reach_child ns ps i c inside low marked (some_at (children_at ns ps i) at k) in
        record {
          inside = omega arith;
          marked = below;
          class = ap (cell work class_column) (sym (zero-add c)) ∙ f.before c low ∙ class_marked ns ps ns ps c below;
        }

    tells : (at : ℕ) → at < length (children_at ms qs j) → Tells ns ps ms qs work base (get_or (children_at ms qs j) at 0)
    tells at k =
        let d : ℕ = get_or (children_at ms qs j) at 0 in
        let low : d < j = other at k in
        let below : 0 < mark_of ms qs d = reach_child ms qs j d f.inside low reached (some_at (children_at ms qs j) at k) in
        f.below d low ∙ class_marked ns ps ms qs d below

    pub children_tell : kind_at ns i ≡ kind_at ms j → datum_at ns i ≡ datum_at ms j
        → same_classes work base (children_at ns ps i) (children_at ms qs j) ≡ has_tree ns ps (tree_of ms qs j) i
    children_tell kinds datum =
        same_forest ns ps ms qs work base (children_at ns ps i) (children_at ms qs j) told tells
        ∙ sym (by_words
        ∙ rw (lt-ltb 0 (mark_of ns ps i) marked, eq-eqb (kind_at ns i) (kind_at ms j) kinds, eq-eqb (datum_at ns i) (datum_at ms j) datum))
