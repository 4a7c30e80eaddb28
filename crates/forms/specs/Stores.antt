-- What is stored in a node's row, and that it then holds the node's normal form.
use Rattle.std.specs.Prelude.{ℕ, suc, ◌+◌, ◌≤◌, ◌<◌, ◌≡◌, refl, ◌≢◌, true, false, cond, eqb}
use Rattle.std.proofs.Math.Path.{sym, ap, subst}
use Rattle.std.proofs.Common.{ap₂, ◌∙◌, arith, zero-add}
use mathlib.Core.List.{List, [], ◌∷◌, map}
use Rattle.std.proofs.Math.Decide.{dec_lt}
use Rattle.std.proofs.Math.ListN.{length, get_or, length-map}
use borrow.Author.Tests.{eqb-true, ne_eqb, le-ltb, leb-true}
use Rattle.meaning.specs.Rules.Limits.{work_per_node, most_operands, widest_bus}
use Rattle.meaning.specs.Rules.Kinds.{kind_of, may_have, const_word, variable_word, lut_word, cycle_word}
use Rattle.meaning.specs.Rules.Trees.{Tree, Forest, node, none, ◌◂◌, forest, forest_of, kind_at, datum_at, children_at, tree_of}
use Rattle.meaning.specs.Rules.Reach.{mark_of}
use Rattle.meaning.specs.Rules.Folding.{constant, lut, nf, nf_all, nf_step}
use Rattle.meaning.proofs.Laws.BoolLaws.{true_false}
use Rattle.lists.specs.Cases.{range}
use Rattle.columns.specs.Columns.{cell, home_column, kind_column, datum_column, count_column, operand_column, number_column}
use Rattle.accepted.specs.Nodes.{child_trees, tree_is, arity, constant_bit, child_below}
use Rattle.form_rows.specs.From.{from, from_list}
use Rattle.form_rows.specs.Forms.{nf_at, made, kid_at, kids_in}
use Rattle.folding.specs.Folded.{Each}
use Rattle.forms.specs.Turns.{Turn, Done, own, Beside, beside_then}
use Rattle.forms.specs.Operands.{folds, Kid, homes_of, map_at, child_home, child_kid}

-- ---- a row: home, kind, datum and count are stored, and nothing but the form in row i is touched
pub record RowAt (before after : List ℕ) (i h k d n : ℕ) : Type 0 where
  pub beside : Beside before after i
  pub home : cell after home_column i ≡ h
  pub kind : cell after kind_column i ≡ k
  pub datum : cell after datum_column i ≡ d
  pub count : cell after count_column i ≡ n

-- ---- operands: the first n of xs stand in row i, and nothing but their columns is touched
pub record Placed (before after : List ℕ) (i : ℕ) (xs : List ℕ) (n : ℕ) : Type 0 where
  pub size : length after ≡ length before
  pub same : (q j : ℕ) → q < work_per_node → (j ≡ i → operand_column ≤ q → q < number_column → ⊥) → cell after q j ≡ cell before q j
  pub stored : (j : ℕ) → j < n → cell after (operand_column + j) i ≡ get_or xs j 0

-- a Lut's row
pub record LutRow (before after : List ℕ) (i program : ℕ) (xs : List ℕ) : Type 0 where
  pub row : RowAt before after i i lut_word program (length xs)
  pub stored : (j : ℕ) → j < length xs → cell after (operand_column + j) i ≡ get_or xs j 0

pub lut_row : {before between after : List ℕ} {i p : ℕ} {xs : List ℕ} → RowAt before between i i lut_word p (length xs)
    → Placed between after i xs (length xs) → LutRow before after i p xs
lut_row {i = i} r p = record {
  row = record {
    beside = beside_then r.beside (record { size = p.size; same = λ q j h apart. p.same q j h (λ e l k. apart e (omega arith) k) });
    home = p.same home_column i (omega arith) (λ e l k. absurd (omega arith)) ∙ r.home;
    kind = p.same kind_column i (omega arith) (λ e l k. absurd (omega arith)) ∙ r.kind;
    datum = p.same datum_column i (omega arith) (λ e l k. absurd (omega arith)) ∙ r.datum;
    count = p.same count_column i (omega arith) (λ e l k. absurd (omega arith)) ∙ r.count;
  };
  stored = p.stored;
}

-- ---- the row holds the normal form
forest_map : (f : ℕ → Tree) (xs : List ℕ) → forest_of (map f xs) ≡ forest f xs
forest_map f [] = refl
forest_map f (x ∷ xs) = ap (λ (ts : Forest). f x ◂ ts) (forest_map f xs)

module _ {ns ps before after : List ℕ} {i : ℕ} (t : Turn ns ps before i) (marked : 0 < mark_of ns ps i) where
  kid_after : (x : ℕ) → Beside before after i → Kid ns ps before i x → Kid ns ps after i x
  kid_after x b k = (
    k.0,
    record {
      inside = k.1.inside;
      marked = k.1.marked;
      own = b.same home_column x (omega arith) (λ e. absurd (omega (arith, k.0))) ∙ k.1.own;
    },
  )

  -- a node that is its own home, over the kids xs
  own_done : (k d : ℕ) (xs : List ℕ) → RowAt before after i i k d (length xs) → k ≤ cycle_word → (k ≡ const_word → d < 2) → length xs ≤ widest_bus
      → (k ≤ variable_word → length xs ≡ 0) → (k ≡ lut_word → length xs ≤ most_operands) → (k ≢ lut_word → length xs ≤ length (children_at ns ps i))
      → nf_at ns ps i ≡ made k d (forest (nf_at ns ps) xs)
      → ((j : ℕ) → j < length xs → (kid_at ns ps after i j ≡ get_or xs j 0) × Kid ns ps before i (get_or xs j 0)) → Done ns ps after i
  own_done k d xs r known bit few leaf operands given tree each =
      let kids : kids_in ns ps after i ≡ xs =
      ap (from (kid_at ns ps after i) 0) r.count ∙ from_list xs (kid_at ns ps after i) 0 (λ j h. rw (zero-add j) (each j h).0) in
      own r.home (record {
        known = rw r.kind known;
        bit = rw (r.kind, r.datum) bit;
        few = rw r.count few;
        leaf = rw (r.kind, r.count) leaf;
        operands = rw (r.kind, r.count) operands;
        given = rw (r.kind, r.count) given;
        tree = tree ∙ ap₂ (λ (k d : ℕ). made k d (forest (nf_at ns ps) xs)) (sym r.kind) (sym r.datum)
            ∙ ap (λ (is : List ℕ). made (cell after kind_column i) (cell after datum_column i) (forest (nf_at ns ps) is)) (sym kids);
        kids = λ j h.
            let one = each j (omega (arith, r.count)) in
            subst (λ (x : ℕ). Kid ns ps after i x) (sym one.0) (kid_after (get_or xs j 0) r.beside one.1);
      })

  pub constant_done : (b : ℕ) → RowAt before after i i const_word b 0 → b < 2 → nf_at ns ps i ≡ constant b → Done ns ps after i
  unfolding made
  constant_done b r small e =
      own_done const_word b [] r (omega arith) (λ z. small) (omega arith) (λ z. refl) (λ z. absurd (omega arith)) (λ z. omega arith) e (λ j h. absurd (omega arith))

  pub lut_done : (p : ℕ) (xs : List ℕ) → LutRow before after i p xs → length xs ≤ most_operands
      → ((j : ℕ) → j < length xs → Kid ns ps before i (get_or xs j 0)) → nf_at ns ps i ≡ lut p (map (nf_at ns ps) xs) → Done ns ps after i
  unfolding made kid_at
  lut_done p xs r few kids e =
      own_done lut_word p xs r.row (omega arith) (λ z. absurd (omega arith)) (omega arith) (λ z. absurd (omega arith)) (λ z. few) (λ z. absurd (z refl))
      (e ∙ ap (λ (ts : Forest). node lut_word 0 (node 1 p none ◂ ts)) (forest_map (nf_at ns ps) xs))
      (λ j h. (rw r.row.kind (r.stored j h), kids j h))

-- ---- every other kind keeps its kind, its datum and all its children
kept_step : (k : ℕ) → k ≤ cycle_word → folds (kind_of k) ≡ false → (d : ℕ) (cs : Forest) → nf_step (kind_of k) k d cs ≡ node k d cs
kept_step k known h d cs =
    range (λ k. folds (kind_of k) ≡ false → nf_step (kind_of k) k d cs ≡ node k d cs) 0 17
    (stay, (stay, (stay, (stay, (no_way, (no_way, (no_way, (no_way, (no_way, (no_way, (stay, (stay, (stay, (stay, (stay, (stay, (stay, tt)))))))))))))))))
    k (omega arith) (omega arith) h
  where
    stay : {t : Tree} → false ≡ false → t ≡ t
    stay e = refl

    no_way : {t u : Tree} → true ≡ false → t ≡ u
    no_way e = absurd (true_false refl e)

kept_few : (k n : ℕ) → variable_word < k → k ≤ cycle_word → folds (kind_of k) ≡ false → may_have (kind_of k) n ≡ true → n ≤ widest_bus
kept_few k n l known h =
    range (λ k. folds (kind_of k) ≡ false → may_have (kind_of k) n ≡ true → n ≤ widest_bus) 4 13
    (no_way, (no_way, (no_way, (no_way, (no_way, (no_way, ((λ e m. leb-true n widest_bus m), (one 4 (omega arith), (one 4 (omega arith), (one 4 (omega arith), (one 4 (omega arith), (one 1 (omega arith), (one 1 (omega arith), tt)))))))))))))
    k l (omega arith) h
  where
    one : (m : ℕ) → m ≤ widest_bus → false ≡ false → eqb n m ≡ true → n ≤ widest_bus
    one m small e is = let same : n ≡ m = eqb-true n m is in omega arith

    no_way : {P : Type 0} → true ≡ false → P
    no_way e = absurd (true_false refl e)

forms_homes : (f : ℕ → Tree) (h : ℕ → ℕ) (cs : List ℕ) → Each (λ c. nf (f c) ≡ nf (f (h c))) cs → nf_all (forest f cs) ≡ forest (λ c. nf (f c)) (map h cs)
forms_homes f h [] e = refl
forms_homes f h (c ∷ cs) e =
    ap₂ (λ (t : Tree) (ts : Forest). t ◂ ts) (e 0 (omega arith)) (forms_homes f h cs (λ j l. e (suc j) (omega arith)))

module _ {ns ps before : List ℕ} {i : ℕ} (t : Turn ns ps before i) (marked : 0 < mark_of ns ps i) (kept : folds (kind_of (kind_at ns i)) ≡ false) where
  leaf_none : kind_at ns i ≤ variable_word → length (children_at ns ps i) ≡ 0
  unfolding children_at
  leaf_none h = rw (le-ltb variable_word (kind_at ns i) h)

  known : kind_at ns i ≤ cycle_word
  known = (t.formed.sound.0 i t.inside).0

  no_lut : kind_at ns i ≢ lut_word
  no_lut e = true_false (rw e) kept

  few_children : length (children_at ns ps i) ≤ widest_bus
  few_children = elim (dec_lt variable_word (kind_at ns i)) [
    | yes h ↦ kept_few (kind_at ns i) (length (children_at ns ps i)) h known kept (arity ns ps t.formed.sound i t.inside)
    | no h ↦ omega (arith, leaf_none (omega arith))
  ]

  kept_tree : nf_at ns ps i ≡ made (kind_at ns i) (datum_at ns i) (forest (nf_at ns ps) (homes_of before (children_at ns ps i)))
  unfolding nf_at made
  kept_tree =
      ap nf (tree_is ns ps t.formed.sound i t.inside)
      ∙ kept_step (kind_at ns i) known kept (datum_at ns i) (nf_all (child_trees ns ps i))
      ∙ ap (λ (ts : Forest). node (kind_at ns i) (datum_at ns i) ts)
      (forms_homes (tree_of ns ps) (cell before home_column) (children_at ns ps i) (λ j h. (child_home t marked j h).same))
      ∙ sym (rw (ne_eqb (kind_at ns i) lut_word no_lut))

  pub kept_done : {after : List ℕ} → RowAt before after i i (kind_at ns i) (datum_at ns i) (length (children_at ns ps i)) → Done ns ps after i
  unfolding kid_at
  kept_done {after} r =
      let size : length (homes_of before (children_at ns ps i)) ≡ length (children_at ns ps i) = length-map (children_at ns ps i) (cell before home_column) in
      own_done t marked (kind_at ns i) (datum_at ns i) (homes_of before (children_at ns ps i)) (rw size r) known
      (constant_bit ns ps t.formed.sound i t.inside) (rw size few_children) (λ h. size ∙ leaf_none h) (λ e. absurd (no_lut e)) (λ e. omega (arith, size))
      kept_tree (λ j h. each j (omega (arith, size)))
    where
      each : (j : ℕ) → j < length (children_at ns ps i)
          → (cond (eqb (cell after kind_column i) lut_word) (cell after (operand_column + j) i) (cell after home_column (get_or (children_at ns ps i) j 0)) ≡ get_or (homes_of before (children_at ns ps i)) j 0)
          × Kid ns ps before i (get_or (homes_of before (children_at ns ps i)) j 0)
      each j h =
          let is : get_or (homes_of before (children_at ns ps i)) j 0 ≡ cell before home_column (get_or (children_at ns ps i) j 0) = map_at (cell before home_column) (children_at ns ps i) j h in
          let low : get_or (children_at ns ps i) j 0 < i = child_below ns ps t.formed.sound i t.inside j h in (
            rw (r.kind, ne_eqb (kind_at ns i) lut_word no_lut)
                (r.beside.same home_column (get_or (children_at ns ps i) j 0) (omega arith) (λ e. absurd (omega arith)) ∙ sym is),
            subst (Kid ns ps before i) (sym is) (child_kid t marked j h),
          )
