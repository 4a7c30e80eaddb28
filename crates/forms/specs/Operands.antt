-- The Lut that a gate or a Lut is (document 01, "Canonical list": "Mux, And, Xor, Nor, Not become Luts of programs 202, 8,
-- 6, 1, 1"), its operands by their homes, and its normal form from theirs.
use Prim.Native.Nat.{ℕ, zero, suc, ◌+◌, ◌*◌, ◌≤◌, ◌<◌}
use Rattle.std.specs.Prelude.{◌≡◌, Bool, not, get_or, take, drop, leb}
use Rattle.std.proofs.Math.Path.{refl, ap, subst}
use Rattle.std.proofs.Common.{sym, ap₂, ◌∙◌, arith, length-append, get_or-drop}
use mathlib.Core.List.{List, [], ◌∷◌, ◌++◌, map}
use Rattle.std.proofs.Math.Bool.{true, false, cond}
use Rattle.std.proofs.Math.ListN.{length, length-drop, get_or-append}
use Rattle.std.proofs.lemmas.List.{length-map, take-append-le}
use Rattle.std.proofs.Math.Dec.{eqb}
use borrow.Author.Tests.{eqb-true, eqb-false, leb-false}
use Rattle.meaning.specs.Rules.Limits.{work_per_node, most_operands}
use Rattle.meaning.specs.declared.kinds.Kind.{Kind}
use Rattle.meaning.specs.declared.kinds.Kind.TheVariants.{Const, Program, DC, Var, Nor, Mux, And, Xor, Not, Lut as LutKind, Bus, Reg, Arg, Cycle, Unknown}
use Rattle.meaning.specs.Rules.Kinds.{kind_of, may_have, const_word, variable_word, lut_word}
use Rattle.meaning.specs.Rules.Trees.{Tree, Forest, node, none, ◌◂◌, trees, forest, kind_word as word_in, datum, node_count, kind_at, datum_at, children_at, tree_of}
use Rattle.meaning.specs.Rules.Reach.{mark_of}
use Rattle.meaning.specs.Rules.Verification.{is_program, lut_wrong}
use Rattle.meaning.specs.Rules.Folding.{constant, lut, fold, folded, folded_lut, nf, nf_all, nf_step}
use Rattle.meaning.proofs.Laws.BoolLaws.{or_right_false, true_false}
use Rattle.meaning.proofs.Laws.KindLaws.{word_of, kind_word}
use Rattle.meaning.specs.Claims.Column.{Sound}
use Rattle.lists.specs.Cases.{range}
use Rattle.columns.specs.Columns.{cell, home_column, kind_column, datum_column}
use Rattle.accepted.specs.Nodes.{Logic, child_trees, tree_is, arity, child_below, child_marked, not_wrong}
use Rattle.accepted.specs.Operands.{LutChildren, lut_children}
use Rattle.form_rows.specs.Forms.{nf_at, made, Home, HomeOf}
use Rattle.folding.specs.declared.Folded.{Folded}
use Rattle.folding.specs.declared.Folded.TheVariants.{Constant, Operand, Lut}
use Rattle.folding.specs.Folded.{Each, Readable, Tells, folded_tree, Among, Left}
use Rattle.forms.specs.Turns.{Turn}

-- the kinds that are folded: the gates, and Lut
abbrev pub folds : Kind → Bool
folds Nor = true
folds Mux = true
folds And = true
folds Xor = true
folds Not = true
folds LutKind = true
folds _ = false

abbrev pub gate_program : Kind → ℕ
gate_program Mux = 202
gate_program And = 8
gate_program Xor = 6
gate_program _ = 1

-- their words are 4 to 9
folds_words : (q : Kind) → folds q ≡ true → (variable_word < word_of q) × (word_of q ≤ lut_word)
folds_words Nor h = (omega arith, omega arith)
folds_words Mux h = (omega arith, omega arith)
folds_words And h = (omega arith, omega arith)
folds_words Xor h = (omega arith, omega arith)
folds_words Not h = (omega arith, omega arith)
folds_words LutKind h = (omega arith, omega arith)
folds_words Const h = absurd (true_false h refl)
folds_words Program h = absurd (true_false h refl)
folds_words DC h = absurd (true_false h refl)
folds_words Var h = absurd (true_false h refl)
folds_words Bus h = absurd (true_false h refl)
folds_words Reg h = absurd (true_false h refl)
folds_words Arg h = absurd (true_false h refl)
folds_words Cycle h = absurd (true_false h refl)
folds_words Unknown h = absurd (true_false h refl)

folds_word : (k : ℕ) → folds (kind_of k) ≡ true → (variable_word < k) × (k ≤ lut_word)
folds_word k h =
    let w = folds_words (kind_of k) h in
    let is : k ≡ word_of (kind_of k) = kind_word k (omega (arith, w.1)) in
    (omega (arith, is, w.0), omega (arith, is, w.1))

-- Lut's word is its own
pub lut_kind : (k : ℕ) → kind_of k ≡ LutKind → k ≡ lut_word
lut_kind k e = let is = ap word_of e in kind_word k (omega arith) ∙ is

pub no_lut_kind : (k : ℕ) → (kind_of k ≡ LutKind → ⊥) → k ≡ lut_word → ⊥
no_lut_kind k h e = h (rw e)

-- a Lut's operands are its children behind its Program; a gate's are all its children
unfoldable pub operands_at : List ℕ → List ℕ → ℕ → List ℕ
operands_at ns ps i = drop (cond (eqb (kind_at ns i) lut_word) 1 0) (children_at ns ps i)

unfoldable pub program_at : List ℕ → List ℕ → ℕ → ℕ
program_at ns ps i = cond (eqb (kind_at ns i) lut_word) (datum_at ns (get_or (children_at ns ps i) 0 0)) (gate_program (kind_of (kind_at ns i)))

abbrev pub homes_of : List ℕ → List ℕ → List ℕ
homes_of work cs = map (cell work home_column) cs

-- the first n homes are read
abbrev pub Read : List ℕ → List ℕ → List ℕ → ℕ → Type 0
Read work cs ys n = (m : ℕ) → m < n → get_or ys m 0 ≡ cell work home_column (get_or cs m 0)

pub map_at : (f : ℕ → ℕ) (cs : List ℕ) (j : ℕ) → j < length cs → get_or (map f cs) j 0 ≡ f (get_or cs j 0)
map_at f [] j h = absurd (omega arith)
map_at f (c ∷ cs) zero h = refl
map_at f (c ∷ cs) (suc j) h = map_at f cs j (omega arith)

-- ---- the normal form of a node from its children's
gate_folds : (k : ℕ) → variable_word < k → k < lut_word → (d : ℕ) (cs : Forest) → nf_step (kind_of k) k d cs ≡ folded (gate_program (kind_of k)) (trees cs)
gate_folds k l h d cs =
    range (λ k. nf_step (kind_of k) k d cs ≡ folded (gate_program (kind_of k)) (trees cs)) 4 5 (refl, (refl, (refl, (refl, (refl, tt))))) k l h

forms_of : (f : ℕ → Tree) (cs : List ℕ) → trees (nf_all (forest f cs)) ≡ map (λ c. nf (f c)) cs
forms_of f [] = refl
forms_of f (c ∷ cs) = ap (λ (ts : List Tree). nf (f c) ∷ ts) (forms_of f cs)

-- the number of operands: gates have one to three
gate_few : (k n : ℕ) → variable_word < k → k < lut_word → may_have (kind_of k) n ≡ true → (0 < n) × (n ≤ 3)
gate_few k n l h =
    range (λ k. may_have (kind_of k) n ≡ true → (0 < n) × (n ≤ 3)) 4 5 (one 2 (omega arith) (omega arith), (one 3 (omega arith) (omega arith), (one 2 (omega arith) (omega arith), (one 2 (omega arith) (omega arith), (one 1 (omega arith) (omega arith), tt))))) k l h
  where
    one : (m : ℕ) → 0 < m → m ≤ 3 → eqb n m ≡ true → (0 < n) × (n ≤ 3)
    one m a b e = let is : n ≡ m = eqb-true n m e in (omega arith, omega arith)

-- "with k = children - 1 below 6, a program of 2^(2^k) or more" is refused, so of no operand it is a bit
bare_bit : (ts : List Tree) (t : Tree) → lut_wrong ts ≡ false → length ts ≡ 1 → datum (get_or ts 0 t) < 2
bare_bit [] t h e = absurd (omega arith)
bare_bit (p ∷ []) t h e = leb-false 2 (datum p) (or_right_false (not (is_program p)) (leb 2 (datum p)) h)
bare_bit (p ∷ q ∷ ts) t h e = absurd (omega arith)

first_of : (f : ℕ → Tree) (cs : List ℕ) (t : Tree) → 0 < length cs → get_or (trees (forest f cs)) 0 t ≡ f (get_or cs 0 0)
first_of f [] t h = absurd (omega arith)
first_of f (c ∷ cs) t h = refl

trees_length : (f : ℕ → Tree) (cs : List ℕ) → length (trees (forest f cs)) ≡ length cs
trees_length f [] = refl
trees_length f (c ∷ cs) = ap suc (trees_length f cs)

-- a Program is its own normal form
program_form : (d : ℕ) (k : ℕ) (cs : Forest) → k ≡ 1 → datum (nf (node k d cs)) ≡ d
program_form d k cs e = rw e

pub lut_logic : (ns ps : List ℕ) (i : ℕ) → i < node_count ns → 0 < mark_of ns ps i → kind_at ns i ≡ lut_word → Logic ns ps i
lut_logic ns ps i inside marked e = record { inside = inside; marked = marked; no_program = λ p. absurd (omega arith) }

module _ (ns ps : List ℕ) (s : Sound ns ps) (i : ℕ) (inside : i < node_count ns) (marked : 0 < mark_of ns ps i)
    (kind : folds (kind_of (kind_at ns i)) ≡ true) where
  parent : variable_word < kind_at ns i
  parent = (folds_word (kind_at ns i) kind).0

  up_to_lut : kind_at ns i ≤ lut_word
  up_to_lut = (folds_word (kind_at ns i) kind).1

  gate : eqb (kind_at ns i) lut_word ≡ false → kind_at ns i < lut_word
  gate e = let other : (kind_at ns i ≡ lut_word → ⊥) = eqb-false (kind_at ns i) lut_word e in omega (arith, up_to_lut, other)

  logic : eqb (kind_at ns i) lut_word ≡ true → Logic ns ps i
  logic e = lut_logic ns ps i inside marked (eqb-true (kind_at ns i) lut_word e)

  pub operands_few : length (operands_at ns ps i) ≤ most_operands
  unfolding operands_at
  operands_few = go (eqb (kind_at ns i) lut_word) refl
    where
      go : (b : Bool) → eqb (kind_at ns i) lut_word ≡ b → length (drop (cond b 1 0) (children_at ns ps i)) ≤ most_operands
      go true e =
          let few = (lut_children ns ps s i (logic e) (eqb-true (kind_at ns i) lut_word e)).few in
          omega (arith, few, length-drop 1 (children_at ns ps i))
      go false e = omega (arith, (gate_few (kind_at ns i) (length (children_at ns ps i)) parent (gate e) (arity ns ps s i inside)).1)

  program_datum : eqb (kind_at ns i) lut_word ≡ true → datum (tree_of ns ps (get_or (children_at ns ps i) 0 0)) ≡ datum_at ns (get_or (children_at ns ps i) 0 0)
  program_datum e =
      let l = lut_children ns ps s i (logic e) (eqb-true (kind_at ns i) lut_word e) in
      ap datum (tree_is ns ps s (get_or (children_at ns ps i) 0 0) l.inside)

  pub bare_program : length (operands_at ns ps i) ≡ 0 → program_at ns ps i < 2
  unfolding operands_at program_at
  bare_program = go (eqb (kind_at ns i) lut_word) refl
    where
      go : (b : Bool) → eqb (kind_at ns i) lut_word ≡ b → length (drop (cond b 1 0) (children_at ns ps i)) ≡ 0
          → cond b (datum_at ns (get_or (children_at ns ps i) 0 0)) (gate_program (kind_of (kind_at ns i))) < 2
      go true e bare =
          let k : kind_at ns i ≡ lut_word = eqb-true (kind_at ns i) lut_word e in
          let some = (lut_children ns ps s i (logic e) k).some in
          let one : length (children_at ns ps i) ≡ 1 = omega (arith, some, length-drop 1 (children_at ns ps i)) in
          let ts = trees (child_trees ns ps i) in
          let small : datum (get_or ts 0 (node 0 0 none)) < 2 = bare_bit ts (node 0 0 none) (rw k at (not_wrong ns ps s i inside marked)) (trees_length (tree_of ns ps) (children_at ns ps i) ∙ one) in
          let is : datum (get_or ts 0 (node 0 0 none)) ≡ datum_at ns (get_or (children_at ns ps i) 0 0) = ap datum (first_of (tree_of ns ps) (children_at ns ps i) (node 0 0 none) some) ∙ program_datum e in
          omega (arith, small, is)
      go false e bare = absurd (omega (arith, (gate_few (kind_at ns i) (length (children_at ns ps i)) parent (gate e) (arity ns ps s i inside)).0))

  -- its normal form is its Lut over its operands' normal forms, folded
  pub nf_folds : nf_at ns ps i ≡ folded (program_at ns ps i) (map (nf_at ns ps) (operands_at ns ps i))
  unfolding nf_at operands_at program_at
  nf_folds = rw (tree_is ns ps s i inside) (go (eqb (kind_at ns i) lut_word) refl)
    where
      forms : trees (nf_all (child_trees ns ps i)) ≡ map (λ c. nf (tree_of ns ps c)) (children_at ns ps i)
      forms = forms_of (tree_of ns ps) (children_at ns ps i)

      go : (b : Bool) → eqb (kind_at ns i) lut_word ≡ b
          → nf_step (kind_of (kind_at ns i)) (kind_at ns i) (datum_at ns i) (nf_all (child_trees ns ps i))
          ≡ folded (cond b (datum_at ns (get_or (children_at ns ps i) 0 0)) (gate_program (kind_of (kind_at ns i)))) (map (λ c. nf (tree_of ns ps c)) (drop (cond b 1 0) (children_at ns ps i)))
      go true e = rw (eqb-true (kind_at ns i) lut_word e, forms) (lut_case (children_at ns ps i) l.some l.inside l.first)
        where
          l : LutChildren ns ps i
          l = lut_children ns ps s i (logic e) (eqb-true (kind_at ns i) lut_word e)

          lut_case : (cs : List ℕ) → 0 < length cs → get_or cs 0 0 < node_count ns → kind_at ns (get_or cs 0 0) ≡ 1
              → folded_lut (map (λ c. nf (tree_of ns ps c)) cs) ≡ folded (datum_at ns (get_or cs 0 0)) (map (λ c. nf (tree_of ns ps c)) (drop 1 cs))
          lut_case [] h there k = absurd (omega arith)
          lut_case (c ∷ cs) h there k =
              ap (λ (p : ℕ). folded p (map (λ c. nf (tree_of ns ps c)) cs))
              (ap (λ (t : Tree). datum (nf t)) (tree_is ns ps s c there) ∙ program_form (datum_at ns c) (kind_at ns c) (child_trees ns ps c) k)
      go false e =
          gate_folds (kind_at ns i) parent (gate e) (datum_at ns i) (nf_all (child_trees ns ps i))
          ∙ ap (folded (gate_program (kind_of (kind_at ns i)))) forms

-- ---- the homes of a node's children, which come before it
abbrev pub Kid : List ℕ → List ℕ → List ℕ → ℕ → ℕ → Type 0
Kid ns ps work i x = (x < i) × Home ns ps work x

made_kind : (k d : ℕ) (cs : Forest) → word_in (made k d cs) ≡ k
unfolding made
made_kind k d cs = go (eqb k lut_word) refl
  where
    go : (b : Bool) → eqb k lut_word ≡ b → word_in (cond b (node lut_word 0 (node 1 d none ◂ cs)) (node k d cs)) ≡ k
    go true e = sym (eqb-true k lut_word e)
    go false e = refl

made_constant : (k d : ℕ) (cs : Forest) → k ≡ const_word → datum (made k d cs) ≡ d
unfolding made
made_constant k d cs e = rw e

-- equal one by one
same_forms : (f g : ℕ → Tree) (h : ℕ → ℕ) (cs : List ℕ) → Each (λ c. f c ≡ g (h c)) cs → map g (map h cs) ≡ map f cs
same_forms f g h [] e = refl
same_forms f g h (c ∷ cs) e =
    ap₂ (λ (t : Tree) (ts : List Tree). t ∷ ts) (sym (e 0 (omega arith))) (same_forms f g h cs (λ j l. e (suc j) (omega arith)))

module _ {ns ps work : List ℕ} {i : ℕ} (t : Turn ns ps work i) (marked : 0 < mark_of ns ps i) where
  pub child_home : (j : ℕ) → j < length (children_at ns ps i) → HomeOf ns ps work (get_or (children_at ns ps i) j 0)
  child_home j h =
      t.formed.homes (get_or (children_at ns ps i) j 0) (child_below ns ps t.formed.sound i t.inside j h)
      (child_marked ns ps t.formed.sound i t.inside marked j h)

  pub child_kid : (j : ℕ) → j < length (children_at ns ps i) → Kid ns ps work i (cell work home_column (get_or (children_at ns ps i) j 0))
  child_kid j h =
      let g = child_home j h in
      (omega (arith, g.below, child_below ns ps t.formed.sound i t.inside j h), g.home)

  pub kid_readable : (x : ℕ) → Kid ns ps work i x → Readable work x
  kid_readable x k = record { room = omega (arith, k.0, t.inside, t.formed.room); bit = (t.formed.forms x k.0 k.1).bit }

  kid_tells : (x : ℕ) → Kid ns ps work i x → Tells work (nf_at ns ps) x
  kid_tells x k =
      let form = (t.formed.forms x k.0 k.1).tree in
      let kind : word_in (nf_at ns ps x) ≡ cell work kind_column x = ap word_in form ∙ made_kind (cell work kind_column x) (cell work datum_column x) _ in
      record {
        kind = ap (λ (w : ℕ). eqb w const_word) kind;
        bit = λ e. ap datum form ∙ made_constant (cell work kind_column x) (cell work datum_column x) _ (eqb-true (cell work kind_column x) const_word e);
      }

  -- what holds of each child holds of each operand
  each_operand : (P : ℕ → Type 0) → ((j : ℕ) → j < length (children_at ns ps i) → P (get_or (children_at ns ps i) j 0)) → Each P (operands_at ns ps i)
  unfolding operands_at
  each_operand P all j h =
      let n : ℕ = cond (eqb (kind_at ns i) lut_word) 1 0 in
      subst P (sym (get_or-drop n (children_at ns ps i) j 0)) (all (n + j) (omega (arith, h, length-drop n (children_at ns ps i))))

  homes_length : length (homes_of work (operands_at ns ps i)) ≡ length (operands_at ns ps i)
  homes_length = length-map (operands_at ns ps i) (cell work home_column)

  pub each_home : (P : ℕ → Type 0) → ((x : ℕ) → Kid ns ps work i x → P x) → Each P (homes_of work (operands_at ns ps i))
  each_home P all j h =
      let small : j < length (operands_at ns ps i) = omega (arith, homes_length) in
      subst P (sym (map_at (cell work home_column) (operands_at ns ps i) j small))
      (each_operand (λ c. P (cell work home_column c)) (λ m l. all (cell work home_column (get_or (children_at ns ps i) m 0)) (child_kid m l)) j small)

  pub operand_rows : Each (λ c. work_per_node * c + work_per_node ≤ length work) (operands_at ns ps i)
  operand_rows =
      each_operand (λ c. work_per_node * c + work_per_node ≤ length work)
      (λ j h. omega (arith, child_below ns ps t.formed.sound i t.inside j h, t.inside, t.formed.room))

  nf_homes : folds (kind_of (kind_at ns i)) ≡ true → nf_at ns ps i ≡ folded (program_at ns ps i) (map (nf_at ns ps) (homes_of work (operands_at ns ps i)))
  nf_homes kind =
      nf_folds ns ps t.formed.sound i t.inside marked kind
      ∙ ap (folded (program_at ns ps i)) (sym (same_forms (nf_at ns ps) (nf_at ns ps) (cell work home_column) (operands_at ns ps i) (each_operand (λ c. nf_at ns ps c ≡ nf_at ns ps (cell work home_column c)) (λ j h. (child_home j h).same))))

-- ---- what a node is when it is folded; an operand is a home below it
abbrev pub Outcome : List ℕ → List ℕ → List ℕ → ℕ → Folded → List ℕ → Type 0
Outcome ns ps work i (Constant b) ys = (b < 2) × (nf_at ns ps i ≡ constant b)
Outcome ns ps work i (Operand h) ys = Kid ns ps work i h × (nf_at ns ps i ≡ nf_at ns ps h)
Outcome ns ps work i (Lut p k) ys =
    (k ≤ most_operands) × (k ≤ length ys) × ((j : ℕ) → j < k → Kid ns ps work i (get_or ys j 0)) × (nf_at ns ps i ≡ lut p (map (nf_at ns ps) (take k ys)))

module _ {ns ps work : List ℕ} {i : ℕ} (t : Turn ns ps work i) (marked : 0 < mark_of ns ps i) (kind : folds (kind_of (kind_at ns i)) ≡ true)
    (xs : List ℕ) (are : xs ≡ homes_of work (operands_at ns ps i)) where
  pub homes_few : length xs ≤ most_operands
  homes_few = rw are (rw (homes_length t marked) (operands_few ns ps t.formed.sound i t.inside marked kind))

  pub homes_readable : Each (Readable work) xs
  homes_readable = rw are (each_home t marked (Readable work) (kid_readable t marked))

  pub homes_bare : length xs ≡ 0 → program_at ns ps i < 2
  homes_bare e =
      bare_program ns ps t.formed.sound i t.inside marked kind (sym (homes_length t marked) ∙ ap length (sym are) ∙ e)

  among_kid : (x : ℕ) → Among xs x → Kid ns ps work i x
  among_kid x a =
      subst (Kid ns ps work i) (sym a.2)
      (subst (λ (l : List ℕ). Each (Kid ns ps work i) l) (sym are) (each_home t marked (Kid ns ps work i) (λ x k. k)) a.0 a.1)

  pub folded_outcome : (r : Folded) (ys zs : List ℕ) → length ys ≡ length xs
      → ((tree : ℕ → Tree) → Each (Tells work tree) xs → fold (length xs) (program_at ns ps i) (map tree xs) ≡ folded_tree tree r ys)
      → Left xs r ys → Outcome ns ps work i r (ys ++ zs)
  folded_outcome r ys zs size folding left = go r (is ∙ folding (nf_at ns ps) tells) left
    where
      tells : Each (Tells work (nf_at ns ps)) xs
      tells = rw are (each_home t marked (Tells work (nf_at ns ps)) (kid_tells t marked))

      is : nf_at ns ps i ≡ fold (length xs) (program_at ns ps i) (map (nf_at ns ps) xs)
      is =
          nf_homes t marked kind ∙ ap (λ (l : List ℕ). folded (program_at ns ps i) (map (nf_at ns ps) l)) (sym are)
          ∙ ap (λ (n : ℕ). fold n (program_at ns ps i) (map (nf_at ns ps) xs)) (length-map xs (nf_at ns ps))

      go : (r : Folded) → nf_at ns ps i ≡ folded_tree (nf_at ns ps) r ys → Left xs r ys → Outcome ns ps work i r (ys ++ zs)
      go (Constant b) e l = (l, e)
      go (Operand h) e l = (among_kid h l, e)
      go (Lut p k) e l = (
        omega (arith, l.0, homes_few),
        omega (arith, l.0, size, length-append ys zs),
        λ j h. subst (Kid ns ps work i) (sym (get_or-append ys zs 0 j (omega (arith, l.0)))) (among_kid (get_or ys j 0) (l.1 j h)),
        e ∙ ap (λ (l : List ℕ). lut p (map (nf_at ns ps) l)) (sym (take-append-le k ys zs (omega (arith, l.0)))),
      )
