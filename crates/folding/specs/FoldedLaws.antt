-- The rules over rows are those of meaning's `fold`: what is left after each of them folds to the same tree.
use Prim.Native.Nat.{ℕ, zero, suc, ◌-◌, ◌≤◌, ◌<◌}
use Rattle.std.specs.Prelude.{◌≡◌, refl, Bool, true, false, get_or, take, ltb, eqb, Option, Some, None}
use Rattle.std.proofs.Math.Path.{sym}
use Rattle.std.proofs.Common.{ap, subst, ◌∙◌, length-take, get_or-take}
use mathlib.Core.List.{List, [], ◌∷◌, map}
use Rattle.std.proofs.Math.Bool.{cond}
use native.Mathlib.Omega.{arith}
use Rattle.std.proofs.Math.Decide.{dec_lt}
use Rattle.std.proofs.Math.ListN.{length}
use Rattle.std.proofs.Math.Seq.{take-length}
use borrow.Author.Tests.{lt-ltb, le-ltb, ltb-true}
use Rattle.meaning.specs.Rules.Trees.{Tree, datum, nth_tree}
use Rattle.meaning.specs.Rules.Folding.{lut, is_constant, without, fold, fold_one, constant}
use Rattle.meaning.specs.Rules.Search.{lowest}
use Rattle.meaning.specs.Rules.Tables.{cofactor, ignores}
use Rattle.meaning.proofs.Laws.SearchLaws.{lowest_is, lowest_only, lowest_here, lowest_none}
use Rattle.meaning.specs.Rules.Tables.{but_one}
use Rattle.columns.specs.Columns.{cell, datum_column}
use Rattle.folding.specs.declared.Folded.TheVariants.{Constant, Operand, Lut}
use Rattle.form_rows.specs.First.{IsFirst}
use Rattle.folding.specs.declared.dropping.Dropped.{Dropped}
use Rattle.folding.specs.Folded.{Each, is_constant_row, Tells, folded_tree, Among, Left, folded_one, constant_at, ignored_at, drop, next_of}
use Rattle.folding.specs.Moved.{but_one_before, but_one_after}

-- two tests that agree have one lowest
lowest_alike : (p q : ℕ → Bool) (n : ℕ) → ((j : ℕ) → j < n → p j ≡ q j) → lowest p n ≡ lowest q n
lowest_alike p q n e =
    let l = lowest_is q n in
    lowest_only p n (lowest q n) (record {
      after = l.after;
      within = l.within;
      passes = λ h. e (lowest q n) h ∙ l.passes h;
      before = λ j a b. e j (omega (arith, l.within)) ∙ l.before j a b;
    })

-- ---- the trees of a list of rows
module _ (tree : ℕ → Tree) where
  nth_tree_lem : (xs : List ℕ) (j : ℕ) → j < length xs → nth_tree (map tree xs) j ≡ tree (get_or xs j 0)
  nth_tree_lem [] j h = absurd (omega arith)
  nth_tree_lem (x ∷ xs) zero h = refl
  nth_tree_lem (x ∷ xs) (suc j) h = nth_tree_lem xs j (omega arith)

  trees_without : (j : ℕ) (xs : List ℕ) → map tree (but_one j xs) ≡ without j (map tree xs)
  trees_without zero [] = refl
  trees_without zero (x ∷ xs) = refl
  trees_without (suc j) [] = refl
  trees_without (suc j) (x ∷ xs) = ap (λ (ts : List Tree). tree x ∷ ts) (trees_without j xs)

-- ---- rule 3
-- the tree that is left to fold
abbrev followed : (ℕ → Tree) → ℕ → List ℕ → ℕ → Option Dropped → Tree
followed tree p xs m (Some d) = fold m d.program (map tree (but_one d.at xs))
followed tree p xs m None = lut p (map tree xs)

module _ (work : List ℕ) (tree : ℕ → Tree) (p : ℕ) (xs : List ℕ) (m : ℕ) (size : length xs ≡ suc (suc m))
    (tells : Each (Tells work tree) xs) where
  abbrev first : ℕ
  first = lowest (constant_at work xs) (suc (suc m))

  abbrev ignored : ℕ
  ignored = lowest (λ j. ignores p (suc m) (suc m - j)) (suc (suc m))

  at_row : (j : ℕ) → j < suc (suc m) → is_constant (nth_tree (map tree xs) j) ≡ constant_at work xs j
  at_row j h = rw (nth_tree_lem tree xs j (omega arith)) (tells j (omega arith)).kind

  first_is : lowest (λ j. is_constant (nth_tree (map tree xs) j)) (suc (suc m)) ≡ first
  first_is = lowest_alike (λ j. is_constant (nth_tree (map tree xs) j)) (constant_at work xs) (suc (suc m)) at_row

  ignored_is : lowest (ignored_at p (suc (suc m))) (suc (suc m)) ≡ ignored
  ignored_is =
      let last : suc (suc m) - 1 ≡ suc m = omega arith in
      lowest_alike (ignored_at p (suc (suc m))) (λ j. ignores p (suc m) (suc m - j)) (suc (suc m)) (λ j h. rw last)

  bit_is : first < suc (suc m) → datum (nth_tree (map tree xs) first) ≡ cell work datum_column (get_or xs first 0)
  bit_is h =
      ap datum (nth_tree_lem tree xs first (omega arith))
      ∙ (tells first (omega arith)).bit ((lowest_is (constant_at work xs) (suc (suc m))).passes h)

  fold_next : fold (suc (suc m)) p (map tree xs) ≡ followed tree p xs (suc m) (next_of work p xs)
  unfolding fold next_of
  fold_next = let last : suc (suc m) - 1 ≡ suc m = omega arith in rw (size, first_is, ignored_is, last) (go (dec_lt first (suc (suc m))) (dec_lt ignored (suc (suc m))))
    where
      go : Dec (first < suc (suc m)) → Dec (ignored < suc (suc m))
          → cond (ltb first (suc (suc m))) (fold (suc m) (cofactor p (suc m) (suc m - first) (datum (nth_tree (map tree xs) first))) (without first (map tree xs)))
          (cond (ltb ignored (suc (suc m))) (fold (suc m) (cofactor p (suc m) (suc m - ignored) 0) (without ignored (map tree xs))) (lut p (map tree xs)))
          ≡ followed tree p xs (suc m)
          (cond (ltb first (suc (suc m))) (drop first (cofactor p (suc m) (suc m - first) (cell work datum_column (get_or xs first 0))))
          (cond (ltb ignored (suc (suc m))) (drop ignored (cofactor p (suc m) (suc m - ignored) 0)) None))
      go (yes l) d =
          rw (lt-ltb first (suc (suc m)) l, bit_is l)
          (ap (fold (suc m) (cofactor p (suc m) (suc m - first) (cell work datum_column (get_or xs first 0)))) (sym (trees_without tree first xs)))
      go (no l) (yes k) =
          rw (le-ltb first (suc (suc m)) (omega arith), lt-ltb ignored (suc (suc m)) k)
          (ap (fold (suc m) (cofactor p (suc m) (suc m - ignored) 0)) (sym (trees_without tree ignored xs)))
      go (no l) (no k) = rw (le-ltb first (suc (suc m)) (omega arith), le-ltb ignored (suc (suc m)) (omega arith))

-- what it says, by what the two searches find
module _ (work : List ℕ) (p : ℕ) (xs : List ℕ) where
  pub next_constant : (c : ℕ) → IsFirst (constant_at work xs) (length xs) (Some c)
      → drop c (cofactor p (length xs - 1) (length xs - 1 - c) (cell work datum_column (get_or xs c 0))) ≡ next_of work p xs
  unfolding next_of
  next_constant c h =
      let is = lowest_here (constant_at work xs) (length xs) c h.0 h.2 h.1 in
      rw (is, lt-ltb c (length xs) h.0)

  pub next_ignored : (i : ℕ) → IsFirst (constant_at work xs) (length xs) None → IsFirst (ignored_at p (length xs)) (length xs) (Some i)
      → drop i (cofactor p (length xs - 1) (length xs - 1 - i) 0) ≡ next_of work p xs
  unfolding next_of
  next_ignored i none h =
      let is = lowest_none (constant_at work xs) (length xs) none in
      let is' = lowest_here (ignored_at p (length xs)) (length xs) i h.0 h.2 h.1 in
      rw (is, is', le-ltb (length xs) (length xs) (omega arith), lt-ltb i (length xs) h.0)

  pub next_stay : IsFirst (constant_at work xs) (length xs) None → IsFirst (ignored_at p (length xs)) (length xs) None → None ≡ next_of work p xs
  unfolding next_of
  next_stay none none' =
      rw (lowest_none (constant_at work xs) (length xs) none, lowest_none (ignored_at p (length xs)) (length xs) none', le-ltb (length xs) (length xs) (omega arith))

-- the operand that it drops is one of the list
abbrev IsInside : Option Dropped → ℕ → Type 0
IsInside None k = Unit {0}
IsInside (Some d) k = d.at < k

is_inside : (work : List ℕ) (p : ℕ) (xs : List ℕ) → IsInside (next_of work p xs) (length xs)
unfolding next_of
is_inside work p xs = go (ltb c k) refl (ltb i k) refl
  where
    k : ℕ
    k = length xs

    c : ℕ
    c = lowest (constant_at work xs) k

    i : ℕ
    i = lowest (ignored_at p k) k

    go : (a : Bool) → ltb c k ≡ a → (b : Bool) → ltb i k ≡ b
        → IsInside (cond a (drop c (cofactor p (k - 1) (k - 1 - c) (cell work datum_column (get_or xs c 0)))) (cond b (drop i (cofactor p (k - 1) (k - 1 - i) 0)) None)) k
    go true h b l = ltb-true c k h
    go false h true l = ltb-true i k l
    go false h false l = tt

pub next_inside : (work : List ℕ) (p : ℕ) (xs : List ℕ) (d : Dropped) → next_of work p xs ≡ Some d → d.at < length xs
next_inside work p xs d e = subst (λ (n : Option Dropped). IsInside n (length xs)) e (is_inside work p xs)

-- ---- as folding goes: of the operands xs the first k of ys are left, with the program p
pub record Folding (work xs : List ℕ) (p₀ : ℕ) (ys : List ℕ) (p k : ℕ) : Type 0 where
  pub size : length ys ≡ length xs
  pub most : k ≤ length xs
  pub none : k ≡ 0 → p < 2
  pub left : (j : ℕ) → j < k → Among xs (get_or ys j 0)
  pub folds : (tree : ℕ → Tree) → Each (Tells work tree) xs → fold k p (map tree (take k ys)) ≡ fold (length xs) p₀ (map tree xs)

pub folding_start : (work xs : List ℕ) (p : ℕ) → (length xs ≡ 0 → p < 2) → Folding work xs p xs p (length xs)
folding_start work xs p bit = record {
  size = refl;
  most = omega arith;
  none = bit;
  left = λ j h. (j, h, refl);
  folds = λ tree t. rw (take-length xs);
}

module _ {work xs : List ℕ} {p₀ : ℕ} {ys : List ℕ} {p k : ℕ} (f : Folding work xs p₀ ys p k) where
  pub left_length : length (take k ys) ≡ k
  left_length = length-take k ys ∙ omega (arith, f.size, f.most)

  pub one_of : (P : ℕ → Type 0) → Each P xs → (j : ℕ) → j < k → P (get_or ys j 0)
  one_of P each j h = let a = f.left j h in subst P (sym a.2) (each a.0 a.1)

  pub each_left : (P : ℕ → Type 0) → Each P xs → Each P (take k ys)
  each_left P each j h =
      let small : j < k = omega (arith, left_length) in
      subst P (sym (get_or-take k ys j 0 small)) (one_of P each j small)

  pub folding_next : 1 < k → (tree : ℕ → Tree) → Each (Tells work tree) xs
      → followed tree p (take k ys) (k - 1) (next_of work p (take k ys)) ≡ fold (length xs) p₀ (map tree xs)
  folding_next h tree tells =
      let m = k - 2 in
      let two : k ≡ suc (suc m) = omega arith in
      let one : k - 1 ≡ suc m = omega arith in
      let next : fold (suc (suc m)) p (map tree (take k ys)) ≡ followed tree p (take k ys) (suc m) (next_of work p (take k ys)) =
      fold_next work tree p (take k ys) m (left_length ∙ two) (each_left (Tells work tree) tells) in
      ap (λ (n : ℕ). followed tree p (take k ys) n (next_of work p (take k ys))) one ∙ sym next
      ∙ ap (λ (n : ℕ). fold n p (map tree (take k ys))) (sym two) ∙ f.folds tree tells

  -- operand `at` is taken from the list
  pub folding_drop : 1 < k → (d : Dropped) (zs : List ℕ) → next_of work p (take k ys) ≡ Some d → length zs ≡ length ys
      → take (k - 1) zs ≡ but_one d.at (take k ys) → Folding work xs p₀ zs d.program (k - 1)
  folding_drop h d zs next size taken = record {
    size = size ∙ f.size;
    most = omega (arith, f.most);
    none = λ e. absurd (omega arith);
    left = among;
    folds = λ tree tells.
        rw taken (subst (λ (n : Option Dropped). followed tree p (take k ys) (k - 1) n ≡ fold (length xs) p₀ (map tree xs)) next (folding_next h tree tells));
  }
    where
      at : ℕ
      at = d.at

      there : at < length (take k ys)
      there = next_inside work p (take k ys) d next

      among : (j : ℕ) → j < k - 1 → Among xs (get_or zs j 0)
      among j l = elim (dec_lt j at) [
        | yes b ↦
            subst (Among xs)
            (sym (sym (get_or-take (k - 1) zs j 0 l) ∙ ap (λ (l : List ℕ). get_or l j 0) taken ∙ but_one_before (take k ys) at there j b ∙ get_or-take k ys j 0 (omega arith)))
            (f.left j (omega arith))
        | no b ↦
            subst (Among xs)
            (sym (sym (get_or-take (k - 1) zs j 0 l) ∙ ap (λ (l : List ℕ). get_or l j 0) taken ∙ but_one_after (take k ys) at there j (omega arith) ∙ get_or-take k ys (suc j) 0 (omega arith)))
            (f.left (suc j) (omega arith))
      ]

  -- ---- no rule applies
  pub folding_stay : 1 < k → next_of work p (take k ys) ≡ None → (tree : ℕ → Tree) → Each (Tells work tree) xs
      → fold (length xs) p₀ (map tree xs) ≡ folded_tree tree (Lut p k) ys
  folding_stay h next tree tells =
      sym (subst (λ (n : Option Dropped). followed tree p (take k ys) (k - 1) n ≡ fold (length xs) p₀ (map tree xs)) next (folding_next h tree tells))

  pub folding_none : k ≡ 0 → (tree : ℕ → Tree) → Each (Tells work tree) xs
      → fold (length xs) p₀ (map tree xs) ≡ folded_tree tree (Constant p) ys
  unfolding fold
  folding_none e tree tells = sym (subst (λ (n : ℕ). fold n p (map tree (take n ys)) ≡ fold (length xs) p₀ (map tree xs)) e (f.folds tree tells))

-- ---- rule 2
one_folded : (work : List ℕ) (p y : ℕ) (ys : List ℕ) (tree : ℕ → Tree) → Tells work tree y
    → fold_one p (tree y) ≡ folded_tree tree (folded_one work p y) (y ∷ ys)
unfolding folded_one
one_folded work p y ys tree t = rw t.kind (go (eqb p 0) (eqb p 3) (eqb p 2) (is_constant_row work y) refl)
  where
    go : (a b c d : Bool) → is_constant_row work y ≡ d
        → cond a (constant 0) (cond b (constant 1) (cond c (tree y) (cond d (constant (1 - datum (tree y))) (lut p (tree y ∷ [])))))
        ≡ folded_tree tree (cond a (Constant 0) (cond b (Constant 1) (cond c (Operand y) (cond d (Constant (1 - cell work datum_column y)) (Lut p 1))))) (y ∷ ys)
    go true b c d e = refl
    go false true c d e = refl
    go false false true d e = refl
    go false false false true e = ap (λ (x : ℕ). constant (1 - x)) (t.bit e)
    go false false false false e = refl

one_left : (work : List ℕ) (p : ℕ) (xs ys : List ℕ) (y : ℕ) → 1 ≤ length xs → Among xs y → get_or ys 0 0 ≡ y → Left xs (folded_one work p y) ys
unfolding folded_one
one_left work p xs ys y some a first = go (eqb p 0) (eqb p 3) (eqb p 2) (is_constant_row work y)
  where
    each : (j : ℕ) → j < 1 → Among xs (get_or ys j 0)
    each zero h = subst (Among xs) (sym first) a
    each (suc j) h = absurd (omega arith)

    go : (q b c d : Bool) → Left xs (cond q (Constant 0) (cond b (Constant 1) (cond c (Operand y) (cond d (Constant (1 - cell work datum_column y)) (Lut p 1))))) ys
    go true b c d = omega arith
    go false true c d = omega arith
    go false false true d = a
    go false false false true = omega arith
    go false false false false = (some, each)

module _ {work xs : List ℕ} {p₀ : ℕ} {ys : List ℕ} {p : ℕ} (f : Folding work xs p₀ ys p 1) where
  pub folding_one : (tree : ℕ → Tree) → Each (Tells work tree) xs
      → fold (length xs) p₀ (map tree xs) ≡ folded_tree tree (folded_one work p (get_or ys 0 0)) ys
  unfolding fold
  folding_one tree tells = go ys f.size (f.folds tree tells) (one_of f (Tells work tree) tells 0 (omega arith))
    where
      go : (zs : List ℕ) → length zs ≡ length xs → fold_one p (nth_tree (map tree (take 1 zs)) 0) ≡ fold (length xs) p₀ (map tree xs)
          → Tells work tree (get_or zs 0 0) → fold (length xs) p₀ (map tree xs) ≡ folded_tree tree (folded_one work p (get_or zs 0 0)) zs
      go [] s e t = absurd (omega (arith, f.most))
      go (z ∷ zs) s e t = sym e ∙ one_folded work p z zs tree t

  pub one_is_left : Left xs (folded_one work p (get_or ys 0 0)) ys
  one_is_left = one_left work p xs ys (get_or ys 0 0) f.most (f.left 0 (omega arith)) refl
