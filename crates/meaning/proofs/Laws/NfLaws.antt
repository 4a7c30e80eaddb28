-- The normal form answers as the tree does, where the tree has no DC, register or ARG and its variables are driven.
use Rattle.std.specs.Prelude.{ℕ, zero, suc, ◌^◌, ◌≤◌, ◌<◌, ◌≡◌, refl, List, ◌∷◌, map, [], length}
use Rattle.std.proofs.Common.{sym, ap, ap₂, ◌∙◌, arith, lt-ltb}
use Rattle.meaning.specs.declared.Answer.{Answer}
use Rattle.meaning.specs.declared.Answer.TheVariants.{Value}
use Rattle.meaning.specs.Rules.Limits.{most_operands, widest_bus}
use Rattle.meaning.specs.Rules.Trees.{Tree, Forest, node, none, ◌◂◌, trees, forest_of}
use Rattle.meaning.specs.Rules.Answers.{Assignment, answer, answers, blank, driven, nor_of, and_of, xor_of, not_of, mux_of, lut_of, bus_of}
use Rattle.meaning.specs.Rules.Words.{bit_at}
use Rattle.meaning.specs.Rules.Tables.{row_from}
use Rattle.meaning.specs.Rules.Folding.{folded, nf, nf_all}
use Rattle.meaning.proofs.Laws.WordLaws.{bit_lt}
use Rattle.meaning.proofs.Laws.FoldLaws.{Answering, nobody, with, answering_length, lut_answer, fold_answer}

-- ---- trees that are bits and buses, over the variables D, made of constants, variables, gates, Luts, Cycles and Buses:
-- what verification, evaluability and number 14 leave where no DC, register or ARG is reachable
mutual
  pub data BitTree (D : ℕ → Type 0) : Tree → Type 0 where
    const : {b : ℕ} → b < 2 → BitTree D (node 0 b none)
    var : {v : ℕ} → D v → BitTree D (node 3 v none)
    nor : {x y : Tree} → BitTree D x → BitTree D y → BitTree D (node 4 0 (x ◂ y ◂ none))
    mux : {s x y : Tree} → BitTree D s → BitTree D x → BitTree D y → BitTree D (node 5 0 (s ◂ x ◂ y ◂ none))
    and : {x y : Tree} → BitTree D x → BitTree D y → BitTree D (node 6 0 (x ◂ y ◂ none))
    xor : {x y : Tree} → BitTree D x → BitTree D y → BitTree D (node 7 0 (x ◂ y ◂ none))
    inv : {x : Tree} → BitTree D x → BitTree D (node 8 0 (x ◂ none))
    lut : {p k : ℕ} {ops : Forest} → k ≤ most_operands → (k < most_operands → p < 2 ^ (2 ^ k)) → BitForest D ops k → BitTree D (node 9 0 (node 1 p none ◂ ops))
    cycle : {x : Tree} → BitTree D x → BitTree D (node 16 0 (x ◂ none))

  pub data BitForest (D : ℕ → Type 0) : Forest → ℕ → Type 0 where
    nothing : BitForest D none 0
    more : {t : Tree} {ts : Forest} {k : ℕ} → BitTree D t → BitForest D ts k → BitForest D (t ◂ ts) (suc k)

pub data Made (D : ℕ → Type 0) : Tree → Type 0 where
  a_bit : {t : Tree} → BitTree D t → Made D t
  a_bus : {k : ℕ} {ts : Forest} → k ≤ widest_bus → BitForest D ts k → Made D (node 10 0 ts)
  a_cycle : {t : Tree} → Made D t → Made D (node 16 0 (t ◂ none))

-- ---- the gates are their Luts, at bits
by_bits : (P : ℕ → Type 0) → P 0 → P 1 → (b : ℕ) → b < 2 → P b
by_bits P p q zero h = p
by_bits P p q (suc zero) h = q
by_bits P p q (suc (suc b)) h = absurd (omega arith)

abbrev lut_bit : ℕ → List ℕ → Answer
lut_bit p bs = Value 1 (bit_at p (row_from 0 bs))

two : (F G : ℕ → ℕ → Answer) → F 0 0 ≡ G 0 0 → F 0 1 ≡ G 0 1 → F 1 0 ≡ G 1 0 → F 1 1 ≡ G 1 1
    → (x y : ℕ) → x < 2 → y < 2 → F x y ≡ G x y
two F G e00 e01 e10 e11 x y hx hy =
    by_bits (λ (x : ℕ). F x y ≡ G x y)
    (by_bits (λ (y : ℕ). F 0 y ≡ G 0 y) e00 e01 y hy) (by_bits (λ (y : ℕ). F 1 y ≡ G 1 y) e10 e11 y hy) x hx

nor_lut : (x y : ℕ) → x < 2 → y < 2 → nor_of (Value 1 x) (Value 1 y) ≡ lut_bit 1 (x ∷ y ∷ [])
nor_lut = two (λ x y. nor_of (Value 1 x) (Value 1 y)) (λ x y. lut_bit 1 (x ∷ y ∷ [])) refl refl refl refl

and_lut : (x y : ℕ) → x < 2 → y < 2 → and_of (Value 1 x) (Value 1 y) ≡ lut_bit 8 (x ∷ y ∷ [])
and_lut = two (λ x y. and_of (Value 1 x) (Value 1 y)) (λ x y. lut_bit 8 (x ∷ y ∷ [])) refl refl refl refl

xor_lut : (x y : ℕ) → x < 2 → y < 2 → xor_of (Value 1 x) (Value 1 y) ≡ lut_bit 6 (x ∷ y ∷ [])
xor_lut = two (λ x y. xor_of (Value 1 x) (Value 1 y)) (λ x y. lut_bit 6 (x ∷ y ∷ [])) refl refl refl refl

not_lut : (x : ℕ) → x < 2 → not_of (Value 1 x) ≡ lut_bit 1 (x ∷ [])
not_lut = by_bits (λ (x : ℕ). not_of (Value 1 x) ≡ lut_bit 1 (x ∷ [])) refl refl

mux_lut : (s x y : ℕ) → s < 2 → x < 2 → y < 2 → mux_of (Value 1 s) (Value 1 x) (Value 1 y) ≡ lut_bit 202 (s ∷ x ∷ y ∷ [])
mux_lut s x y hs hx hy =
    by_bits (λ (s : ℕ). mux_of (Value 1 s) (Value 1 x) (Value 1 y) ≡ lut_bit 202 (s ∷ x ∷ y ∷ []))
    (two (λ x y. mux_of (Value 1 0) (Value 1 x) (Value 1 y)) (λ x y. lut_bit 202 (0 ∷ x ∷ y ∷ [])) refl refl refl refl x y hx hy)
    (two (λ x y. mux_of (Value 1 1) (Value 1 x) (Value 1 y)) (λ x y. lut_bit 202 (1 ∷ x ∷ y ∷ [])) refl refl refl refl x y hx hy) s hs

-- ---- the answers of a tree and of its normal form
-- one bit, which both have
pub record BothBit (α : Assignment) (t u : Tree) : Type 0 where
  pub value : ℕ
  pub small : value < 2
  pub here : answer α t ≡ Value 1 value
  pub there : answer α u ≡ Value 1 value

pub record BothBits (α : Assignment) (ts us : Forest) (k : ℕ) : Type 0 where
  pub values : List ℕ
  pub size : length values ≡ k
  pub here : Answering α (trees ts) values
  pub there : Answering α (trees us) values

answers_are : (α : Assignment) (ts : Forest) {bs : List ℕ} → Answering α (trees ts) bs → answers α ts ≡ map (Value 1) bs
answers_are α none nobody = refl
answers_are α (t ◂ ts) (with h e a) = ap₂ (λ (x : Answer) (xs : List Answer). x ∷ xs) e (answers_are α ts a)

forest_trees : (ts : Forest) → forest_of (trees ts) ≡ ts
forest_trees none = refl
forest_trees (t ◂ ts) = ap (λ (us : Forest). t ◂ us) (forest_trees ts)

module _ (D : ℕ → Type 0) (α : Assignment) (drives : (v : ℕ) → D v → α v < 2) where
  -- a gate over bits, whose Lut is folded
  folded_bit : (p : ℕ) {t : Tree} {us : List Tree} {bs : List ℕ} → (length bs < most_operands → p < 2 ^ (2 ^ length bs))
      → answer α t ≡ lut_bit p bs → Answering α us bs → BothBit α t (folded p us)
  folded_bit p {bs = bs} h e a = record {
    value = bit_at p (row_from 0 bs);
    small = bit_lt p (row_from 0 bs);
    here = e;
    there = rw (← (answering_length α a)) (fold_answer α (length bs) p h a refl);
  }

  driven_bit : (v : ℕ) → D v → driven (α v) ≡ Value 1 (α v)
  driven_bit v h = rw (lt-ltb (α v) 2 (drives v h))

  gate2 : (p : ℕ) (op : Answer → Answer → Answer) → p < 16
      → ((x y : ℕ) → x < 2 → y < 2 → op (Value 1 x) (Value 1 y) ≡ lut_bit p (x ∷ y ∷ []))
      → (t : Tree) {x y x' y' : Tree} → BothBit α x x' → BothBit α y y' → answer α t ≡ op (answer α x) (answer α y)
      → BothBit α t (folded p (x' ∷ y' ∷ []))
  gate2 p op small is t p₁ p₂ e =
      folded_bit p (λ h. small) (e ∙ ap₂ op p₁.here p₂.here ∙ is p₁.value p₂.value p₁.small p₂.small)
      (with p₁.small p₁.there (with p₂.small p₂.there nobody))

  gate1 : (d : ℕ) {x x' : Tree} → BothBit α x x' → BothBit α (node 8 d (x ◂ none)) (folded 1 (x' ∷ []))
  gate1 d p =
      folded_bit 1 (λ h. omega arith) (ap not_of p.here ∙ not_lut p.value p.small) (with p.small p.there nobody)

  gate3 : (d : ℕ) {s x y s' x' y' : Tree} → BothBit α s s' → BothBit α x x' → BothBit α y y'
      → BothBit α (node 5 d (s ◂ x ◂ y ◂ none)) (folded 202 (s' ∷ x' ∷ y' ∷ []))
  gate3 d p q r =
      folded_bit 202 (λ h. omega arith)
      (rw (p.here, q.here, r.here) (mux_lut p.value q.value r.value p.small q.small r.small))
      (with p.small p.there (with q.small q.there (with r.small r.there nobody)))

  lut_n : (d p k : ℕ) (ops us : Forest) → (k < most_operands → p < 2 ^ (2 ^ k)) → BothBits α ops us k
      → BothBit α (node 9 d (node 1 p none ◂ ops)) (folded p (trees us))
  lut_n d p k ops us h b =
      folded_bit p (λ l. rw b.size (h (rw b.size at l)))
      (ap (lut_of p) (ap (answers α) (sym (forest_trees ops))) ∙ lut_answer α p b.here) b.there

  mutual
    both_bit : {t : Tree} → BitTree D t → BothBit α t (nf t)
    both_bit (const h) = record { value = _; small = h; here = refl; there = refl }
    both_bit (var {v = v} h) = record { value = α v; small = drives v h; here = driven_bit v h; there = driven_bit v h }
    both_bit (nor {x = x} {y = y} a b) = gate2 1 nor_of (omega arith) nor_lut (node 4 0 (x ◂ y ◂ none)) (both_bit a) (both_bit b) refl
    both_bit (mux c a b) = gate3 0 (both_bit c) (both_bit a) (both_bit b)
    both_bit (and {x = x} {y = y} a b) = gate2 8 and_of (omega arith) and_lut (node 6 0 (x ◂ y ◂ none)) (both_bit a) (both_bit b) refl
    both_bit (xor {x = x} {y = y} a b) = gate2 6 xor_of (omega arith) xor_lut (node 7 0 (x ◂ y ◂ none)) (both_bit a) (both_bit b) refl
    both_bit (inv a) = gate1 0 (both_bit a)
    both_bit (lut {p = p} {k = k} {ops = ops} l h a) = lut_n 0 p k ops (nf_all ops) h (both_bits a)
    both_bit (cycle a) = let p = both_bit a in record { value = p.value; small = p.small; here = p.here; there = p.there }

    both_bits : {ts : Forest} {k : ℕ} → BitForest D ts k → BothBits α ts (nf_all ts) k
    both_bits nothing = record { values = []; size = refl; here = nobody; there = nobody }
    both_bits (more a b) =
        let p = both_bit a in
        let q = both_bits b in
        record { values = p.value ∷ q.values; size = ap suc q.size; here = with p.small p.here q.here; there = with p.small p.there q.there }

  -- the normal form of a tree answers as the tree
  pub nf_answer : {t : Tree} → Made D t → answer α (nf t) ≡ answer α t
  nf_answer (a_bit a) = let p = both_bit a in p.there ∙ sym p.here
  nf_answer (a_bus {ts = ts} l a) =
      let b = both_bits a in
      ap (bus_of blank) (answers_are α (nf_all ts) b.there ∙ sym (answers_are α ts b.here))
  nf_answer (a_cycle m) = nf_answer m
