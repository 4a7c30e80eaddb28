-- Folding keeps a Lut's answer, whatever its operands, where these have bits for answers (document 01, "Canonical list").
use Prim.Native.Nat.{ℕ, zero, suc, ◌+◌, ◌-◌, ◌*◌, ◌^◌, ◌<◌}
use Rattle.std.specs.Prelude.{◌≡◌, refl, List, ◌∷◌, ◌++◌, [], Bool, true, false, length, get_or, take, drop}
use Rattle.std.proofs.Common.{sym, ◌∙◌, arith, length-append, length-take, length-drop, eqb-true, lt-ltb, le-ltb}
use Rattle.std.proofs.Math.Path.{ap}
use Rattle.std.proofs.Math.Decide.{dec_lt}
use Rattle.meaning.specs.declared.Answer.TheVariants.{Value}
use Rattle.meaning.specs.Rules.Limits.{most_operands}
use Rattle.meaning.specs.Rules.Search.{lowest}
use Rattle.meaning.proofs.Laws.SearchLaws.{lowest_is}
use Rattle.meaning.specs.Rules.Trees.{Tree, node, datum, forest_of, nth_tree}
use Rattle.meaning.specs.Rules.Answers.{Assignment, answer, answers, value_of, operands, row_bit}
use Rattle.meaning.specs.Rules.Words.{bit_at}
use Rattle.meaning.specs.Rules.Tables.{insert_bit, cofactor, ignores, row_from, but_one}
use Rattle.meaning.proofs.Laws.TableLaws.{AreBits, nil, bit, bits_at, row_lt, row_insert, cofactor_row, cofactor_lt, ignores_row}
use Rattle.meaning.specs.Rules.Folding.{lut, is_constant, without, fold_one, fold}

-- the trees ts answer with the bits bs
pub data Answering (α : Assignment) : List Tree → List ℕ → Type 0 where
  nobody : Answering α [] []
  with : {t : Tree} {ts : List Tree} {b : ℕ} {bs : List ℕ} → b < 2 → answer α t ≡ Value 1 b → Answering α ts bs → Answering α (t ∷ ts) (b ∷ bs)

module _ (α : Assignment) where
  are_bits_lem : {ts : List Tree} {bs : List ℕ} → Answering α ts bs → AreBits bs
  are_bits_lem nobody = nil
  are_bits_lem (with h e a) = bit h (are_bits_lem a)

  pub answering_length : {ts : List Tree} {bs : List ℕ} → Answering α ts bs → length bs ≡ length ts
  answering_length nobody = refl
  answering_length (with h e a) = ap suc (answering_length a)

  at : {ts : List Tree} {bs : List ℕ} → Answering α ts bs → (j : ℕ) → j < length bs → answer α (nth_tree ts j) ≡ Value 1 (get_or bs j 0)
  at nobody j h = absurd (omega arith)
  at (with b e a) zero h = e
  at (with b e a) (suc j) h = at a j (omega arith)

  taken : {ts : List Tree} {bs : List ℕ} (j : ℕ) → Answering α ts bs → Answering α (take j ts) (take j bs)
  taken zero a = nobody
  taken (suc j) nobody = nobody
  taken (suc j) (with b e a) = with b e (taken j a)

  dropped : {ts : List Tree} {bs : List ℕ} (j : ℕ) → Answering α ts bs → Answering α (drop j ts) (drop j bs)
  dropped zero a = a
  dropped (suc j) nobody = nobody
  dropped (suc j) (with b e a) = dropped j a

  appended : {ts us : List Tree} {bs cs : List ℕ} → Answering α ts bs → Answering α us cs → Answering α (ts ++ us) (bs ++ cs)
  appended nobody c = c
  appended (with b e a) c = with b e (appended a c)

  butone : {ts : List Tree} {bs : List ℕ} (j : ℕ) → Answering α ts bs → Answering α (without j ts) (but_one j bs)
  butone j a = appended (taken j a) (dropped (suc j) a)

  butone_length : (bs : List ℕ) (j k : ℕ) → j < length bs → length bs ≡ suc k → length (but_one j bs) ≡ k
  butone_length bs j k h e =
      length-append (take j bs) (drop (suc j) bs) ∙ rw (length-take j bs, length-drop (suc j) bs) (omega arith)

  -- a Lut over such operands answers its program's bit at their row
  row_bit_lem : (p w r : ℕ) {ts : List Tree} {bs : List ℕ} → Answering α ts bs
      → row_bit p (operands (Value w r) (answers α (forest_of ts))) ≡ Value 1 (bit_at p (row_from r bs))
  row_bit_lem p w r nobody = refl
  row_bit_lem p w r (with {b = b} h e a) = rw e (row_bit_lem p (suc w) (r * 2 + b) a)

  pub lut_answer : (p : ℕ) {ts : List Tree} {bs : List ℕ} → Answering α ts bs → answer α (lut p ts) ≡ Value 1 (bit_at p (row_from 0 bs))
  lut_answer p a = row_bit_lem p 0 0 a

  constant_answer : (t : Tree) → is_constant t ≡ true → answer α t ≡ Value 1 (datum t)
  constant_answer (node k d cs) h = rw (eqb-true k 0 h)

  -- rule 2
  one : (p b : ℕ) (t : Tree) → p < 4 → b < 2 → answer α t ≡ Value 1 b → answer α (fold_one p t) ≡ Value 1 (bit_at p (0 * 2 + b))
  one zero zero t hp hb e = refl
  one zero (suc zero) t hp hb e = refl
  one zero (suc (suc b)) t hp hb e = absurd (omega arith)
  one (suc zero) b t hp hb e = go (is_constant t) refl
    where
      same : is_constant t ≡ true → datum t ≡ b
      same c = ap value_of (sym (constant_answer t c) ∙ e)

      negated : (b : ℕ) → b < 2 → 1 - b ≡ bit_at 1 (0 * 2 + b)
      negated zero h = refl
      negated (suc zero) h = refl
      negated (suc (suc b)) h = absurd (omega arith)

      go : (c : Bool) → is_constant t ≡ c → answer α (fold_one 1 t) ≡ Value 1 (bit_at 1 (0 * 2 + b))
      go true c = rw (c, same c) (ap (Value 1) (negated b hb))
      go false c = rw c (lut_answer 1 {ts = t ∷ []} {bs = b ∷ []} (with {t = t} {b = b} hb e nobody))
  one (suc (suc zero)) zero t hp hb e = e
  one (suc (suc zero)) (suc zero) t hp hb e = e
  one (suc (suc zero)) (suc (suc b)) t hp hb e = absurd (omega arith)
  one (suc (suc (suc zero))) zero t hp hb e = refl
  one (suc (suc (suc zero))) (suc zero) t hp hb e = refl
  one (suc (suc (suc zero))) (suc (suc b)) t hp hb e = absurd (omega arith)
  one (suc (suc (suc (suc p)))) b t hp hb e = absurd (omega arith)

  -- dropping operand j, whose bit is b or which the program ignores, keeps the answer
  module _ (k p j b : ℕ) {ts : List Tree} {bs : List ℕ} (a : Answering α ts bs) (size : length bs ≡ suc (suc k)) (small : j < suc (suc k)) where
    place : length bs - suc j ≡ suc k - j
    place = omega arith

    row_small : row_from 0 (but_one j bs) < 2 ^ suc k
    row_small =
        rw (butone_length bs j (suc k) (omega arith) size) at (row_lt (are_bits_lem (butone j a)))

    row_is : row_from 0 bs ≡ insert_bit (suc k - j) (get_or bs j 0) (row_from 0 (but_one j bs))
    row_is = rw (← place) (row_insert bs j (are_bits_lem a) (omega arith))

    kept : get_or bs j 0 ≡ b → bit_at (cofactor p (suc k) (suc k - j) b) (row_from 0 (but_one j bs)) ≡ bit_at p (row_from 0 bs)
    kept e =
        cofactor_row p (suc k) (suc k - j) b (row_from 0 (but_one j bs)) row_small
        ∙ ap (bit_at p) (ap (λ (x : ℕ). insert_bit (suc k - j) x (row_from 0 (but_one j bs))) (sym e) ∙ sym row_is)

    kept_ignored : ignores p (suc k) (suc k - j) ≡ true
        → bit_at (cofactor p (suc k) (suc k - j) 0) (row_from 0 (but_one j bs)) ≡ bit_at p (row_from 0 bs)
    kept_ignored i =
        cofactor_row p (suc k) (suc k - j) 0 (row_from 0 (but_one j bs)) row_small
        ∙ sym (ignores_row p (suc k) (suc k - j) (get_or bs j 0) (row_from 0 (but_one j bs)) i (bits_at j (are_bits_lem a)) row_small)
        ∙ ap (bit_at p) (sym row_is)

  -- folding keeps the answer; the bound on the program is what verification gives
  pub fold_answer : (k p : ℕ) {ts : List Tree} {bs : List ℕ} → (k < most_operands → p < 2 ^ (2 ^ k)) → Answering α ts bs → length bs ≡ k
      → answer α (fold k p ts) ≡ Value 1 (bit_at p (row_from 0 bs))
  unfolding fold
  fold_answer zero p h nobody e = let small : p < 2 = h (omega arith) in ap (Value 1) (omega arith)
  fold_answer zero p h (with b q a) e = absurd (omega arith)
  fold_answer (suc zero) p h nobody e = absurd (omega arith)
  fold_answer (suc zero) p h (with {t = t} {b = b} hb q nobody) e = one p b t (h (omega arith)) hb q
  fold_answer (suc zero) p h (with b q (with b' q' a)) e = absurd (omega arith)
  fold_answer (suc (suc k)) p {ts} {bs} h a e =
      go (λ p' ts' bs'. fold_answer (suc k) p' {ts = ts'} {bs = bs'}) (dec_lt c (suc (suc k))) (dec_lt i (suc (suc k)))
    where
      c : ℕ
      c = lowest (λ j. is_constant (nth_tree ts j)) (suc (suc k))

      i : ℕ
      i = lowest (λ j. ignores p (suc k) (suc k - j)) (suc (suc k))

      constant_bit : c < suc (suc k) → get_or bs c 0 ≡ datum (nth_tree ts c)
      constant_bit l =
          ap value_of (sym (at a c (omega arith)) ∙ constant_answer (nth_tree ts c) ((lowest_is (λ j. is_constant (nth_tree ts j)) (suc (suc k))).passes l))

      go : ((p' : ℕ) (ts' : List Tree) (bs' : List ℕ) → (suc k < most_operands → p' < 2 ^ (2 ^ suc k)) → Answering α ts' bs' → length bs' ≡ suc k
          → answer α (fold (suc k) p' ts') ≡ Value 1 (bit_at p' (row_from 0 bs')))
          → Dec (c < suc (suc k)) → Dec (i < suc (suc k)) → answer α (fold (suc (suc k)) p ts) ≡ Value 1 (bit_at p (row_from 0 bs))
      go ih (yes l) d =
          rw (lt-ltb c (suc (suc k)) l)
          (ih (cofactor p (suc k) (suc k - c) (datum (nth_tree ts c))) (without c ts) (but_one c bs)
          (λ m. cofactor_lt p (suc k) (suc k - c) (datum (nth_tree ts c))) (butone c a) (butone_length bs c (suc k) (omega arith) e)
          ∙ ap (Value 1) (kept k p c (datum (nth_tree ts c)) a e l (constant_bit l)))
      go ih (no l) (yes m) =
          rw (le-ltb c (suc (suc k)) (omega arith), lt-ltb i (suc (suc k)) m)
          (ih (cofactor p (suc k) (suc k - i) 0) (without i ts) (but_one i bs)
          (λ m'. cofactor_lt p (suc k) (suc k - i) 0) (butone i a) (butone_length bs i (suc k) (omega arith) e)
          ∙ ap (Value 1) (kept_ignored k p i 0 a e m ((lowest_is (λ j. ignores p (suc k) (suc k - j)) (suc (suc k))).passes m)))
      go ih (no l) (no m) = rw (le-ltb c (suc (suc k)) (omega arith), le-ltb i (suc (suc k)) (omega arith)) (lut_answer p a)
