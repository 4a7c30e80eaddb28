-- Programs made row by row: one row more, a row with a bit put in or two exchanged is again a row, and an
-- operand is ignored exactly when its two cofactors are the same program. All over k, for every place.
use Rattle.std.specs.Prelude.{ℕ, ◌+◌, ◌-◌, ◌*◌, ◌/◌, ◌%◌, ◌^◌, ◌≤◌, ◌<◌, ◌≡◌, refl, Bool, true, false, ◌&&◌, leb, ltb, eqb}
use Rattle.std.proofs.Common.{sym, ap, ◌∙◌, add_comm, mod-lt, add-one, arith, pow_pos, pow_mono, pow-add, shr_lt}
use Rattle.std.proofs.Math.Arith.{digits_lt}
use borrow.Author.Tests.{eq-eqb, ne_eqb, le-leb}
use Rattle.bits.specs.Bit.{bit_ext}
use Rattle.meaning.proofs.Laws.BoolLaws.{true_false}
use Rattle.meaning.proofs.Laws.SearchLaws.{lowest_only}
use Rattle.meaning.proofs.Laws.WordLaws.{bit_lt}
use Rattle.meaning.proofs.Laws.TableLaws.{cofactor_row, cofactor_lt, ignores_row}
use Rattle.meaning.specs.Rules.Limits.{widest_bus}
use Rattle.meaning.specs.Rules.Tables.{table, table_fits, insert_bit, swap_bits, cofactor, ignores, pair_differs}
use Rattle.meaning.specs.Rules.Words.{bit_at}

-- an upper part of m bits at place q, over a lower part of q bits
joined_lt : (x y m q : ℕ) → x < 2 ^ m → y < 2 ^ q → x * 2 ^ q + y < 2 ^ (m + q)
joined_lt x y m q h l = rw (pow-add 2 m q) (digits_lt h l)

-- a program of n rows, and row r of p as its next
module _ (p r n : ℕ) {x y : ℕ} (row : x ≡ bit_at p r) where
  pub row_lt : y < 2 ^ n → x * 2 ^ n + y < 2 ^ (n + 1)
  row_lt h = rw (row, add_comm n 1) (joined_lt (bit_at p r) y 1 n (bit_lt p r) h)

  -- which is the table's where r is the table's row n
  pub row_added : (g : ℕ → ℕ) → r ≡ g n → y ≡ table (λ i. bit_at p (g i)) n
      → x * 2 ^ n + y ≡ table (λ i. bit_at p (g i)) (n + 1)
  row_added g source made =
      rw (row, source, made, add-one n) (add_comm (bit_at p (g n) * 2 ^ n) (table (λ i. bit_at p (g i)) n))

-- ---- the range

pub fits_rows : (p k : ℕ) → k ≤ 6 → (leb (2 ^ k) widest_bus && ltb p (2 ^ (2 ^ k))) ≡ table_fits p k
fits_rows p k h = let l : 2 ^ k ≤ 64 = pow_mono h in rw (le-leb (2 ^ k) 64 l, le-leb k 6 h)

-- ---- rows stay rows

pub insert_lt : (k q b i : ℕ) → q ≤ k → b < 2 → i < 2 ^ k → insert_bit q b i < 2 ^ (k + 1)
insert_lt k q b i hq hb hi =
    let e : k - q + q ≡ k = omega arith in
    let e' : k - q + 1 + q ≡ k + 1 = omega arith in
    let upper : i / 2 ^ q < 2 ^ (k - q) = shr_lt (k - q) q (rw e hi) in
    rw (← e') (joined_lt (i / 2 ^ q * 2 + b) (i % 2 ^ q) (k - q + 1) q (rw (pow-add 2 (k - q) 1) (omega arith)) (mod-lt i (pow_pos q)))

pub swap_lt : (k pos i : ℕ) → pos + 1 < k → i < 2 ^ k → swap_bits pos i < 2 ^ k
swap_lt k pos i hp hi =
    let e : k - (pos + 2) + (pos + 2) ≡ k = omega arith in
    let e' : k - (pos + 2) + 2 + pos ≡ k = omega arith in
    let upper : i / 2 ^ (pos + 2) < 2 ^ (k - (pos + 2)) = shr_lt (k - (pos + 2)) (pos + 2) (rw e hi) in
    let four : 2 ^ (k - (pos + 2) + 2) ≡ 2 ^ (k - (pos + 2)) * 4 = pow-add 2 (k - (pos + 2)) 2 in
    rw (← e')
    (joined_lt ((i / 2 ^ (pos + 2) * 2 + bit_at i pos) * 2 + bit_at i (pos + 1)) (i % 2 ^ pos) (k - (pos + 2) + 2) pos
    (omega (arith, bit_lt i pos, bit_lt i (pos + 1)))
    (mod-lt i (pow_pos pos)))

-- ---- an operand that is ignored

module _ (p k q : ℕ) where
  ignored_same : ignores p k q ≡ true → cofactor p k q 0 ≡ cofactor p k q 1
  ignored_same h =
      bit_ext (2 ^ k) (cofactor p k q 0) (cofactor p k q 1) (cofactor_lt p k q 0) (cofactor_lt p k q 1)
      (λ j l. cofactor_row p k q 0 j l ∙ sym (ignores_row p k q 1 j h (omega arith) l) ∙ sym (cofactor_row p k q 1 j l))

  same_pair : cofactor p k q 0 ≡ cofactor p k q 1 → (j : ℕ) → j < 2 ^ k → pair_differs p q j ≡ false
  same_pair e j l =
      simp (eq-eqb _ _ (sym (cofactor_row p k q 0 j l) ∙ ap (λ (x : ℕ). bit_at x j) e ∙ cofactor_row p k q 1 j l))

  same_ignored : cofactor p k q 0 ≡ cofactor p k q 1 → ignores p k q ≡ true
  unfolding ignores
  same_ignored e =
      eq-eqb _ _ (lowest_only (pair_differs p q) (2 ^ k) (2 ^ k)
      record { after = omega arith; within = omega arith; passes = λ h. absurd (omega arith); before = λ j a b. same_pair e j b })

  pub ignores_is : eqb (cofactor p k q 0) (cofactor p k q 1) ≡ ignores p k q
  ignores_is = go (ignores p k q) refl
    where
      go : (b : Bool) → ignores p k q ≡ b → eqb (cofactor p k q 0) (cofactor p k q 1) ≡ ignores p k q
      go true h = eq-eqb (cofactor p k q 0) (cofactor p k q 1) (ignored_same h) ∙ sym h
      go false h =
          ne_eqb (cofactor p k q 0) (cofactor p k q 1) (λ e. true_false (same_ignored e) h) ∙ sym h
