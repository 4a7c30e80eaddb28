-- Input bytes in the order of reading. `eval_lut` reads them from the front and `eval_lut_bv` from the back; the byte read
-- first is the high row bit in both, so one definition and its laws serve the two.
use Rattle.std.specs.Prelude.{ℕ, suc, ◌+◌, ◌*◌, ◌%◌, ◌^◌, ◌≤◌, ◌<◌, ◌≡◌, refl, List, [], ◌∷◌, reverse, Bool, true, false, length, ltb, leb}
use Rattle.std.specs.List.{fold, list_all}
use Rattle.std.specs.Int.Bits.{bit_or}
use Rattle.std.proofs.Common.{ap, ◌∙◌, pow-suc, pow_mono, mod-eq_of_lt, arith, ltb-true, leb-true}
use Rattle.std.proofs.lemmas.List.{length-reverse}
use Rattle.std.proofs.lemmas.Nat.{or_shifted}
use mathlib.Core.List.{reverse-cons}
use Rattle.meaning.proofs.Laws.BoolLaws.{and_left, and_right}
use Rattle.meaning.proofs.Laws.TableLaws.{AreBits, nil, bit, bits_append, row_lt}
use Rattle.meaning.specs.Rules.Tables.{TableAnswer, in_range, says, lut_inputs, are_bits, row_from}
use Rattle.meaning.specs.Rules.Words.{bit_at}

-- from the front, or from the back
abbrev pub read_in : Bool → List ℕ → List ℕ
read_in true bs = bs
read_in false bs = reverse bs

abbrev pub eval_read : Bool → ℕ → List ℕ → TableAnswer
eval_read forward p inputs = in_range (lut_inputs inputs) (says (bit_at p (row_from 0 (read_in forward inputs))) 0)

-- a row as a word, shifted to the left, with a byte put in below
abbrev pub shifted_in : ℕ → ℕ → ℕ
shifted_in row b = bit_or (row * 2 ^ 1 % 2 ^ 64) b

-- ---- the range test

pub all_bits : (bs : List ℕ) → list_all (λ b. ltb b 2) bs ≡ are_bits bs
all_bits [] = refl
all_bits (b ∷ bs) = rw (all_bits bs)

are_bits_lem : (bs : List ℕ) → are_bits bs ≡ true → AreBits bs
are_bits_lem [] h = nil
are_bits_lem (b ∷ bs) h = bit (ltb-true b 2 (and_left (ltb b 2) (are_bits bs) h)) (are_bits_lem bs (and_right (ltb b 2) (are_bits bs) h))

-- ---- the order of reading

read_length : (o : Bool) (bs : List ℕ) → length (read_in o bs) ≡ length bs
read_length true bs = refl
read_length false bs = length-reverse bs

bits_reverse : (bs : List ℕ) → AreBits bs → AreBits (reverse bs)
bits_reverse [] h = nil
bits_reverse (b ∷ bs) (bit l h) = rw (reverse-cons b bs) (bits_append (bits_reverse bs h) (bit l nil))

read_bits : (o : Bool) (bs : List ℕ) → AreBits bs → AreBits (read_in o bs)
read_bits true bs h = h
read_bits false bs h = bits_reverse bs h

-- ---- the row

-- no bit is shifted out of a row below 2 ^ n, if there is room for the bits that are still to come
row_folded : (row n : ℕ) {bs : List ℕ} → AreBits bs → row < 2 ^ n → n + length bs ≤ 64 → fold shifted_in row bs ≡ row_from row bs
row_folded row n nil h room = refl
row_folded row n (bit {b = b} {bs = bs} l k) h room =
    let more : suc n ≤ 64 = omega arith in
    let next : row * 2 + b < 2 ^ suc n = omega (arith, pow-suc 2 n) in
    let fits : row * 2 ^ 1 < 2 ^ 64 = omega (arith, pow-suc 2 n, pow_mono more) in
    let e : shifted_in row b ≡ row * 2 + b = ap (λ (x : ℕ). bit_or x b) (mod-eq_of_lt fits) ∙ or_shifted row 1 b l in
    rw e (row_folded (row * 2 + b) (suc n) k next (omega arith))

-- at most six bits are a row below 64
module _ (o : Bool) (bs : List ℕ) (fit : lut_inputs bs ≡ true) where
  bits : AreBits (read_in o bs)
  bits = read_bits o bs (are_bits_lem bs (and_right (leb (length bs) 6) (are_bits bs) fit))

  few : length (read_in o bs) ≤ 6
  few = omega (arith, read_length o bs, leb-true (length bs) 6 (and_left (leb (length bs) 6) (are_bits bs) fit))

  pub row_in_word : row_from 0 (read_in o bs) < 64
  row_in_word = omega (arith, row_lt bits, pow_mono few)

  pub row_read : fold shifted_in 0 (read_in o bs) ≡ row_from 0 (read_in o bs)
  row_read = row_folded 0 0 bits (omega arith) (omega (arith, few))
