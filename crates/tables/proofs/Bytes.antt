-- Input bytes one by one, in the order of reading: what one more says of the range test and of the row, and that each is a
-- bit and each row of the first ones below 64.
use Rattle.std.specs.Prelude.{ℕ, zero, suc, ◌+◌, ◌-◌, ◌*◌, ◌≤◌, ◌<◌, ◌≡◌, refl, Bool, true, false, cond, ◌&&◌, length, get_or, take, drop, ltb, leb, eqb}
use Rattle.std.proofs.Common.{sym, ap, ◌∙◌, length-take, drop_of_length-le, take-suc, drop-cons, pow_mono, add-one, arith, ltb-true, leb-true, lt-ltb, le-ltb}
use mathlib.Core.List.{List, [], ◌∷◌, ◌++◌, reverse, reverse-cons}
use Rattle.std.proofs.lemmas.List.{length-reverse, get_or_at}
use Rattle.std.proofs.Math.ListN.{get_or-append}
use Rattle.std.proofs.Math.Decide.{dec_lt}
use Rattle.meaning.proofs.Laws.BoolLaws.{and_left, and_right}
use Rattle.meaning.proofs.Laws.TableLaws.{AreBits, nil, bit, bits_append, bits_at, bits_take, row_lt}
use Rattle.meaning.specs.Rules.Tables.{lut_inputs, are_bits, row_from}
use Rattle.tables.specs.Inputs.{read_in}

-- a bit told as a truth value
pub bit_told : (b : ℕ) → b < 2 → ◌≡◌ {A = ℕ} (cond (eqb b 1) 1 0) b
bit_told zero h = refl
bit_told (suc zero) h = refl
bit_told (suc (suc b)) h = absurd (omega arith)

-- ---- the range test

-- one byte of the test, the i-th: it is a bit, or it is not, or there is none
module _ (bs : List ℕ) (i : ℕ) where
  bits_from : i < length bs → are_bits (drop i bs) ≡ (ltb (get_or bs i 0) 2 && are_bits (drop (suc i) bs))
  bits_from h = rw (drop-cons bs i 0 h)

  pub bits_on : i < length bs → get_or bs i 0 < 2 → are_bits (drop (i + 1) bs) ≡ are_bits (drop i bs)
  bits_on h l = rw (bits_from h, lt-ltb (get_or bs i 0) 2 l, add-one i)

  pub bits_stop : i < length bs → 2 ≤ get_or bs i 0 → are_bits (drop i bs) ≡ false
  bits_stop h l = rw (bits_from h, le-ltb (get_or bs i 0) 2 l)

  pub bits_end : length bs ≤ i → are_bits (drop i bs) ≡ true
  bits_end h = rw (drop_of_length-le bs {i = i} h)

are_bits_lem : (bs : List ℕ) → are_bits bs ≡ true → AreBits bs
are_bits_lem [] h = nil
are_bits_lem (b ∷ bs) h = bit (ltb-true b 2 (and_left (ltb b 2) (are_bits bs) h)) (are_bits_lem bs (and_right (ltb b 2) (are_bits bs) h))

-- what the test gives
pub fit_length : (bs : List ℕ) → lut_inputs bs ≡ true → length bs ≤ 6
fit_length bs h = leb-true (length bs) 6 (and_left (leb (length bs) 6) (are_bits bs) h)

fit_bits : (bs : List ℕ) → lut_inputs bs ≡ true → AreBits bs
fit_bits bs h = are_bits_lem bs (and_right (leb (length bs) 6) (are_bits bs) h)

-- ---- the order of reading

pub read_length : (o : Bool) (bs : List ℕ) → length (read_in o bs) ≡ length bs
read_length true bs = refl
read_length false bs = length-reverse bs

bits_reverse : (bs : List ℕ) → AreBits bs → AreBits (reverse bs)
bits_reverse [] h = nil
bits_reverse (b ∷ bs) (bit l h) = rw (reverse-cons b bs) (bits_append (bits_reverse bs h) (bit l nil))

read_bits : (o : Bool) (bs : List ℕ) → AreBits bs → AreBits (read_in o bs)
read_bits true bs h = h
read_bits false bs h = bits_reverse bs h

-- byte i from the back
pub back_at : (bs : List ℕ) (i : ℕ) → i < length bs → get_or (reverse bs) i 0 ≡ get_or bs (length bs - 1 - i) 0
back_at [] i h = absurd (omega arith)
back_at (b ∷ bs) i h = rw (reverse-cons b bs) (go (dec_lt i (length bs)) (back_at bs i))
  where
    go : Dec (i < length bs) → (i < length bs → get_or (reverse bs) i 0 ≡ get_or bs (length bs - 1 - i) 0)
        → get_or (reverse bs ++ (b ∷ [])) i 0 ≡ get_or (b ∷ bs) (length (b ∷ bs) - 1 - i) 0
    go (yes l) ih =
        let e : length (b ∷ bs) - 1 - i ≡ suc (length bs - 1 - i) = omega arith in
        let m : i < length (reverse bs) = omega (arith, length-reverse bs) in
        get_or-append (reverse bs) (b ∷ []) 0 i m ∙ ih l ∙ ap (λ (n : ℕ). get_or (b ∷ bs) n 0) (sym e)
    go (no l) ih =
        let e : length (b ∷ bs) - 1 - i ≡ zero = omega arith in
        let m : length (reverse bs) ≡ i = omega (arith, length-reverse bs) in
        get_or_at (reverse bs) b [] 0 i m ∙ ap (λ (n : ℕ). get_or (b ∷ bs) n 0) (sym e)

-- ---- the row

row_snoc : (r : ℕ) (bs : List ℕ) (b : ℕ) → row_from r (bs ++ (b ∷ [])) ≡ row_from r bs * 2 + b
row_snoc r [] b = refl
row_snoc r (c ∷ bs) b = row_snoc (r * 2 + c) bs b

-- one byte more
pub row_more : (bs : List ℕ) (i row x : ℕ) → i < length bs → row ≡ row_from 0 (take i bs) → x ≡ get_or bs i 0
    → row * 2 + x ≡ row_from 0 (take (i + 1) bs)
row_more bs i row x h e d = rw (e, d, add-one i, take-suc bs i 0 h) (sym (row_snoc 0 (take i bs) (get_or bs i 0)))

-- a row of the first bytes is below 64, and so is the whole row (specs/Inputs, `row_in_word`)
module _ (o : Bool) (bs : List ℕ) (fit : lut_inputs bs ≡ true) where
  pub byte_lt : (i : ℕ) → get_or (read_in o bs) i 0 < 2
  byte_lt i = bits_at i (read_bits o bs (fit_bits bs fit))

  pub part_lt : (i : ℕ) → row_from 0 (take i (read_in o bs)) < 64
  part_lt i =
      let short : length (take i (read_in o bs)) ≤ 6 = omega (arith, length-take i (read_in o bs), read_length o bs, fit_length bs fit) in
      omega (arith, row_lt (bits_take i (read_bits o bs (fit_bits bs fit))), pow_mono short)
