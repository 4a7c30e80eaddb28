-- Words byte by byte: one law for each thing that the code meets on its way through a text.
use Rattle.std.specs.Prelude.{ℕ, ◌+◌, ◌-◌, ◌/◌, ◌≤◌, ◌<◌, ◌≡◌, true, false, List, length, drop, get_or, leb, Ok, None}
use Rattle.std.proofs.Common.{sym, ◌∙◌, arith, drop_of_length-le, drop-cons, le-leb, leb-true}
use Rattle.std.proofs.Math.Bool.{and-false, and-eq-true_iff}
use Rattle.std.proofs.Math.Numerals.{add-one}
use Rattle.std.proofs.lemmas.Bool.{lt-leb}
use Rattle.std.proofs.Math.Decide.{dec_le}
use Rattle.decimals.specs.Words.{word_of, bad_at, found, is_blank, is_digit, with_digit, largest, extends, number, word}

-- ---- one byte at a time, as a loop goes through the text

module _ (text : List ℕ) (i : ℕ) where
  pub word_end : length text ≤ i → word i (drop i text) ≡ Ok None
  unfolding word
  word_end h = rw (drop_of_length-le text h)

  pub word_blank : i < length text → is_blank (get_or text i 0) ≡ true → word i (drop i text) ≡ word (i + 1) (drop (i + 1) text)
  unfolding word
  word_blank h b = rw (drop-cons text i 0 h, b, add-one i)

  pub word_number : i < length text → is_blank (get_or text i 0) ≡ false → word i (drop i text) ≡ found (number 0 i (drop i text))
  unfolding word
  word_number h b = rw (drop-cons text i 0 h, b)

  pub number_end : (v : ℕ) → length text ≤ i → number v i (drop i text) ≡ Ok (word_of v i)
  unfolding number
  number_end v h = rw (drop_of_length-le text h)

  pub number_blank : (v : ℕ) → i < length text → is_blank (get_or text i 0) ≡ true → number v i (drop i text) ≡ Ok (word_of v i)
  unfolding number
  number_blank v h b = rw (drop-cons text i 0 h, b)

  pub number_bad : (v : ℕ) → i < length text → is_blank (get_or text i 0) ≡ false → extends v (get_or text i 0) ≡ false
      → number v i (drop i text) ≡ bad_at i
  unfolding number
  number_bad v h b e = rw (drop-cons text i 0 h, b, e)

  pub number_more : (v : ℕ) → i < length text → is_blank (get_or text i 0) ≡ false → extends v (get_or text i 0) ≡ true
      → number v i (drop i text) ≡ number (with_digit v (get_or text i 0)) (i + 1) (drop (i + 1) text)
  unfolding number
  number_more v h b e = rw (drop-cons text i 0 h, b, e, add-one i)

-- ---- one byte

pub extends_low : (v b : ℕ) → b < 48 → extends v b ≡ false
unfolding extends is_digit
extends_low v b h = rw (lt-leb 48 b h)

pub extends_high : (v b : ℕ) → 57 < b → extends v b ≡ false
unfolding extends is_digit
extends_high v b h = rw (lt-leb b 57 h, and-false (leb 48 b))

-- the test turned round, as it can be made without wrapping
pub extends_digit : (v b : ℕ) → 48 ≤ b → b ≤ 57 → extends v b ≡ leb v ((largest - (b - 48)) / 10)
unfolding extends is_digit
extends_digit v b lo hi = rw (le-leb 48 b lo, le-leb b 57 hi) (go (dec_le v ((largest - (b - 48)) / 10)))
  where
    go : Dec (v ≤ (largest - (b - 48)) / 10) → leb (with_digit v b) largest ≡ leb v ((largest - (b - 48)) / 10)
    go (yes h) = le-leb (with_digit v b) largest (omega arith) ∙ sym (le-leb v ((largest - (b - 48)) / 10) h)
    go (no h) = lt-leb (with_digit v b) largest (omega arith) ∙ sym (lt-leb v ((largest - (b - 48)) / 10) (omega arith))

pub record Extends (v b : ℕ) : Type 0 where
  pub low : 48 ≤ b
  pub high : b ≤ 57
  pub small : with_digit v b ≤ largest

pub digit_is : (b : ℕ) → is_digit b ≡ true → (48 ≤ b) × (b ≤ 57)
unfolding is_digit
digit_is b h = let both = (and-eq-true_iff (leb 48 b) (leb b 57)).0 h in (leb-true 48 b both.0, leb-true b 57 both.1)

pub extends_is : (v b : ℕ) → extends v b ≡ true → Extends v b
unfolding extends
extends_is v b h =
    let both = (and-eq-true_iff (is_digit b) (leb (with_digit v b) largest)).0 h in
    let digit = digit_is b both.0 in
    record { low = digit.0; high = digit.1; small = leb-true (with_digit v b) largest both.1 }

pub extends_fits : (v b : ℕ) → is_digit b ≡ true → with_digit v b ≤ largest → extends v b ≡ true
unfolding extends
extends_fits v b d h = rw (d, le-leb (with_digit v b) largest h)
