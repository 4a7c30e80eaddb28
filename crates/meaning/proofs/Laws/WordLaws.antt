-- Bits of a word: a bit is 0 or 1, a word cut to w bits keeps those below w, and a word of two parts has the bits of both.
-- (What and, or, xor, complement and the shifts do bit by bit is in the crate `bits`.)
use Rattle.std.specs.Prelude.{ℕ, ◌+◌, ◌-◌, ◌*◌, ◌/◌, ◌%◌, ◌^◌, ◌≤◌, ◌<◌, ◌≡◌}
use Rattle.std.proofs.Common.{sym, ap, subst, ◌∙◌, mod-lt, lt_of_lt_of_le, arith, pow_mono, shr-shr}
use Rattle.std.proofs.Math.Nat.{div-eq_of_lt}
use Rattle.std.proofs.Math.Pow.{high, low, field, mod-mod-pow}
use Rattle.meaning.specs.Rules.Words.{bit_at}

pub bit_lt : (p i : ℕ) → bit_at p i < 2
bit_lt p i = mod-lt (p / 2 ^ i) (omega arith)

-- a word keeps its bits below w when it is cut to w bits
pub bit_mod : (x w j : ℕ) → j < w → bit_at (x % 2 ^ w) j ≡ bit_at x j
bit_mod x w j h =
    sym (field (x % 2 ^ w) 1 j) ∙ ap (λ (y : ℕ). y / 2 ^ j) window ∙ field x 1 j
  where
    window : x % 2 ^ w % 2 ^ (1 + j) ≡ x % 2 ^ (1 + j)
    window =
        subst (λ (m : ℕ). x % 2 ^ m % 2 ^ (1 + j) ≡ x % 2 ^ (1 + j)) (omega arith) (mod-mod-pow x (w - (1 + j)) (1 + j))

-- a word of w bits has none from w on
pub bit_above : (x w j : ℕ) → x < 2 ^ w → w ≤ j → bit_at x j ≡ 0
bit_above x w j h k = ap (λ (y : ℕ). y % 2) (div-eq_of_lt (lt_of_lt_of_le h (pow_mono k)))

-- the bits of the lower part, and of the upper
pub bit_low : (hi lo n i : ℕ) → lo < 2 ^ n → i < n → bit_at (hi * 2 ^ n + lo) i ≡ bit_at lo i
bit_low hi lo n i h k = sym (bit_mod (hi * 2 ^ n + lo) n i k) ∙ ap (λ (x : ℕ). bit_at x i) (low hi n h)

pub bit_high : (hi lo n i : ℕ) → lo < 2 ^ n → bit_at (hi * 2 ^ n + lo) (n + i) ≡ bit_at hi i
bit_high hi lo n i h =
    ap (λ (x : ℕ). x % 2) (sym (shr-shr (hi * 2 ^ n + lo) n i)) ∙ ap (λ (x : ℕ). x / 2 ^ i % 2) (high hi n h)
