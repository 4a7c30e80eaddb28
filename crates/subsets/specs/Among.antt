-- A word is among those of a mask if each of its bits is one of the mask's.
use Rattle.std.specs.Prelude.{ℕ, ◌/◌, ◌%◌, ◌^◌, ◌≤◌, ◌<◌, min, ◌≡◌}
use Rattle.std.proofs.Common.{sym, ap, ◌∙◌, arith}
use Rattle.std.specs.Int.Bits.{bit_and, and_step, and_zero_l, and_lt}
use Rattle.std.proofs.lemmas.Nat.{and_le_r}
use Rattle.meaning.specs.Rules.Words.{bit_at}
use Rattle.bits.specs.Bit.{bit_and_lem, bit_ext}

abbrev pub Among : ℕ → ℕ → Type 0
Among mask x = bit_and x mask ≡ x

-- 0 is the lowest, and none is above the mask
pub none_among : (mask : ℕ) → Among mask 0
none_among mask = and_zero_l mask

pub among_le : (mask x : ℕ) → Among mask x → x ≤ mask
among_le mask x h = omega (arith, and_le_r x mask, h)

-- ---- bit by bit
pub among_bit : (mask x j : ℕ) → Among mask x → bit_at x j ≤ bit_at mask j
among_bit mask x j h =
    let e : bit_at x j ≡ min (bit_at x j) (bit_at mask j) = ap (λ (y : ℕ). bit_at y j) (sym h) ∙ bit_and_lem x mask j in
    omega (arith, e)

pub bits_among : (w mask x : ℕ) → mask < 2 ^ w → x < 2 ^ w → ((j : ℕ) → j < w → bit_at x j ≤ bit_at mask j) → Among mask x
bits_among w mask x hm hx h =
    bit_ext w (bit_and x mask) x (and_lt w x mask hx hm) hx (λ j l. let low = h j l in let both = bit_and_lem x mask j in omega arith)

-- a word cut to the mask is among them
pub cut_among : (w mask x : ℕ) → mask < 2 ^ w → x < 2 ^ w → Among mask (bit_and x mask)
cut_among w mask x hm hx =
    bits_among w mask (bit_and x mask) hm (and_lt w x mask hx hm) (λ j l. let both = bit_and_lem x mask j in omega arith)

-- ---- half of it
pub half_among : (mask x : ℕ) → Among mask x → Among (mask / 2) (x / 2)
half_among mask x h = omega (arith, and_step x mask, h)

pub low_among : (mask x : ℕ) → Among mask x → x % 2 ≤ mask % 2
low_among mask x h = omega (arith, and_step x mask, h)
