-- The next word among those of a mask: minus what x lacks of the mask, cut to the mask. By induction on the width: where
-- the lowest bit of the mask is there and x lacks it, it is added; else the lowest bit goes out and the next is that of the
-- halves.
use Rattle.std.specs.Prelude.{ℕ, zero, suc, ◌+◌, ◌-◌, ◌*◌, ◌/◌, ◌%◌, ◌^◌, ◌≤◌, ◌<◌, min, ◌≡◌}
use Rattle.std.proofs.Common.{sym, subst, pow-suc, arith}
use Rattle.std.proofs.Math.Decide.{dec_lt}
use Rattle.std.specs.Int.Bits.{bit_and, and_step}
use Rattle.std.proofs.lemmas.Nat.{and_le_l}
use Rattle.subsets.specs.Among.{Among, among_le, cut_among, half_among, low_among}

-- the lowest word above x among those of the mask
pub record IsNext (mask x r : ℕ) : Type 0 where
  pub among : Among mask r
  pub above : x < r
  pub least : (y : ℕ) → Among mask y → x < y → r ≤ y

-- there is only one
pub next_only : (mask x : ℕ) {r r' : ℕ} → IsNext mask x r → IsNext mask x r' → r ≡ r'
next_only mask x {r} {r'} a b = omega (arith, a.least r' b.among b.above, b.least r a.among a.above)

-- d is what x lacks of the mask, and a its complement, w wide: cut to the mask, a is x itself
cut_back : (w mask x d a : ℕ) → mask < 2 ^ w → mask ≡ x + d → a + d + 1 ≡ 2 ^ w → Among mask x → bit_and a mask ≡ x
cut_back zero mask x d a small lack whole h = omega (arith, among_le mask x h, and_le_l a mask, whole, small)
cut_back (suc w) mask x d a small lack whole h =
    let p : 2 ^ suc w ≡ 2 ^ w * 2 = pow-suc 2 w in
    let low : x % 2 ≤ mask % 2 = low_among mask x h in
    let rest : bit_and (a / 2) (mask / 2) ≡ x / 2 = cut_back w (mask / 2) (x / 2) (d / 2) (a / 2) (omega (arith, small, p)) (omega (arith, lack, low)) (omega (arith, whole, p)) (half_among mask x h) in
    let bit : min (a % 2) (mask % 2) ≡ x % 2 = omega (arith, whole, p, lack, low) in
    omega (arith, and_step a mask, rest, bit)

-- the next word's place among the others
abbrev Follows : ℕ → ℕ → ℕ → Type 0
Follows mask x r = (x < r) × ((y : ℕ) → Among mask y → x < y → r ≤ y)

module _ (mask x : ℕ) (inside : Among mask x) where
  -- the mask's lowest bit is added
  follows_one : x % 2 < mask % 2 → Follows mask x (x + 1)
  follows_one h = (omega arith, λ y i l. omega arith)

  -- or goes out
  follows_half : (r : ℕ) → x % 2 ≡ mask % 2 → Follows (mask / 2) (x / 2) r → Follows mask x (r * 2)
  follows_half r e f = (omega (arith, f.0), λ y i l. later y i l)
    where
      later : (y : ℕ) → Among mask y → x < y → r * 2 ≤ y
      later y i l =
          let low : y % 2 ≤ mask % 2 = low_among mask y i in
          let higher : x / 2 < y / 2 = omega (arith, low, l, e) in
          omega (arith, f.1 (y / 2) (half_among mask y i) higher)

-- a is minus what x lacks of the mask, w wide
follows : (w mask x d a : ℕ) → mask < 2 ^ w → mask ≡ x + d → a + d ≡ 2 ^ w → 0 < d → Among mask x → Follows mask x (bit_and a mask)
follows zero mask x d a small lack whole some h = absurd (omega (arith, some, small, lack))
follows (suc w) mask x d a small lack whole some h =
    elim (dec_lt (x % 2) (mask % 2)) [
      | yes k ↦ one k
      | no k ↦
          let e : x % 2 ≡ mask % 2 = omega (arith, k, low_among mask x h) in
          half e (follows w (mask / 2) (x / 2) (d / 2) (a / 2) (omega (arith, small, p)) (omega (arith, lack, e)) (omega (arith, whole, p, lack, e)) (omega (arith, some, lack, e)) (half_among mask x h))
    ]
  where
    p : 2 ^ suc w ≡ 2 ^ w * 2
    p = pow-suc 2 w

    one : x % 2 < mask % 2 → Follows mask x (bit_and a mask)
    one k =
        let rest : bit_and (a / 2) (mask / 2) ≡ x / 2 = cut_back w (mask / 2) (x / 2) (d / 2) (a / 2) (omega (arith, small, p)) (omega (arith, lack, k)) (omega (arith, whole, p, lack, k)) (half_among mask x h) in
        let bit : min (a % 2) (mask % 2) ≡ 1 = omega (arith, whole, p, lack, k) in
        let next : bit_and a mask ≡ x + 1 = omega (arith, and_step a mask, rest, bit, k) in
        subst (Follows mask x) (sym next) (follows_one mask x h k)

    half : x % 2 ≡ mask % 2 → Follows (mask / 2) (x / 2) (bit_and (a / 2) (mask / 2)) → Follows mask x (bit_and a mask)
    half e f =
        let lacked : d % 2 ≡ 0 = omega (arith, lack, e) in
        let even : a % 2 ≡ 0 = omega (arith, whole, p, lacked) in
        let bit : min (a % 2) (mask % 2) ≡ 0 = omega (arith, even) in
        let next : bit_and a mask ≡ bit_and (a / 2) (mask / 2) * 2 = omega (arith, and_step a mask, bit) in
        subst (Follows mask x) (sym next) (follows_half mask x h (bit_and (a / 2) (mask / 2)) e f)

pub next_is : (w mask x a : ℕ) → mask < 2 ^ w → Among mask x → x < mask → a + (mask - x) ≡ 2 ^ w → IsNext mask x (bit_and a mask)
next_is w mask x a small h l whole =
    let f = follows w mask x (mask - x) a small (omega (arith, l)) whole (omega (arith, l)) h in
    record { among = cut_among w mask a small (omega (arith, whole, l)); above = f.0; least = f.1 }
