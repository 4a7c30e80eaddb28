-- Bit j of a word, and what each operation on words does to it: one law for each operation, over every j. And, or and xor of
-- bits are min, max and differ; `ones w - x` is the complement of x, w wide; `x / 2 ^ k` and `x * 2 ^ k % 2 ^ w` are the shifts.
use Rattle.std.specs.Prelude.{◌≡◌, ℕ, zero, suc, ◌+◌, ◌-◌, ◌*◌, ◌/◌, ◌%◌, ◌^◌, ◌≤◌, ◌<◌, min, max}
use Rattle.std.proofs.Common.{sym, ap, ◌∙◌, pow-suc, mod-lt, add-zero, arith, pow_pos, shr-shr}
use Rattle.std.proofs.Math.Nat.{zero-div}
use Rattle.std.proofs.Math.Decide.{dec_lt}
use Rattle.std.specs.Int.Bits.{bit_and, bit_or, bit_xor, differ, and_step, or_step, xor_step, and_lt}
use Rattle.std.proofs.lemmas.Nat.{and_shr, or_shr, xor_shr, or_lt}
use Rattle.meaning.specs.Rules.Words.{bit_at, ones}
use Rattle.meaning.proofs.Laws.WordLaws.{bit_mod, bit_above, bit_low, bit_high}

-- ---- and, or, xor

-- the low digit of a step
low : (q r : ℕ) → r < 2 → (q * 2 + r) % 2 ≡ r
low q r h = omega arith

min_lt : (a b : ℕ) → min (a % 2) (b % 2) < 2
min_lt a b = omega arith

max_lt : (a b : ℕ) → max (a % 2) (b % 2) < 2
max_lt a b = omega arith

differ_lt : (a b : ℕ) → a < 2 → b < 2 → differ a b < 2
differ_lt zero b ha hb = hb
differ_lt (suc zero) zero ha hb = ha
differ_lt (suc zero) (suc b) ha hb = omega arith
differ_lt (suc (suc a)) zero ha hb = ha
differ_lt (suc (suc a)) (suc b) ha hb = absurd (omega arith)

pub bit_and_lem : (x y j : ℕ) → bit_at (bit_and x y) j ≡ min (bit_at x j) (bit_at y j)
bit_and_lem x y j =
    ap (λ (z : ℕ). z % 2) (and_shr x y j ∙ and_step (x / 2 ^ j) (y / 2 ^ j)) ∙ low _ _ (min_lt (x / 2 ^ j) (y / 2 ^ j))

pub bit_or_lem : (x y j : ℕ) → bit_at (bit_or x y) j ≡ max (bit_at x j) (bit_at y j)
bit_or_lem x y j =
    ap (λ (z : ℕ). z % 2) (or_shr x y j ∙ or_step (x / 2 ^ j) (y / 2 ^ j)) ∙ low _ _ (max_lt (x / 2 ^ j) (y / 2 ^ j))

pub bit_xor_lem : (x y j : ℕ) → bit_at (bit_xor x y) j ≡ differ (bit_at x j) (bit_at y j)
bit_xor_lem x y j =
    ap (λ (z : ℕ). z % 2) (xor_shr x y j ∙ xor_step (x / 2 ^ j) (y / 2 ^ j))
    ∙ low _ _ (differ_lt (x / 2 ^ j % 2) (y / 2 ^ j % 2) (omega arith) (omega arith))

-- ---- the shifts

pub bit_shr : (x k j : ℕ) → bit_at (x / 2 ^ k) j ≡ bit_at x (k + j)
bit_shr x k j = ap (λ (z : ℕ). z % 2) (shr-shr x k j)

pub bit_suc : (x j : ℕ) → bit_at x (suc j) ≡ bit_at (x / 2) j
bit_suc x j = let e : 1 + j ≡ suc j = omega arith in rw (← e) (sym (bit_shr x 1 j))

pub bit_zero : (j : ℕ) → bit_at 0 j ≡ 0
bit_zero j = ap (λ (z : ℕ). z % 2) (zero-div (2 ^ j))

-- below k nothing is left, also where k is past the width
pub bit_shl_low : (x k w j : ℕ) → j < k → bit_at (x * 2 ^ k % 2 ^ w) j ≡ 0
bit_shl_low x k w j h = elim (dec_lt j w) [
  | yes l ↦ bit_mod (x * 2 ^ k) w j l ∙ ap (λ (z : ℕ). bit_at z j) (sym (add-zero (x * 2 ^ k))) ∙ bit_low x 0 k j (pow_pos k) h ∙ bit_zero j
  | no l ↦ bit_above (x * 2 ^ k % 2 ^ w) w j (mod-lt (x * 2 ^ k) (pow_pos w)) (omega arith)
]

pub bit_shl : (x k w j : ℕ) → k ≤ j → j < w → bit_at (x * 2 ^ k % 2 ^ w) j ≡ bit_at x (j - k)
bit_shl x k w j h l =
    let e : k + (j - k) ≡ j = omega arith in
    bit_mod (x * 2 ^ k) w j l
    ∙ ap (λ (z : ℕ). bit_at z j) (sym (add-zero (x * 2 ^ k)))
    ∙ ap (bit_at (x * 2 ^ k + 0)) (sym e)
    ∙ bit_high x 0 k (j - k) (pow_pos k)

-- ---- the complement, and words by their bits

pub bit_not : (w x j : ℕ) → x < 2 ^ w → j < w → bit_at (ones w - x) j ≡ 1 - bit_at x j
bit_not zero x j hx hj = absurd (omega arith)
bit_not (suc w) x zero hx hj =
    let p : 2 ^ suc w ≡ 2 ^ w * 2 = pow-suc 2 w in
    omega arith
bit_not (suc w) x (suc j) hx hj =
    let p : 2 ^ suc w ≡ 2 ^ w * 2 = pow-suc 2 w in
    let half : (2 ^ suc w - 1 - x) / 2 ≡ 2 ^ w - 1 - x / 2 = omega arith in
    bit_suc (2 ^ suc w - 1 - x) j
    ∙ ap (λ (z : ℕ). bit_at z j) half
    ∙ bit_not w (x / 2) j (omega arith) (omega arith)
    ∙ ap (λ (z : ℕ). 1 - z) (sym (bit_suc x j))

-- words of w bits whose bits are the same are the same
pub bit_ext : (w x y : ℕ) → x < 2 ^ w → y < 2 ^ w → ((j : ℕ) → j < w → bit_at x j ≡ bit_at y j) → x ≡ y
bit_ext zero x y hx hy h = omega arith
bit_ext (suc w) x y hx hy h =
    let p : 2 ^ suc w ≡ 2 ^ w * 2 = pow-suc 2 w in
    let q : x / 2 ≡ y / 2 = bit_ext w (x / 2) (y / 2) (omega arith) (omega arith)
    (λ j l. sym (bit_suc x j) ∙ h (suc j) (omega arith) ∙ bit_suc y j) in
    let r = h 0 (omega arith) in
    omega arith

-- the complement stays within the width
pub not_lt : (w x : ℕ) → ones w - x < 2 ^ w
not_lt w x = omega (arith, pow_pos w)

-- De Morgan: the and of two complements is the complement of the or
pub not_or : (w x y : ℕ) → x < 2 ^ w → y < 2 ^ w → bit_and (ones w - x) (ones w - y) ≡ ones w - bit_or x y
not_or w x y hx hy =
    bit_ext w (bit_and (ones w - x) (ones w - y)) (ones w - bit_or x y)
    (and_lt w (ones w - x) (ones w - y) (not_lt w x) (not_lt w y)) (not_lt w (bit_or x y))
    (λ j h.
    let l = bit_and_lem (ones w - x) (ones w - y) j in
    let a = bit_not w x j hx h in
    let b = bit_not w y j hy h in
    let o = bit_or_lem x y j in
    let r = bit_not w (bit_or x y) j (or_lt w x y hx hy) h in
    omega arith)
