-- How wide an answer is. The operators count on values that their widths hold; each law says that an operator keeps that.
use Rattle.std.specs.Prelude.{ℕ, suc, ◌+◌, ◌-◌, ◌*◌, ◌^◌, ◌≤◌, ◌<◌, ◌≡◌, refl, List, [], ◌∷◌, Bool, true, false, cond, length, ltb, eqb}
use Rattle.std.proofs.Common.{sym, ap, subst, ◌∙◌, pow-suc, lt_of_lt_of_le, zero-add, arith, pow_pos, pow_mono, ltb-true}
use Rattle.std.specs.Int.Bits.{and_lt}
use Rattle.std.proofs.lemmas.Nat.{xor_lt}
use Rattle.meaning.specs.declared.Failure.{Failure}
use Rattle.meaning.specs.declared.Failure.TheVariants.{Undriven}
use Rattle.meaning.specs.declared.Answer.{Answer}
use Rattle.meaning.specs.declared.Answer.TheVariants.{Value, Failed}
use Rattle.meaning.specs.Rules.Limits.{widest_bus}
use Rattle.meaning.specs.Rules.Words.{ones}
use Rattle.meaning.specs.Rules.Answers.{undriven_byte, driven, zeros_or, and_of, nor_of, xor_of, not_of, mux_of, row_bit, bus_of, nth}
use Rattle.bits.specs.Bit.{not_lt, not_or}

-- a failure, or a value of width w that w bits hold
abbrev pub Within : ℕ → Answer → Type 0
Within w (Value u v) = (u ≡ w) × (v < 2 ^ w)
Within w (Failed f) = Unit

-- a failure, or a value at most m wide that its width holds
abbrev pub Held : ℕ → Answer → Type 0
Held m (Value w v) = (w ≤ m) × (v < 2 ^ w)
Held m (Failed f) = Unit

-- two answers of one width that a word holds
pub record Alike (x y : Answer) : Type 0 where
  pub width : ℕ
  pub narrow : width ≤ widest_bus
  pub left : Within width x
  pub right : Within width y

pub held : (w m : ℕ) (x : Answer) → w ≤ m → Within w x → Held m x
held w m (Value u v) h (e, l) = (omega arith, subst (λ (k : ℕ). v < 2 ^ k) (sym e) l)
held w m (Failed f) h i = tt

pub held_more : (m n : ℕ) (x : Answer) → m ≤ n → Held m x → Held n x
held_more m n (Value w v) h (l, s) = (omega arith, s)
held_more m n (Failed f) h i = tt

-- the value of an answer so held
pub held_value : (m w v : ℕ) (x : Answer) → Held m x → x ≡ Value w v → (w ≤ m) × (v < 2 ^ w)
held_value m w v x h e = subst (Held m) e h

-- a value at most m wide is below 2 ^ m
pub held_lt : (m w v : ℕ) (x : Answer) → Held m x → x ≡ Value w v → v < 2 ^ m
held_lt m w v x h e = let p = held_value m w v x h e in lt_of_lt_of_le p.1 (pow_mono p.0)

-- ---- "Nor is the complement of or": the And of the complements
pub nor_is : (x y : Answer) → Alike x y → and_of (not_of x) (not_of y) ≡ nor_of x y
nor_is (Value w x) (Value u y) a =
    let hx : x < 2 ^ w = rw (← a.left.0) at a.left.1 in
    let hy : y < 2 ^ w = rw (← a.left.0) at a.right.1 in
    let e : u ≡ w = a.right.0 ∙ sym a.left.0 in
    rw e (ap (Value w) (not_or w x y hx hy))
nor_is (Value w x) (Failed g) a = refl
nor_is (Failed f) (Value u y) a = refl
nor_is (Failed f) (Failed g) a = refl

-- a failing first operand leaves, whatever the second
pub xor_first : (f : Failure) (y : Answer) → xor_of (Failed f) y ≡ Failed f
xor_first f (Value u y) = refl
xor_first f (Failed g) = refl

-- ---- the operators keep the width
zeros_within : (w u x : ℕ) (f : Failure) → u ≡ w → Within w (zeros_or u x f)
zeros_within w u x f e = go (eqb x 0)
  where
    go : (b : Bool) → Within w (cond b (Value u 0) (Failed f))
    go true = (e, pow_pos w)
    go false = tt

pub and_within : (w : ℕ) (x y : Answer) → Within w x → Within w y → Within w (and_of x y)
and_within w (Value u x) (Value v y) (e, h) (d, l) = (e, and_lt w x y h l)
and_within w (Value u x) (Failed g) (e, h) i = zeros_within w u x g e
and_within w (Failed f) (Value v y) i (d, l) = zeros_within w v y f d
and_within w (Failed f) (Failed g) i j = tt

pub xor_within : (w : ℕ) (x y : Answer) → Within w x → Within w y → Within w (xor_of x y)
xor_within w (Value u x) (Value v y) (e, h) (d, l) = (e, xor_lt w x y h l)
xor_within w (Value u x) (Failed g) i j = tt
xor_within w (Failed f) (Value v y) i j = tt
xor_within w (Failed f) (Failed g) i j = tt

pub not_within : (w : ℕ) (x : Answer) → Within w x → Within w (not_of x)
not_within w (Value u x) (e, h) = (e, subst (λ (k : ℕ). ones k - x < 2 ^ w) (sym e) (not_lt w x))
not_within w (Failed f) i = tt

pub nor_within : (w : ℕ) (x y : Answer) → w ≤ widest_bus → Within w x → Within w y → Within w (nor_of x y)
nor_within w x y h p q =
    subst (Within w) (nor_is x y (record { width = w; narrow = h; left = p; right = q }))
    (and_within w (not_of x) (not_of y) (not_within w x p) (not_within w y q))

pub mux_within : (w : ℕ) (s x y : Answer) → Within w x → Within w y → Within w (mux_of s x y)
mux_within w (Value u s) x y p q = go (eqb s 0)
  where
    go : (b : Bool) → Within w (cond b y x)
    go true = q
    go false = p
mux_within w (Failed f) x y p q = tt

pub row_within : (p : ℕ) (r : Answer) → Within 1 (row_bit p r)
row_within p (Value w r) = (refl, omega arith)
row_within p (Failed f) = tt

pub driven_within : (b : ℕ) → Within 1 (driven b)
driven_within b = go (ltb b undriven_byte) refl
  where
    go : (t : Bool) → ltb b undriven_byte ≡ t → Within 1 (cond t (Value 1 b) (Failed Undriven))
    go true e = (refl, ltb-true b undriven_byte e)
    go false e = tt

-- ---- one bit more: a row of the Lut, a member of the Bus
pub double_lt : (w r x : ℕ) → r < 2 ^ w → x < 2 → r * 2 + x < 2 ^ suc w
double_lt w r x h l = let p : 2 ^ suc w ≡ 2 ^ w * 2 = pow-suc 2 w in omega arith

pub bus_held : (m : ℕ) (r x : Answer) → Held m r → Held 1 x → Held (suc m) (bus_of r (x ∷ []))
bus_held m (Value w r) (Value u x) (h, l) (k, s) = (omega arith, double_lt w r x l (lt_of_lt_of_le s (pow_mono k)))
bus_held m (Value w r) (Failed g) h k = tt
bus_held m (Failed f) (Value u x) h k = tt
bus_held m (Failed f) (Failed g) h k = tt

member_within : (w : ℕ) (r x : Answer) → Within w r → Within 1 x → Within (suc w) (bus_of r (x ∷ []))
member_within w (Value v r) (Value u x) (e, h) (d, l) = (ap suc e, double_lt w r x h l)
member_within w (Value v r) (Failed g) h k = tt
member_within w (Failed f) (Value u x) h k = tt
member_within w (Failed f) (Failed g) h k = tt

-- a fold over the members goes one by one
pub bus_cons : (r x : Answer) (xs : List Answer) → bus_of r (x ∷ xs) ≡ bus_of (bus_of r (x ∷ [])) xs
bus_cons (Value w r) (Value u x) xs = refl
bus_cons (Value w r) (Failed g) xs = refl
bus_cons (Failed f) (Value u x) xs = refl
bus_cons (Failed f) (Failed g) xs = refl

-- a Bus of bits is as wide as its members are many
pub bus_within : (xs : List Answer) (w : ℕ) (r : Answer) → Within w r → ((i : ℕ) → i < length xs → Within 1 (nth xs i))
    → Within (length xs + w) (bus_of r xs)
bus_within [] w r h k = subst (λ (m : ℕ). Within m r) (sym (zero-add w)) h
bus_within (x ∷ xs) w r h k =
    let e : length xs + suc w ≡ suc (length xs) + w = omega arith in
    subst (λ (m : ℕ). Within m (bus_of r (x ∷ xs))) e
    (rw (bus_cons r x xs) (bus_within xs (suc w) (bus_of r (x ∷ [])) (member_within w r x h (k 0 (omega arith))) (λ i l. k (suc i) (omega arith))))
