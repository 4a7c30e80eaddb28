-- "bit v drives variable v, for 2^n assignments": an assignment of the n declared variables, and the same with its run bits
-- cleared, told by the bits of their numbers.
use Rattle.std.specs.Prelude.{ℕ, zero, suc, min, ◌-◌, ◌/◌, ◌^◌, ◌≤◌, ◌<◌, ◌≡◌, refl, List, [], ◌∷◌, ◌++◌, Bool, true, false, cond, length, eqb}
use Rattle.std.proofs.Common.{sym, ap, ◌∙◌, arith, shr-shr, eq-eqb, lt-ltb, le-ltb}
use Rattle.std.proofs.Math.Path.{fun_ext}
use Rattle.std.proofs.Math.Decide.{dec_lt}
use Rattle.std.specs.Int.Bits.{bit_and}
use Rattle.meaning.specs.Rules.Words.{bit_at, ones}
use Rattle.meaning.specs.Rules.Assignments.{drive, upto, is_in}
use Rattle.meaning.specs.Rules.Separation.{is_marked, run_cleared}
use Rattle.meaning.proofs.Laws.BoolLaws.{true_false}
use Rattle.meaning.proofs.Laws.WordLaws.{bit_above}
use Rattle.meaning.proofs.Laws.AssignmentLaws.{drive_other, in_upto, upto_length}
use Rattle.bits.specs.Bit.{bit_and_lem, bit_not}

-- ---- variables in front of others, and behind them
drive_before : (xs ys : List ℕ) (i v : ℕ) → is_in v xs ≡ true → drive (xs ++ ys) i v ≡ drive xs i v
drive_before [] ys i v h = absurd (true_false h refl)
drive_before (x ∷ xs) ys i v h = go (eqb v x) refl (drive_before xs ys (i / 2) v)
  where
    go : (b : Bool) → eqb v x ≡ b → (is_in v xs ≡ true → drive (xs ++ ys) (i / 2) v ≡ drive xs (i / 2) v)
        → drive (x ∷ (xs ++ ys)) i v ≡ drive (x ∷ xs) i v
    go true e ih = rw e
    go false e ih = rw e (ih (rw e at h))

drive_behind : (xs ys : List ℕ) (i v : ℕ) → is_in v xs ≡ false → drive (xs ++ ys) i v ≡ drive ys (i / 2 ^ length xs) v
drive_behind [] ys i v h = ap (λ (k : ℕ). drive ys k v) (omega arith)
drive_behind (x ∷ xs) ys i v h = go (eqb v x) refl (drive_behind xs ys (i / 2) v)
  where
    go : (b : Bool) → eqb v x ≡ b → (is_in v xs ≡ false → drive (xs ++ ys) (i / 2) v ≡ drive ys (i / 2 / 2 ^ length xs) v)
        → drive (x ∷ (xs ++ ys)) i v ≡ drive ys (i / 2 ^ suc (length xs)) v
    go true e ih = absurd (true_false (rw e refl) h)
    go false e ih = rw e (ih (rw e at h) ∙ ap (λ (k : ℕ). drive ys k v) (shr-shr i 1 (length xs) ∙ ap (λ (k : ℕ). i / 2 ^ k) (omega arith)))

-- "bit v drives variable v"
pub driven_at : (n i v : ℕ) → v < n → drive (upto n) i v ≡ bit_at i v
driven_at zero i v h = absurd (omega arith)
driven_at (suc n) i v h = elim (dec_lt v n) [
  | yes k ↦ drive_before (upto n) (n ∷ []) i v (in_upto n v ∙ lt-ltb v n k) ∙ driven_at n i v k
  | no k ↦
      let e : v ≡ n = omega arith in
      drive_behind (upto n) (n ∷ []) i v (in_upto n v ∙ le-ltb v n (omega arith))
      ∙ rw (eq-eqb v n e, upto_length n, e) refl
]

pub undriven_at : (n i v : ℕ) → n ≤ v → drive (upto n) i v ≡ 2
undriven_at n i v h = drive_other (upto n) i v (in_upto n v ∙ le-ltb v n h)

-- "with its run bits cleared", as the assignment of another number
module _ (n run : ℕ) (below : run < 2 ^ n) where
  pub cleared_is : (i c : ℕ) → ((v : ℕ) → v < n → bit_at c v ≡ cond (is_marked run v) 0 (bit_at i v))
      → run_cleared run (drive (upto n) i) ≡ drive (upto n) c
  cleared_is i c bits = fun_ext (λ v. go v (dec_lt v n))
    where
      go : (v : ℕ) → Dec (v < n) → run_cleared run (drive (upto n) i) v ≡ drive (upto n) c v
      go v (yes h) = ap (λ (b : ℕ). cond (is_marked run v) 0 b) (driven_at n i v h) ∙ sym (bits v h) ∙ sym (driven_at n c v h)
      go v (no h) =
          let unmarked : is_marked run v ≡ false = ap (λ (b : ℕ). eqb b 1) (bit_above run n v below (omega arith)) in
          rw unmarked (undriven_at n i v (omega arith) ∙ sym (undriven_at n c v (omega arith)))

-- the word of i without its run bits, in words of 64 bits
pub without_bit : (i run v : ℕ) → run < 2 ^ 64 → v < 64 → bit_at (bit_and i (ones 64 - run)) v ≡ min (bit_at i v) (1 - bit_at run v)
without_bit i run v small h = bit_and_lem i (ones 64 - run) v ∙ ap (min (bit_at i v)) (bit_not 64 run v small h)
