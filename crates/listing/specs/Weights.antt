-- How much of the list can still come: a node that is not met yet can bring two entries, its Lut's Program and itself;
-- one on the path can bring itself; one with a number none. So the entries never outgrow their columns, and every turn of
-- the walk but one to the next child takes something away.
use Prim.Native.Nat.{ℕ, zero, suc, ◌+◌, ◌*◌, ◌≤◌, ◌<◌}
use Rattle.std.specs.Prelude.{◌≡◌, ◌≢◌, List, Bool, true, false, cond, eqb}
use Rattle.std.proofs.Math.Path.{refl, ap, ap₂, subst}
use Rattle.std.proofs.Common.{sym}
use native.Mathlib.Omega.{arith}
use Rattle.std.proofs.Math.Decide.{ℕ_discrete}
use Rattle.columns.specs.Columns.{cell, number_column}

abbrev pub weight : ℕ → ℕ
weight number = cond (eqb number 0) 2 (cond (eqb number 1) 1 0)

unfoldable pub weights : List ℕ → ℕ → ℕ
weights work zero = 0
weights work (suc i) = weights work i + weight (cell work number_column i)

module _ (work left : List ℕ) where
  pub weights_same : (n : ℕ) → ((i : ℕ) → i < n → cell left number_column i ≡ cell work number_column i) → weights left n ≡ weights work n
  unfolding weights
  weights_same zero e = refl
  weights_same (suc n) e = ap₂ (λ (a b : ℕ). a + weight b) (weights_same n (λ i h. e i (omega arith))) (e n (omega arith))

  -- one number is changed
  pub weights_changed : (n h : ℕ) → h < n → ((i : ℕ) → i < n → i ≢ h → cell left number_column i ≡ cell work number_column i)
      → weights left n + weight (cell work number_column h) ≡ weights work n + weight (cell left number_column h)
  unfolding weights
  weights_changed zero h l e = absurd (omega arith)
  weights_changed (suc n) h l e = elim (ℕ_discrete h n) [
    | yes q ↦
        let below : weights left n ≡ weights work n = weights_same n (λ i k. e i (omega arith) (λ r. absurd (omega arith))) in
        subst (λ (x : ℕ). weights left n + weight (cell left number_column n) + weight (cell work number_column x) ≡ weights work n + weight (cell work number_column n) + weight (cell left number_column x)) (sym q)
        (let a : ℕ = weight (cell left number_column n) in let b : ℕ = weight (cell work number_column n) in added (weights left n) (weights work n) a b below)
    | no q ↦
        let below = weights_changed n h (omega arith) (λ i k r. e i (omega arith) r) in
        let here : weight (cell left number_column n) ≡ weight (cell work number_column n) = ap weight (e n (omega arith) (λ r. q (sym r))) in
        between (weights left n) (weights work n) (weight (cell left number_column n)) (weight (cell work number_column n)) (weight (cell work number_column h)) (weight (cell left number_column h)) below here
  ]
    where
      added : (x y a b : ℕ) → x ≡ y → x + a + b ≡ y + b + a
      added x y a b e = omega arith

      between : (x y a b c d : ℕ) → x + c ≡ y + d → a ≡ b → x + a + c ≡ y + b + d
      between x y a b c d e f = omega arith

pub weights_least : (work : List ℕ) (n h : ℕ) → h < n → weight (cell work number_column h) ≤ weights work n
unfolding weights
weights_least work zero h l = absurd (omega arith)
weights_least work (suc n) h l = elim (ℕ_discrete h n) [
  | yes q ↦ subst (λ (x : ℕ). weight (cell work number_column x) ≤ weights work n + weight (cell work number_column n)) (sym q) (most (weights work n) (weight (cell work number_column n)))
  | no q ↦ more (weight (cell work number_column h)) (weights work n) (weight (cell work number_column n)) (weights_least work n h (omega arith))
]
  where
    most : (a b : ℕ) → b ≤ a + b
    most a b = omega arith

    more : (a b c : ℕ) → a ≤ b → a ≤ b + c
    more a b c h = omega arith

pub weights_most : (work : List ℕ) (n : ℕ) → weights work n ≤ 2 * n
unfolding weights
weights_most work zero = omega arith
weights_most work (suc n) = more (weights work n) (weight (cell work number_column n)) (weights_most work n) (few (cell work number_column n))
  where
    more : (a b : ℕ) → a ≤ 2 * n → b ≤ 2 → a + b ≤ 2 * suc n
    more a b h k = omega arith

    few : (v : ℕ) → weight v ≤ 2
    few v = go (eqb v 0) (eqb v 1)
      where
        go : (a b : Bool) → cond a 2 (cond b 1 0) ≤ 2
        go true b = omega arith
        go false true = omega arith
        go false false = omega arith
