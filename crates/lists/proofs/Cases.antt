-- A number that is none of those of the arms of a match.
use Rattle.std.specs.Prelude.{ℕ, zero, suc, ◌≤◌, ◌≡◌}
use Rattle.std.proofs.Common.{arith}
use Rattle.lists.specs.Cases.{past}

-- k is none of 0, …, m - 1, as a match says it after m arms
abbrev pub Others : ℕ → ℕ → Type 0
Others k zero = Unit
Others k (suc m) = Others k m × (k ≡ m → ⊥)

pub others_above : (k m : ℕ) → Others k m → m ≤ k
others_above k zero h = omega arith
others_above k (suc m) h = past m k (others_above k m h.0) h.1
