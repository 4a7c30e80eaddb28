-- One variable more is looked at: no more are found than were looked at.
use Rattle.std.specs.Prelude.{ℕ, ◌+◌, ◌≤◌, ◌≡◌, Bool, true, false, cond}
use Rattle.std.proofs.Common.{arith}

module _ (found : Bool) (count v r : ℕ) (counted : r ≡ cond found (count + 1) count) where
  pub keep_count : count ≤ v → r ≤ v + 1
  keep_count h = rw counted (go found)
    where
      go : (b : Bool) → cond b (count + 1) count ≤ v + 1
      go true = omega arith
      go false = omega arith
