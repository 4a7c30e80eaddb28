-- A variable's byte as code reads it: inside the slice the default of a reading does not matter.
use Rattle.std.specs.Prelude.{ℕ, zero, suc, ◌<◌, ◌≡◌, refl, List, [], ◌∷◌, length, get_or}
use Rattle.std.proofs.Common.{arith}
use Rattle.meaning.specs.Rules.Assignments.{given}

pub given_inside : (bytes : List ℕ) (v : ℕ) → v < length bytes → get_or bytes v 0 ≡ given bytes v
given_inside [] v h = absurd (omega arith)
given_inside (b ∷ bytes) zero h = refl
given_inside (b ∷ bytes) (suc v) h = given_inside bytes v (omega arith)
