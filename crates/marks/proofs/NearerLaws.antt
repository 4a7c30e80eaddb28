-- The nearer of two marks, by tests: what Rules/Reach's `nearer` is where one of them is 0, and where both are marks.
use Rattle.std.specs.Prelude.{ℕ, zero, suc, ◌≤◌, ◌<◌, ◌≡◌, refl}
use Rattle.std.proofs.Common.{arith}
use Rattle.meaning.specs.Rules.Reach.{nearer}

pub nearer_none : (a : ℕ) → nearer a 0 ≡ a
nearer_none zero = refl
nearer_none (suc a) = refl

pub nearer_first : (a b : ℕ) → 0 < a → a < b → nearer a b ≡ a
nearer_first zero b h l = absurd (omega arith)
nearer_first (suc a) zero h l = absurd (omega arith)
nearer_first (suc a) (suc b) h l = omega arith

pub nearer_second : (a b : ℕ) → 0 < b → b ≤ a → nearer a b ≡ b
nearer_second a zero h l = absurd (omega arith)
nearer_second zero (suc b) h l = absurd (omega arith)
nearer_second (suc a) (suc b) h l = omega arith
