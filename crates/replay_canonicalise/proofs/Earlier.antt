-- What gets on from an offset gets on from an earlier one.
use Rattle.std.specs.Prelude.{ℕ, ◌≤◌}
use Rattle.std.proofs.Common.{arith}
use Rattle.replay_canonicalise.specs.Written.{ReadOn}

pub read_on_from : (length from earlier next : ℕ) → earlier ≤ from → ReadOn length from next → ReadOn length earlier next
read_on_from length from earlier next l on = (omega (arith, on.0), on.1)
