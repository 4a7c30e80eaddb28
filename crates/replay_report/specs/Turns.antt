-- That a turn gets on in the text: what the loop over the cases ends by.
use Rattle.std.specs.Prelude.{ℕ, ◌≤◌, Result, Ok, Err, IfOk}
use Rattle.std.proofs.Common.{arith}
use Rattle.replay_report.specs.declared.turn.Tried.{Tried}

-- a case tried ends at `from` or behind it, within a text of this length
abbrev pub GetsOn : ℕ → ℕ → Tried → Type 0
GetsOn length from tried = (from ≤ tried.next) × (tried.next ≤ length)

pub ok_from : {E : Type 0} (length from earlier : ℕ) (r : Result Tried E) → earlier ≤ from → IfOk r (GetsOn length from)
    → IfOk r (GetsOn length earlier)
ok_from length from earlier (Ok tried) l g = (omega (arith, g.0), g.1)
ok_from length from earlier (Err e) l g = tt
