-- That reading what a case lends and expects gets on in the text.
use Rattle.std.specs.Prelude.{ℕ, ◌≤◌, ◌≡◌, List, length, Result, Ok, Err, IfOk}
use Rattle.std.proofs.Common.{sym, arith}
use Rattle.decimals.specs.declared.Bad.{Bad}

-- what is read ends at `from` or behind it, within a text of this length
abbrev pub Reaches : ℕ → ℕ → ℕ → Type 0
Reaches length from next = (from ≤ next) × (next ≤ length)

pub reaches_from : (length from earlier : ℕ) (r : Result ℕ Bad) → earlier ≤ from → IfOk r (Reaches length from)
    → IfOk r (Reaches length earlier)
reaches_from length from earlier (Ok next) l r = (omega (arith, r.0), r.1)
reaches_from length from earlier (Err bad) l r = tt
