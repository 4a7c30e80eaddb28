-- A text that was read stands at the start of the bytes lent for it, and can be lent from there.
use Rattle.std.specs.Prelude.{ℕ, List, Option, Some, None}
use Rattle.io.specs.Counts.{IsPrefixLen}

abbrev pub Lendable : List ℕ → Option ℕ → Type 0
Lendable text (Some n) = IsPrefixLen n text
Lendable text None = Unit
