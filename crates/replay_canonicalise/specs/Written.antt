-- That reading the list that a case expects gets on in the text.
use Rattle.std.specs.Prelude.{ℕ, ◌≤◌}

-- words that are read end at `from` or behind it, within a text of this length
abbrev pub ReadOn : ℕ → ℕ → ℕ → Type 0
ReadOn length from next = (from ≤ next) × (next ≤ length)
