-- What the canonicaliser answers as words: its number and node, and how many words of each output slice the list takes.
use Rattle.std.specs.Prelude.{ℕ, List, [], ◌∷◌}
use Rattle.meaning.specs.Rules.Calls.{Canonical}

abbrev pub canonical_words : Canonical → List ℕ
canonical_words c = c.refusal.number ∷ c.refusal.node ∷ c.nodes ∷ c.pool ∷ []
