-- Words as bits (used by "Answers of a node" and "Truth-table routines").
use Rattle.std.specs.Prelude.{ℕ, ◌-◌, ◌/◌, ◌%◌, ◌^◌, Bool, ◌&&◌, ltb, leb}
use Rattle.meaning.specs.Rules.Limits.{widest_bus}

-- bit i of p
abbrev pub bit_at : ℕ → ℕ → ℕ
bit_at p i = p / 2 ^ i % 2

-- all ones, w wide; the complement of v, w wide, is ones w - v
abbrev pub ones : ℕ → ℕ
ones w = 2 ^ w - 1

-- p is a word of w bits, and w at most 64
abbrev pub word_fits : ℕ → ℕ → Bool
word_fits p w = leb w widest_bus && ltb p (2 ^ w)
