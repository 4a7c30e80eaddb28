-- A result with two answers as words: its number and node, what was found and at which assignment, and both answers.
use Rattle.std.specs.Prelude.{ℕ, List, [], ◌∷◌}
use Rattle.meaning.specs.declared.Answer.{Answer}
use Rattle.meaning.specs.declared.Refusal.{Refusal}
use Rattle.meaning.specs.Rules.Answers.{state_of, answer_width, value_of}

-- a refusal alone: number, node
abbrev pub refusal_words : Refusal → List ℕ
refusal_words r = r.number ∷ r.node ∷ []

abbrev pub result_words : Refusal → ℕ → ℕ → Answer → Answer → List ℕ
result_words refusal found index first second =
    refusal.number ∷ refusal.node ∷ found ∷ index
    ∷ state_of first ∷ answer_width first ∷ value_of first
    ∷ state_of second ∷ answer_width second ∷ value_of second ∷ []
