-- Cases of Rules/Verdict, and the numbers that stand for answers.
use Rattle.std.specs.Prelude.{ℕ, refl, List, [], ◌∷◌, map, Bool, Some, None, Ok, Err, replicate}
use Rattle.std.proofs.Math.Bool as Bool
use Rattle.meaning.specs.declared.Failure.TheVariants.{Undriven, DontCare, Register, Argument}
use Rattle.meaning.specs.declared.Answer.{Answer}
use Rattle.meaning.specs.declared.Answer.TheVariants.{Value, Failed}
use Rattle.meaning.specs.declared.Check.{Check}
use Rattle.meaning.specs.declared.Check.TheVariants.{Equiv, NotEquiv, Inconclusive}
use Rattle.meaning.specs.declared.Judgement.TheVariants.{Separate, Crossing}
use Rattle.meaning.specs.Rules.Kinds.{kind_of, is_plain}
use Rattle.meaning.specs.Rules.Assignments.{select}
use Rattle.meaning.specs.Rules.Answers.{state_of, answer_width, value_of}
use Rattle.meaning.specs.Rules.Separation.{judgement_number}
use Rattle.meaning.specs.Rules.Verdict.{written_number, written_bytes, check_number, is_equiv, is_not_equiv, is_inconclusive, is_conclusive, decided, decision_number, display}
use Rattle.meaning.specs.Claims.Drawn.{Said, Line, ◌is◌, false, true, words, test, Agree}

unfoldable pub writing : Check → List ℕ → Said
writing c out = let d = display c out in words (d.number ∷ d.bytes ∷ d.out)

-- the state, the width and the value of an answer
abbrev pub shown : Answer → Said
shown a = words (state_of a ∷ answer_width a ∷ value_of a ∷ [])

unfoldable pub verdicts : List Line
verdicts =
    (words (check_number Equiv ∷ check_number NotEquiv ∷ check_number Inconclusive ∷ []) is words (0 ∷ 1 ∷ 2 ∷ []))
    ∷ (words (judgement_number Separate ∷ judgement_number Crossing ∷ []) is words (0 ∷ 1 ∷ []))
    ∷ (words (map decision_number (decided Equiv ∷ decided NotEquiv ∷ decided Inconclusive ∷ [])) is words (0 ∷ 1 ∷ 2 ∷ []))
    ∷ (words (map decision_number (Some Bool.true ∷ Some Bool.false ∷ None ∷ [])) is words (0 ∷ 1 ∷ 2 ∷ []))
    ∷ (test (is_equiv Equiv) is test Bool.true)
    ∷ (test (is_equiv NotEquiv) is test Bool.false)
    ∷ (test (is_equiv Inconclusive) is test Bool.false)
    ∷ (test (is_not_equiv Equiv) is test Bool.false)
    ∷ (test (is_not_equiv NotEquiv) is test Bool.true)
    ∷ (test (is_not_equiv Inconclusive) is test Bool.false)
    ∷ (test (is_inconclusive Equiv) is test Bool.false)
    ∷ (test (is_inconclusive NotEquiv) is test Bool.false)
    ∷ (test (is_inconclusive Inconclusive) is test Bool.true)
    ∷ (test (is_conclusive NotEquiv) is test Bool.true)
    ∷ (test (is_conclusive Inconclusive) is test Bool.false)
    -- "Equiv", "NotEquiv", "Inconclusive": exactly full, with room past the name, and one byte short
    ∷ (writing Equiv (replicate 5 1) is words (0 ∷ 5 ∷ 69 ∷ 113 ∷ 117 ∷ 105 ∷ 118 ∷ []))
    ∷ (writing NotEquiv (replicate 9 1) is words (0 ∷ 8 ∷ 78 ∷ 111 ∷ 116 ∷ 69 ∷ 113 ∷ 117 ∷ 105 ∷ 118 ∷ 1 ∷ []))
    ∷ (writing Inconclusive (replicate 12 1) is
    words (0 ∷ 12 ∷ 73 ∷ 110 ∷ 99 ∷ 111 ∷ 110 ∷ 99 ∷ 108 ∷ 117 ∷ 115 ∷ 105 ∷ 118 ∷ 101 ∷ []))
    ∷ (writing NotEquiv (replicate 7 1) is words (19 ∷ 0 ∷ replicate 7 1))
    ∷ (writing Inconclusive (replicate 11 1) is words (19 ∷ 0 ∷ replicate 11 1))
    ∷ (writing Equiv (replicate 4 1) is words (19 ∷ 0 ∷ 1 ∷ 1 ∷ 1 ∷ 1 ∷ []))
    ∷ (words (map written_number (Ok 5 ∷ Err (record {}) ∷ [])) is words (0 ∷ 19 ∷ []))
    ∷ (words (map written_bytes (Ok 5 ∷ Err (record {}) ∷ [])) is words (5 ∷ 0 ∷ []))
    ∷ (shown (Value 2 3) is words (0 ∷ 2 ∷ 3 ∷ []))
    ∷ (shown (Failed Undriven) is words (1 ∷ 0 ∷ 0 ∷ []))
    ∷ (shown (Failed DontCare) is words (2 ∷ 0 ∷ 0 ∷ []))
    ∷ (shown (Failed Register) is words (3 ∷ 0 ∷ 0 ∷ []))
    ∷ (shown (Failed Argument) is words (4 ∷ 0 ∷ 0 ∷ []))
    -- the kinds that are no don't-care, register or ARG
    ∷ (words (select (λ k. is_plain (kind_of k)) 18) is words (0 ∷ 1 ∷ 3 ∷ 4 ∷ 5 ∷ 6 ∷ 7 ∷ 8 ∷ 9 ∷ 10 ∷ 16 ∷ []))
    ∷ []

pub verdict_cases : Agree verdicts
unfolding verdicts writing display
verdict_cases = refl
