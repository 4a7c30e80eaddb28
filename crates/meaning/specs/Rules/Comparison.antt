-- Comparison (document 01, "Comparison and separation").
use Rattle.std.specs.Prelude.{ℕ, ◌^◌, List, Bool, true, false, cond, not, ◌&&◌, ◌||◌, length, leb, eqb, Result, Ok, Err}
use Rattle.meaning.specs.declared.Answer.{Answer}
use Rattle.meaning.specs.declared.Answer.TheVariants.{Value, Failed}
use Rattle.meaning.specs.declared.Check.{Check}
use Rattle.meaning.specs.declared.Check.TheVariants.{Equiv, NotEquiv, Inconclusive}
use Rattle.meaning.specs.declared.Refusal.{Refusal}
use Rattle.meaning.specs.declared.Comparison as code
use Rattle.meaning.specs.Rules.Limits.{most_inputs}
use Rattle.meaning.specs.Rules.Numbers.{many_inputs}
use Rattle.meaning.specs.Rules.Trees.{Tree, same}
use Rattle.meaning.specs.Rules.Answers.{answer, blank, failure_number}
use Rattle.meaning.specs.Rules.Search.{lowest}
use Rattle.meaning.specs.Rules.Refusals.{done, require, answered_with}
use Rattle.meaning.specs.Rules.Assignments.{inputs, drive}

-- ---- answers compared

abbrev pub is_value : Answer → Bool
is_value (Value w v) = true
is_value (Failed f) = false

-- the same answer, "value or named failure"
abbrev pub same_answer : Answer → Answer → Bool
same_answer (Value w x) (Value u y) = eqb w u && eqb x y
same_answer (Value w x) (Failed g) = false
same_answer (Failed f) (Value u y) = false
same_answer (Failed f) (Failed g) = eqb (failure_number f) (failure_number g)

-- both have a value, "one equal value"; "Widths count: a one-member bus equals a bit"
abbrev pub agree : Answer → Answer → Bool
agree x y = is_value x && same_answer x y

-- ---- 9: "over 30 variables below the first root, trees unequal"
abbrev pub few_inputs : Tree → Tree → Refusal
few_inputs t u = require (same t u || leb (length (inputs t)) most_inputs) many_inputs

-- ---- two trees compared: "bit j of assignment i drives the j-th smallest variable below the first root; the second
-- list's others are undriven"
abbrev pub assignments : Tree → ℕ
assignments t = 2 ^ length (inputs t)

-- an assignment of the variables vs that fails to give both roots one equal value
abbrev pub decides : List ℕ → Tree → Tree → ℕ → Bool
decides vs t u i = not (agree (answer (drive vs i) t) (answer (drive vs i) u))

unfoldable pub deciding_index : Tree → Tree → ℕ
deciding_index t u =
    let vs = inputs t in
    lowest (decides vs t u) (2 ^ length vs)

-- "NotEquiv if both have values there, else Inconclusive"
abbrev pub verdict_of : Answer → Answer → Check
verdict_of x y = cond (is_value x && is_value y) NotEquiv Inconclusive

-- what a comparison answers, refused or not: "the result carries verdict, i and both answers"
pub record Comparison : Type 0 where
  pub refusal : Refusal
  pub verdict : Check
  pub index : ℕ
  pub first : Answer
  pub second : Answer

-- "for Equiv the rest is zero"
abbrev pub equivalent : Comparison
equivalent = record { refusal = done; verdict = Equiv; index = 0; first = blank; second = blank }

abbrev pub decided_at : ℕ → Answer → Answer → Comparison
decided_at i x y = record { refusal = done; verdict = verdict_of x y; index = i; first = x; second = y }

-- "Equal trees: Equiv .. Otherwise" the lowest deciding assignment
unfoldable pub compare_trees : Tree → Tree → Comparison
compare_trees t u =
    let i = deciding_index t u in
    let α = drive (inputs t) i in
    cond (same t u || eqb i (assignments t)) equivalent (decided_at i (answer α t) (answer α u))

-- "other fields zero (verdict Inconclusive ..)"
abbrev pub comparison_refused : Refusal → Comparison
comparison_refused r = record { refusal = r; verdict = Inconclusive; index = 0; first = blank; second = blank }

-- ---- how code answers it: what was found, or the refusal
abbrev pub found : Comparison → code.Comparison
found c = record { verdict = c.verdict; index = c.index; first = c.first; second = c.second }

abbrev pub comparison_result : Comparison → Result code.Comparison Refusal
comparison_result c = answered_with c.refusal (found c)

-- and what such an answer is, whole
abbrev pub comparison_said : Result code.Comparison Refusal → Comparison
comparison_said (Ok c) = record { refusal = done; verdict = c.verdict; index = c.index; first = c.first; second = c.second }
comparison_said (Err r) = comparison_refused r
