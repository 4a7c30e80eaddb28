-- Separation (document 01, "Comparison and separation").
use Rattle.std.specs.Prelude.{ℕ, ◌^◌, List, Bool, cond, not, ◌&&◌, ltb, leb, eqb, Result, Ok, Err}
use Rattle.meaning.specs.declared.Answer.{Answer}
use Rattle.meaning.specs.declared.Judgement.{Judgement}
use Rattle.meaning.specs.declared.Judgement.TheVariants.{Separate, Crossing}
use Rattle.meaning.specs.declared.Refusal.{Refusal}
use Rattle.meaning.specs.declared.Separation as code
use Rattle.meaning.specs.Rules.Limits.{most_inputs}
use Rattle.meaning.specs.Rules.Numbers.{out_of_bounds}
use Rattle.meaning.specs.Rules.Kinds.{variable_word}
use Rattle.meaning.specs.Rules.Words.{bit_at}
use Rattle.meaning.specs.Rules.Trees.{Tree, node_count, kind_at, first_at}
use Rattle.meaning.specs.Rules.Answers.{Assignment, answer, blank}
use Rattle.meaning.specs.Rules.Search.{lowest}
use Rattle.meaning.specs.Rules.Refusals.{done, require, answered_with}
use Rattle.meaning.specs.Rules.Assignments.{drive, upto}
use Rattle.meaning.specs.Rules.Comparison.{same_answer}

-- the number that stands for each judgement where answers are words
abbrev pub judgement_number : Judgement → ℕ
judgement_number Separate = 0
judgement_number Crossing = 1

-- ---- 11: "n above 30, a variable at n or above anywhere in the list, or a mark at bit n or above"
abbrev pub outside : List ℕ → ℕ → ℕ → Bool
outside ns n i = eqb (kind_at ns i) variable_word && leb n (first_at ns i)

unfoldable pub variables_below : List ℕ → ℕ → Bool
variables_below ns n = eqb (lowest (outside ns n) (node_count ns)) (node_count ns)

unfoldable pub in_bounds : List ℕ → ℕ → ℕ → Bool
in_bounds ns n run = leb n most_inputs && variables_below ns n && ltb run (2 ^ n)

abbrev pub bounded : List ℕ → ℕ → ℕ → Refusal
bounded ns n run = require (in_bounds ns n run) out_of_bounds

-- ---- a tree judged: "bit v drives variable v, for 2^n assignments"
abbrev pub is_marked : ℕ → ℕ → Bool
is_marked run v = eqb (bit_at run v) 1

-- an assignment "with its run bits cleared"
abbrev pub run_cleared : ℕ → Assignment → Assignment
run_cleared run α v = cond (is_marked run v) 0 (α v)

-- an assignment that "answers differently from itself with its run bits cleared"
abbrev pub crosses : Tree → ℕ → ℕ → ℕ → Bool
crosses t n run i =
    not (same_answer (answer (drive (upto n) i) t) (answer (run_cleared run (drive (upto n) i)) t))

unfoldable pub crossing_index : Tree → ℕ → ℕ → ℕ
crossing_index t n run = lowest (crosses t n run) (2 ^ n)

-- what a separation answers, refused or not
pub record Separation : Type 0 where
  pub refusal : Refusal
  pub judgement : Judgement
  pub index : ℕ
  pub run : Answer
  pub cleared : Answer

-- "for Separate the rest is zero"
abbrev pub separated : Separation
separated = record { refusal = done; judgement = Separate; index = 0; run = blank; cleared = blank }

abbrev pub crossing_at : ℕ → Answer → Answer → Separation
crossing_at i x y = record { refusal = done; judgement = Crossing; index = i; run = x; cleared = y }

unfoldable pub separate_tree : Tree → ℕ → ℕ → Separation
separate_tree t n run =
    let i = crossing_index t n run in
    let α = drive (upto n) i in
    cond (eqb i (2 ^ n)) separated (crossing_at i (answer α t) (answer (run_cleared run α) t))

-- "other fields zero (.. judgement Crossing ..)"
abbrev pub separation_refused : Refusal → Separation
separation_refused r = record { refusal = r; judgement = Crossing; index = 0; run = blank; cleared = blank }

-- ---- how code answers it: what was found, or the refusal
abbrev pub found : Separation → code.Separation
found s = record { judgement = s.judgement; index = s.index; run = s.run; cleared = s.cleared }

abbrev pub separation_result : Separation → Result code.Separation Refusal
separation_result s = answered_with s.refusal (found s)

-- and what such an answer is, whole
abbrev pub separation_said : Result code.Separation Refusal → Separation
separation_said (Ok s) = record { refusal = done; judgement = s.judgement; index = s.index; run = s.run; cleared = s.cleared }
separation_said (Err r) = separation_refused r
