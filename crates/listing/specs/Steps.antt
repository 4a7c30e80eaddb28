-- What each step of the walk writes and answers.
use Rattle.std.specs.Prelude.{ℕ, zero, suc, ◌+◌, ◌-◌, ◌*◌, List, Bool, cond, set, eqb}
use Rattle.meaning.specs.Rules.Limits.{widest_bus}
use Rattle.meaning.specs.Rules.Kinds.{program_word, lut_word}
use Rattle.meaning.specs.Rules.Search.{lowest}
use Rattle.columns.specs.Columns.{place, cell, kind_column, datum_column, count_column, number_column, program_column, stack_column, next_column}
use Rattle.listed.specs.Likeness.{is_program, is_form}
use Rattle.listing.specs.Weights.{weights}
use Rattle.listing.specs.More.{kept_work, kept_count}

-- ---- the Program of the Lut in row h
abbrev pub program_number : List ℕ → ℕ → ℕ → ℕ
program_number work count h = lowest (is_program work (cell work datum_column h)) count

abbrev pub is_lut : List ℕ → ℕ → Bool
is_lut work h = eqb (cell work kind_column h) lut_word

unfoldable pub lut_work : List ℕ → ℕ → ℕ → List ℕ
lut_work work count h =
    cond (is_lut work h)
    (set (kept_work work (program_number work count h) count (2 * h + 1)) (place program_column h) (program_number work count h)) work

unfoldable pub lut_count : List ℕ → ℕ → ℕ → ℕ
lut_count work count h = cond (is_lut work h) (kept_count (program_number work count h) count) count

-- ---- node h comes onto the path
abbrev pub pushed_work : List ℕ → ℕ → ℕ → List ℕ
pushed_work work depth h = set (set (set work (place stack_column depth) h) (place next_column depth) 0) (place number_column h) 1

abbrev pub opened_work : List ℕ → ℕ → ℕ → ℕ → List ℕ
opened_work work depth count h = pushed_work (lut_work work count h) depth h

-- ---- node h gets its number
unfoldable pub own_number : List ℕ → List ℕ → List ℕ → ℕ → ℕ → ℕ
own_number ns ps work count h =
    cond (eqb (cell work kind_column h) program_word) (program_number work count h) (lowest (is_form ns ps work h) count)

abbrev pub closed_work : List ℕ → List ℕ → List ℕ → ℕ → ℕ → List ℕ
closed_work ns ps work count h =
    set (kept_work work (own_number ns ps work count h) count (2 * h)) (place number_column h) (own_number ns ps work count h + 2)

-- ---- how many turns are left at most: 66 for each entry that can still come, and the children left at the end of the path
abbrev pub left_here : List ℕ → ℕ → ℕ
left_here work zero = 0
left_here work (suc d) = cell work count_column (cell work stack_column d) - cell work next_column d

unfoldable pub turns : ℕ → List ℕ → ℕ → ℕ
turns n work depth = (widest_bus + 2) * weights work n + left_here work depth
