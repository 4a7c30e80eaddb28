-- What code may rely on past the numbers 3 to 5: of each node, that its kind is known, its words are right, and its children
-- lie in the pool and below it.
use Rattle.std.specs.Prelude.{ℕ, ◌+◌, ◌≤◌, ◌<◌, ◌≡◌, List, true, length, leb, ltb}
use Rattle.std.proofs.Common.{arith, ne_eqb, leb-true}
use Rattle.meaning.specs.Rules.Kinds.{kind_of, may_have, const_word, program_word, dont_care_word, variable_word}
use Rattle.meaning.specs.Rules.Trees.{kind_at, first_at, count_at, children_at}
use Rattle.meaning.specs.Rules.Layout.{first_fits, laid_out, children_below, layout}
use Rattle.meaning.specs.Claims.Column.{WellLaid, All}
use Rattle.meaning.proofs.Laws.BoolLaws.{and_right}
use Rattle.meaning.proofs.Laws.TestLaws.{is_lt, every_is}
use Rattle.meaning.proofs.Laws.ColumnLaws.{layout_passed}

-- a node that has children has them in the pool
abbrev pub PartFits : List ℕ → List ℕ → ℕ → Type 0
PartFits ns ps i = variable_word < kind_at ns i → first_at ns i + count_at ns i ≤ length ps

-- past numbers 3 to 5
abbrev pub Laid : List ℕ → List ℕ → Type 0
Laid ns ps = All ns ps (WellLaid ns ps)

-- what number 4 asks of a kind that has children
parent_fits : (kind first count entries : ℕ) → variable_word < kind → first_fits kind first count entries ≡ true
    → first + count ≤ entries
parent_fits kind first count entries parent fits =
    let plain : leb (first + count) entries ≡ true =
    rw (
      ne_eqb kind const_word (λ e. omega arith),
      ne_eqb kind program_word (λ e. omega arith),
      ne_eqb kind dont_care_word (λ e. omega arith),
      ne_eqb kind variable_word (λ e. omega arith),
    ) at fits in
    leb-true (first + count) entries plain

module _ (ns ps : List ℕ) where
  -- number 4 alone gives the part, before number 5 is asked
  pub laid_part : (i : ℕ) → laid_out ns ps i ≡ true → PartFits ns ps i
  laid_part i laid parent =
      let fits : first_fits (kind_at ns i) (first_at ns i) (count_at ns i) (length ps) ≡ true =
      and_right (may_have (kind_of (kind_at ns i)) (count_at ns i)) (first_fits (kind_at ns i) (first_at ns i) (count_at ns i) (length ps)) laid in
      parent_fits (kind_at ns i) (first_at ns i) (count_at ns i) (length ps) parent fits

  pub part_fits : (i : ℕ) → WellLaid ns ps i → PartFits ns ps i
  part_fits i well = laid_part i well.1

  -- number 5 as a test, where a proof wants the definition's own
  pub children_below_lem : (i : ℕ) → WellLaid ns ps i → children_below ns ps i ≡ true
  children_below_lem i well = (every_is (λ c. ltb c i) (λ c. is_lt c i) (children_at ns ps i)).1 well.2

  -- a list that `layout`, and that `sizes`, lets pass
  pub layout_laid : (layout ns ps).number ≡ 0 → Laid ns ps
  layout_laid passed = (layout_passed ns ps).when.0 passed
