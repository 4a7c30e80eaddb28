-- "the lowest assignment failing that decides": what a search from assignment 0 on answers, for trees that are not the same.
use Rattle.std.specs.Prelude.{ℕ, ◌<◌, ◌≡◌, Bool, true, false, cond, eqb, Ok}
use Rattle.std.proofs.Math.Path.{refl}
use Rattle.std.proofs.Common.{ap, arith}
use Rattle.std.proofs.Math.Bool.{not}
use borrow.Author.Tests.{eq-eqb, ne_eqb}
use Rattle.meaning.specs.declared.Answer.{Answer}
use Rattle.meaning.specs.Rules.Comparison.{Comparison}
use Rattle.meaning.specs.Rules.Trees.{Tree, same}
use Rattle.meaning.specs.Rules.Answers.{answer}
use Rattle.meaning.specs.Rules.Assignments.{inputs, drive}
use Rattle.meaning.specs.Rules.Comparison.{agree, decides, assignments, deciding_index, equivalent, decided_at, compare_trees, found, comparison_result}
use Rattle.meaning.proofs.Laws.SearchLaws.{NoneBelow, lowest_here, lowest_none}

-- the answers of both trees at assignment i
abbrev pub first_answer : Tree → Tree → ℕ → Answer
first_answer t u i = answer (drive (inputs t) i) t

abbrev pub second_answer : Tree → Tree → ℕ → Answer
second_answer t u i = answer (drive (inputs t) i) u

-- what `compare_trees` answers where the trees are not the same
unfoldable pub searched : Tree → Tree → Comparison
searched t u =
    let i = deciding_index t u in
    cond (eqb i (assignments t)) equivalent (decided_at i (first_answer t u i) (second_answer t u i))

module _ (t u : Tree) where
  -- equal trees are never searched
  pub same_trees : same t u ≡ true → equivalent ≡ compare_trees t u
  unfolding compare_trees
  same_trees e = rw e refl

  pub other_trees : same t u ≡ false → searched t u ≡ compare_trees t u
  unfolding compare_trees searched
  other_trees e = rw e refl

  -- ---- the search is over
  pub searched_through : (total : ℕ) → total ≡ assignments t → NoneBelow (decides (inputs t) t u) total → equivalent ≡ searched t u
  unfolding searched deciding_index
  searched_through total e none =
      let last : deciding_index t u ≡ assignments t = lowest_none (decides (inputs t) t u) (assignments t) (rw e at none) in
      rw (eq-eqb (deciding_index t u) (assignments t) last) refl

  pub searched_to : (i : ℕ) → i < assignments t → NoneBelow (decides (inputs t) t u) i → agree (first_answer t u i) (second_answer t u i) ≡ false
      → decided_at i (first_answer t u i) (second_answer t u i) ≡ searched t u
  unfolding searched deciding_index
  searched_to i h none differ =
      let here : deciding_index t u ≡ i = lowest_here (decides (inputs t) t u) (assignments t) i h none (ap not differ) in
      rw (here, ne_eqb i (assignments t) (λ e. absurd (omega (arith, e, h)))) refl

  -- ---- a search refuses nothing, so its result is what it found
  pub searched_result : comparison_result (searched t u) ≡ Ok (found (searched t u))
  unfolding searched
  searched_result = by_end (eqb (deciding_index t u) (assignments t))
    where
      last : Comparison
      last = decided_at (deciding_index t u) (first_answer t u (deciding_index t u)) (second_answer t u (deciding_index t u))

      by_end : (b : Bool) → comparison_result (cond b equivalent last) ≡ Ok (found (cond b equivalent last))
      by_end true = refl
      by_end false = refl
