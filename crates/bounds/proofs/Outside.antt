-- "a variable at n or above anywhere in the list": one is found, or none at all.
use Rattle.std.specs.Prelude.{ℕ, ◌<◌, ◌≡◌, List, true, false}
use Rattle.std.proofs.Common.{arith}
use borrow.Author.Tests.{eq-eqb, ne_eqb}
use Rattle.meaning.specs.Rules.Trees.{node_count}
use Rattle.meaning.specs.Rules.Search.{lowest}
use Rattle.meaning.specs.Rules.Separation.{outside, variables_below}
use Rattle.meaning.proofs.Laws.BoolLaws.{true_false}
use Rattle.meaning.proofs.Laws.SearchLaws.{NoneBelow, lowest_is, lowest_none}

module _ (ns : List ℕ) (n : ℕ) where
  pub some_outside : (i : ℕ) → i < node_count ns → outside ns n i ≡ true → variables_below ns n ≡ false
  unfolding variables_below
  some_outside i h here =
      ne_eqb (lowest (outside ns n) (node_count ns)) (node_count ns)
      (λ e. true_false here ((lowest_is (outside ns n) (node_count ns)).before i (omega arith) (omega (arith, e, h))))

  pub none_outside : (i : ℕ) → i ≡ node_count ns → NoneBelow (outside ns n) i → variables_below ns n ≡ true
  unfolding variables_below
  none_outside i e none =
      eq-eqb (lowest (outside ns n) (node_count ns)) (node_count ns) (lowest_none (outside ns n) (node_count ns) (rw e at none))
