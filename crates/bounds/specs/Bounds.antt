-- "a variable at n or above anywhere in the list": every node is asked.
use Rattle.std.specs.Prelude.{ℕ, zero, suc, ◌+◌, ◌≡◌, refl, List, Bool, true, false, not, eqb}
use Rattle.std.specs.List.{list_all, range_with_len}
use Rattle.std.proofs.Common.{sym, ap, ◌∙◌, arith, add-one, zero-add}
use borrow.Author.Tests.{eq-eqb, ne_eqb}
use Rattle.meaning.specs.Rules.Trees.{node_count}
use Rattle.meaning.specs.Rules.Search.{lowest_from, lowest}
use Rattle.meaning.specs.Rules.Separation.{outside, variables_below}

-- every node is asked, in order
module _ (p : ℕ → Bool) where
  all_from : (n from : ℕ) → list_all (λ i. not (p i)) (range_with_len from n) ≡ eqb (lowest_from p n from) (from + n)
  all_from zero from = sym (eq-eqb from (from + 0) (omega arith))
  all_from (suc n) from = go (p from) refl (all_from n (suc from))
    where
      go : (b : Bool) → p from ≡ b → list_all (λ i. not (p i)) (range_with_len (suc from) n) ≡ eqb (lowest_from p n (suc from)) (suc from + n)
          → list_all (λ i. not (p i)) (range_with_len from (suc n)) ≡ eqb (lowest_from p (suc n) from) (from + suc n)
      go true h later = rw h (sym (ne_eqb from (from + suc n) (λ e. omega arith)))
      go false h later =
          let end : suc from + n ≡ from + suc n = omega arith in
          rw (h, add-one) (later ∙ ap (eqb (lowest_from p n (suc from))) end)

pub all_inside : (ns : List ℕ) (n : ℕ) → list_all (λ i. not (outside ns n i)) (range_with_len 0 (node_count ns)) ≡ variables_below ns n
unfolding variables_below lowest
all_inside ns n = all_from (outside ns n) (node_count ns) 0 ∙ ap (eqb (lowest_from (outside ns n) (node_count ns) 0)) (zero-add (node_count ns))
