-- What the search is given: the variables 0 to n - 1, those below the root as bits, and marks on some of them; and what it
-- answers.
use Rattle.std.specs.Prelude.{ℕ, ◌^◌, ◌<◌, ◌≡◌, List, refl, length, Bool, true, false, cond, eqb, Option, Some, None, MatchOption}
use Rattle.std.proofs.Common.{sym, ◌∙◌, arith}
use borrow.Author.Tests.{eq-eqb, ne_eqb, eqb-true, eqb-false}
use Rattle.meaning.specs.Rules.Trees.{Tree, root_of}
use Rattle.meaning.specs.Rules.Search.{lowest}
use Rattle.meaning.specs.Rules.Separation.{crossing_index}
use Rattle.meaning.specs.Rules.Assignments.{upto}
use Rattle.input_bits.specs.Seen.{IsMask}

pub record Searchable (ns ps vs : List ℕ) (inputs marks : ℕ) : Type 0 where
  pub numbered : vs ≡ upto (length vs)
  pub few : length vs < 64
  pub inputs_small : inputs < 2 ^ length vs
  pub is_mask : IsMask (root_of ns ps) inputs
  pub marks_small : marks < 2 ^ length vs

-- `crossing_index`, or none where that is 2^n
abbrev pub crossing_found : Tree → ℕ → ℕ → Option ℕ
crossing_found t n run = cond (eqb (crossing_index t n run) (2 ^ n)) None (Some (crossing_index t n run))

pub found_some : (t : Tree) (n run i : ℕ) → i ≡ crossing_index t n run → i < 2 ^ n → Some i ≡ crossing_found t n run
found_some t n run i e h = rw (← e, ne_eqb i (2 ^ n) (λ q. absurd (omega arith)))

pub found_none : (t : Tree) (n run : ℕ) → 2 ^ n ≡ crossing_index t n run → None ≡ crossing_found t n run
found_none t n run e = rw (← e, eq-eqb (2 ^ n) (2 ^ n) refl)

pub found_index : (t : Tree) (n run i : ℕ) → Some i ≡ crossing_found t n run → (i ≡ crossing_index t n run) × (i ≡ 2 ^ n → ⊥)
found_index t n run i e = go (eqb (crossing_index t n run) (2 ^ n)) refl e
  where
    go : (b : Bool) → eqb (crossing_index t n run) (2 ^ n) ≡ b → Some i ≡ cond b None (Some (crossing_index t n run))
        → (i ≡ crossing_index t n run) × (i ≡ 2 ^ n → ⊥)
    go true q e = absurd (cc)
    go false q e =
        let is : i ≡ crossing_index t n run = cc in
        (is, λ r. eqb-false (crossing_index t n run) (2 ^ n) q (sym is ∙ r))

pub found_nothing : (t : Tree) (n run : ℕ) → None ≡ crossing_found t n run → crossing_index t n run ≡ 2 ^ n
found_nothing t n run e = go (eqb (crossing_index t n run) (2 ^ n)) refl e
  where
    go : (b : Bool) → eqb (crossing_index t n run) (2 ^ n) ≡ b → None ≡ cond b None (Some (crossing_index t n run)) → crossing_index t n run ≡ 2 ^ n
    go true q e = eqb-true (crossing_index t n run) (2 ^ n) q
    go false q e = absurd (cc)

-- the lowest number below n that passes, if one does
abbrev pub IsLowestBelow : (ℕ → Bool) → ℕ → Option ℕ → Type 0
IsLowestBelow p n r = MatchOption r (lowest p n ≡ n) (λ i. (i < n) × (i ≡ lowest p n))
