-- A search over the numbers below n whose first is asked before the others: `lowest` by what each part says.
use Rattle.std.specs.Prelude.{ℕ, zero, suc, ◌+◌, ◌-◌, ◌<◌, ◌≡◌, Bool, true, false, not, length, eqb}
use Rattle.std.specs.Bool.{MatchBool}
use Rattle.std.specs.List.{AllWithin, HoldsAt, range_with_len}
use Rattle.std.proofs.Common.{sym, ◌∙◌, arith}
use Rattle.std.proofs.lemmas.List.FromFn.{length-range_with_len, get_or-range_with_len}
use borrow.Author.Tests.{eq-eqb, ne_eqb}
use Rattle.meaning.specs.Rules.Search.{lowest}
use Rattle.meaning.proofs.Laws.BoolLaws.{true_false}
use Rattle.meaning.proofs.Laws.SearchLaws.{lowest_is, lowest_none}

module _ (p : ℕ → Bool) (n : ℕ) where
  -- there are none
  pub none_to_ask : n ≡ 0 → eqb n 0 ≡ eqb (lowest p n) n
  none_to_ask h = eq-eqb n 0 h ∙ sym (eq-eqb (lowest p n) n (lowest_none p n (λ j l. absurd (omega arith))))

  -- the one at i passes
  found_at : (i : ℕ) → i < n → p i ≡ true → false ≡ eqb (lowest p n) n
  found_at i l here =
      sym (ne_eqb (lowest p n) n (λ e. true_false here ((lowest_is p n).before i (omega arith) (omega arith))))

  pub first_passes : (r : Bool) → 0 < n → r ≡ false → p 0 ≡ not r → r ≡ eqb (lowest p n) n
  first_passes r l e here = e ∙ found_at 0 l (rw e at here)

  -- the first does not, and the others say r
  pub rest_asked : (r : Bool) → 0 < n → p 0 ≡ false
      → MatchBool r (AllWithin (λ j. p j ≡ false) (range_with_len 1 (n - 1)) 0 (length (range_with_len 1 (n - 1))))
      ((k : ℕ) × (k < length (range_with_len 1 (n - 1))) × HoldsAt (λ j. p j ≡ true) (range_with_len 1 (n - 1)) k)
      → r ≡ eqb (lowest p n) n
  rest_asked true l first h = sym (eq-eqb (lowest p n) n (lowest_none p n each))
    where
      each : (j : ℕ) → j < n → p j ≡ false
      each zero m = first
      each (suc i) m =
          let small : i < n - 1 = omega arith in
          let next : 1 + i ≡ suc i = omega arith in
          rw (get_or-range_with_len 1 (n - 1) i 0 small, next) at (h i 0 (omega arith) (omega (arith, length-range_with_len 1 (n - 1))))
  rest_asked false l first h =
      let small : h.0 < n - 1 = omega (arith, length-range_with_len 1 (n - 1), h.1) in
      found_at (1 + h.0) (omega arith) (rw (get_or-range_with_len 1 (n - 1) h.0 0 small) at (h.2 0))
