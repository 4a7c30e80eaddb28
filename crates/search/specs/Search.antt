-- "at the lowest faulty node": what a test of one node answers, and what a search from node 0 on that stops at the first
-- fault says.
use Rattle.std.specs.Prelude.{ℕ, suc, ◌-◌, ◌<◌, ◌≡◌, ◌≢◌, Result, Ok, Err, ⊤}
use Rattle.meaning.specs.declared.Refusal.{Refusal}
use Rattle.std.proofs.Common.{ap, sym, ◌∙◌, arith, eqb-true}
use Rattle.meaning.specs.Rules.Refusals.{done, refuse, numbered, answered, at_lowest}
use Rattle.meaning.proofs.Laws.NumberLaws.{lowest_exactly, all_done, lowest_zero}
use Rattle.meaning.proofs.Laws.RefusalLaws.{answered_refused, none_of_ok, number_of_err}

-- a test that answers each of the first n nodes by its number among the faults
abbrev pub Tests : (ℕ → Result ⊤ ℕ → Type 0) → ℕ → (ℕ → ℕ) → Type 0
Tests answers n faults = (i : ℕ) (r : Result ⊤ ℕ) → i < n → answers i r → r ≡ numbered (faults i)

-- ---- the search
module _ (n : ℕ) (fault : ℕ → ℕ) where
  pub search_found : (i : ℕ) → i < n → ((j : ℕ) → j < i → fault j ≡ 0) → 0 < fault i → refuse (fault i) i ≡ at_lowest n fault
  search_found i inside before here =
      let number : fault i ≡ suc (fault i - 1) = omega arith in
      let found : at_lowest n fault ≡ refuse (suc (fault i - 1)) i =
      ((lowest_exactly n fault {Fine = λ j. fault j ≡ 0} (λ j. (λ e. e, λ e. e)) (fault i - 1) {Faulty = λ j. fault j ≡ suc (fault i - 1)} (λ j. (λ e. e, λ e. e))
      ).when i).1 (record { exists = inside; here = number; below = before }) in
      ap (λ (k : ℕ). refuse k i) number ∙ sym found

  pub search_none : ((j : ℕ) → j < n → fault j ≡ 0) → done ≡ at_lowest n fault
  search_none fine = sym ((lowest_zero n fault).is (eqb-true (at_lowest n fault).number 0 (all_done n fault fine)))

module _ (answers : ℕ → Result ⊤ ℕ → Type 0) (n : ℕ) (faults : ℕ → ℕ) (tests : Tests answers n faults) where
  passed : (i : ℕ) → i < n → answers i (Ok tt) → faults i ≡ 0
  passed i l h = none_of_ok (faults i) (sym (tests i (Ok tt) l h))

  pub none_found : ((j : ℕ) → j < n → answers j (Ok tt)) → Ok tt ≡ answered (at_lowest n faults)
  none_found fine = ap answered (search_none n faults (λ j l. passed j l (fine j l)))

  pub first_found : (i : ℕ) → i < n → ((j : ℕ) → j < i → answers j (Ok tt)) → (number : ℕ) → answers i (Err number)
      → Err (refuse number i) ≡ answered (at_lowest n faults)
  first_found i inside before number here =
      let said : (faults i ≡ number) × (faults i ≢ 0) = number_of_err (faults i) number (sym (tests i (Err number) inside here)) in
      let found : refuse number i ≡ at_lowest n faults =
      ap (λ (k : ℕ). refuse k i) (sym said.0)
      ∙ search_found n faults i inside (λ j l. passed j (omega arith) (before j l)) (omega (arith, said.1)) in
      ap Err found ∙ sym (answered_refused (at_lowest n faults) (λ e. said.1 (said.0 ∙ ap (λ (r : Refusal). r.number) found ∙ e)))
