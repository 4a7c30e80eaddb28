-- Demand 2 of an answer that meets the contract of `func_equiv`: what a caller may read from it.
use Rattle.std.specs.Prelude.{ℕ, ◌≤◌, ◌≡◌, ◌↔◌, ◌⊎◌, ◌≢◌, List, length, Result, Ok}
use Rattle.std.proofs.Common.{sym, ap, subst, ◌∙◌}
use Rattle.meaning.specs.declared.Check.TheVariants.{Equiv}
use Rattle.meaning.specs.declared.Comparison as of_comparison
use Rattle.meaning.specs.declared.Refusal.{Refusal}
use Rattle.meaning.specs.Rules.Comparison.{Comparison, comparison_result}
use Rattle.meaning.specs.Rules.Limits.{most_inputs}
use Rattle.meaning.specs.Rules.Trees.{root_of}
use Rattle.meaning.specs.Rules.Assignments.{inputs}
use Rattle.meaning.specs.Rules.Calls.{Compared, compared, compare}
use Rattle.meaning.specs.Claims.Terms.{EverywhereEqual, Decided, whole_comparison}
use Rattle.meaning.proofs.Claims.Demands.{demand_2_equiv, demand_2_thirty, demand_2_otherwise, found_2_equiv, found_2_thirty, found_2_otherwise}

-- ---- of the rules' answer, with the refusal in it

-- a call's whole answer and what it left of the work space; the call was not refused
module _ (ns ps ms qs work left : List ℕ) (c : Comparison) (meets : compared c left ≡ compare ns ps ms qs work) (done : c.refusal.number ≡ 0) where
  answer : c ≡ (compare ns ps ms qs work).answer
  answer = ap (λ (o : Compared). o.answer) meets

  not_refused : (compare ns ps ms qs work).answer.refusal.number ≡ 0
  not_refused = ap (λ (x : Comparison). x.refusal.number) (sym answer) ∙ done

  -- "Equiv exactly if the two terms are the same tree or every assignment of the first root's inputs gives both roots one equal
  -- value"
  pub answer_equiv : (c.verdict ≡ Equiv) ↔ ((root_of ns ps ≡ root_of ms qs) ⊎ EverywhereEqual (root_of ns ps) (root_of ms qs))
  answer_equiv =
      subst (λ (x : Comparison). (x.verdict ≡ Equiv) ↔ ((root_of ns ps ≡ root_of ms qs) ⊎ EverywhereEqual (root_of ns ps) (root_of ms qs)))
      (sym answer) (demand_2_equiv ns ps ms qs work not_refused)

  -- "at most 30"
  pub answer_thirty : root_of ns ps ≢ root_of ms qs → length (inputs (root_of ns ps)) ≤ most_inputs
  answer_thirty = demand_2_thirty ns ps ms qs work not_refused

  -- "Otherwise the lowest assignment failing that decides: NotEquiv if both have values there, else Inconclusive"
  pub answer_otherwise : c.verdict ≢ Equiv → Decided (root_of ns ps) (root_of ms qs) c
  answer_otherwise =
      subst (λ (x : Comparison). x.verdict ≢ Equiv → Decided (root_of ns ps) (root_of ms qs) x) (sym answer)
      (demand_2_otherwise ns ps ms qs work not_refused)

-- ---- of what `func_equiv` hands back

-- an answer r that meets the clause `value` of its contract, an Ok with what was found: the call was not refused
module _ (ns ps ms qs work : List ℕ) (r : Result of_comparison.Comparison Refusal)
    (value : r ≡ comparison_result (compare ns ps ms qs work).answer) (found : of_comparison.Comparison) (ok : r ≡ Ok found) where
  pub found_equiv : (found.verdict ≡ Equiv) ↔ ((root_of ns ps ≡ root_of ms qs) ⊎ EverywhereEqual (root_of ns ps) (root_of ms qs))
  found_equiv = found_2_equiv ns ps ms qs work found (sym ok ∙ value)

  pub found_thirty : root_of ns ps ≢ root_of ms qs → length (inputs (root_of ns ps)) ≤ most_inputs
  found_thirty = found_2_thirty ns ps ms qs work found (sym ok ∙ value)

  pub found_otherwise : found.verdict ≢ Equiv → Decided (root_of ns ps) (root_of ms qs) (whole_comparison found)
  found_otherwise = found_2_otherwise ns ps ms qs work found (sym ok ∙ value)
