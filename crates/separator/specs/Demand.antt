-- Demand 3 of an answer that meets the contract of `separate`: what a caller may read from it.
use Rattle.std.specs.Prelude.{ℕ, ◌≡◌, ◌↔◌, ◌≢◌, List, Result, Ok}
use Rattle.std.proofs.Common.{sym, ap, subst, ◌∙◌}
use Rattle.meaning.specs.declared.Judgement.TheVariants.{Separate}
use Rattle.meaning.specs.declared.Separation as of_separation
use Rattle.meaning.specs.declared.Refusal.{Refusal}
use Rattle.meaning.specs.Rules.Separation.{Separation, separation_result}
use Rattle.meaning.specs.Rules.Trees.{root_of}
use Rattle.meaning.specs.Rules.Calls.{Judged, judged, separate}
use Rattle.meaning.specs.Claims.Terms.{NoCrossing, Crosses, whole_separation}
use Rattle.meaning.proofs.Claims.Demands.{demand_3_separate, demand_3_otherwise, found_3_separate, found_3_otherwise}

-- ---- of the rules' answer, with the refusal in it

-- a call's whole answer and what it left of the work space; the call was not refused
module _ (ns ps : List ℕ) (n run : ℕ) (work left : List ℕ) (s : Separation) (meets : judged s left ≡ separate ns ps n run work) (done : s.refusal.number ≡ 0) where
  answer : s ≡ (separate ns ps n run work).answer
  answer = ap (λ (o : Judged). o.answer) meets

  not_refused : (separate ns ps n run work).answer.refusal.number ≡ 0
  not_refused = ap (λ (x : Separation). x.refusal.number) (sym answer) ∙ done

  -- "Separate exactly when any two assignments that agree on all unmarked variables give the root the same answer, value or
  -- named failure"
  pub answer_separate : (s.judgement ≡ Separate) ↔ NoCrossing (root_of ns ps) n run
  answer_separate =
      subst (λ (x : Separation). (x.judgement ≡ Separate) ↔ NoCrossing (root_of ns ps) n run) (sym answer)
      (demand_3_separate ns ps n run work not_refused)

  -- "Otherwise we name the lowest assignment that answers differently from itself with its run bits cleared"
  pub answer_otherwise : s.judgement ≢ Separate → Crosses (root_of ns ps) n run s
  answer_otherwise =
      subst (λ (x : Separation). x.judgement ≢ Separate → Crosses (root_of ns ps) n run x) (sym answer)
      (demand_3_otherwise ns ps n run work not_refused)

-- ---- of what `separate` hands back

-- an answer r that meets the clause `value` of its contract, an Ok with what was found: the call was not refused
module _ (ns ps : List ℕ) (n run : ℕ) (work : List ℕ) (r : Result of_separation.Separation Refusal)
    (value : r ≡ separation_result (separate ns ps n run work).answer) (found : of_separation.Separation) (ok : r ≡ Ok found) where
  pub found_separate : (found.judgement ≡ Separate) ↔ NoCrossing (root_of ns ps) n run
  found_separate = found_3_separate ns ps n run work found (sym ok ∙ value)

  pub found_otherwise : found.judgement ≢ Separate → Crosses (root_of ns ps) n run (whole_separation found)
  found_otherwise = found_3_otherwise ns ps n run work found (sym ok ∙ value)
