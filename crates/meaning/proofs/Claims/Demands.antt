-- The customer's demands, as theorems about the outcomes of Rules/Calls, in the customer's words (Claims/Terms has them).
use Rattle.std.specs.Prelude.{ℕ, ◌≤◌, ◌<◌, ◌≡◌, ◌↔◌, ◌⊎◌, ◌≢◌, List, true, length, replicate, Ok, Err}
use Rattle.std.proofs.Common.{sym, ap, subst, ◌∙◌}
use Rattle.meaning.specs.declared.Check.TheVariants.{Equiv}
use Rattle.meaning.specs.declared.Judgement.TheVariants.{Separate}
use Rattle.meaning.specs.declared.Refusal.{Refusal}
use Rattle.meaning.specs.declared.Comparison as of_comparison
use Rattle.meaning.specs.declared.Separation as of_separation
use Rattle.meaning.specs.declared.Canonical as of_canonical
use Rattle.meaning.specs.Rules.Limits.{most_inputs}
use Rattle.meaning.specs.Rules.Kinds.{kind_of, is_plain}
use Rattle.meaning.specs.Rules.Trees.{node_count, kind_at, root_of}
use Rattle.meaning.specs.Rules.Refusals.{work_after}
use Rattle.meaning.specs.Rules.Comparison.{Comparison, comparison_result, comparison_said}
use Rattle.meaning.specs.Rules.Separation.{Separation, separation_result, separation_said}
use Rattle.meaning.specs.Rules.Layout.{work_for}
use Rattle.meaning.specs.Rules.Reach.{reachable}
use Rattle.meaning.specs.Rules.Assignments.{inputs}
use Rattle.meaning.specs.Rules.Pairs.{pairs}
use Rattle.meaning.specs.Rules.Canonical.{canonical_nodes, canonical_pool}
use Rattle.meaning.specs.Rules.Calls.{evaluate_refusal, evaluation, evaluation_result, evaluate, compare, canonical_refusal, Canonical, canonical, canonical_result, canonical_said, canonicalise, separate}
use Rattle.meaning.specs.Claims.Terms.{EverywhereEqual, Decided, whole_comparison, NoCrossing, Crosses, whole_separation}
use Rattle.meaning.proofs.Laws.RefusalLaws.{refused_output, work_kept, work_cleared}
use Rattle.meaning.proofs.Laws.ComparisonLaws.{equiv_exactly, otherwise_lowest, compared_trees, few_inputs}
use Rattle.meaning.proofs.Laws.SeparationLaws.{separate_exactly, otherwise_crossing, judged_tree, judged_marks}
use Rattle.meaning.proofs.Laws.KeptLaws.{kept_judgement}
use Rattle.meaning.proofs.Laws.ResultLaws.{compare_back, separate_back, canonical_back, handed_refuses}

-- ==== Demand 1: "Every entry point takes any words at all, ends, and answers": each outcome of Rules/Calls is a function of
-- the words that came in, so it is there for any words, and Claims/Only says that no second one meets the contract. "Bad
-- input gets a numbered refusal": Claims/Numbers. "and a refused call has changed no buffer it was lent but scratch":

pub demand_1_evaluate : (ns ps bytes work out : List ℕ)
    → (evaluate ns ps bytes work out).answer.refusal.number ≢ 0 → (evaluate ns ps bytes work out).out ≡ out
unfolding evaluate evaluation
demand_1_evaluate ns ps bytes work out h = refused_output (evaluate_refusal ns ps bytes (length work) (length out)) (pairs ns ps bytes) out h

pub demand_1_canonicalise : (ns ps work out_nodes out_pool : List ℕ)
    → (canonicalise ns ps work out_nodes out_pool).answer.refusal.number ≢ 0
    → ((canonicalise ns ps work out_nodes out_pool).out_nodes ≡ out_nodes) × ((canonicalise ns ps work out_nodes out_pool).out_pool ≡ out_pool)
unfolding canonicalise canonical
demand_1_canonicalise ns ps work out_nodes out_pool h =
    let r = canonical_refusal ns ps (length work) (length out_nodes) (length out_pool) in
    (refused_output r (canonical_nodes ns ps) out_nodes h, refused_output r (canonical_pool ns ps) out_pool h)

-- the same where code hands back an Err
pub found_1_evaluate : (ns ps bytes work out : List ℕ) (r : Refusal)
    → Err r ≡ evaluation_result (evaluate ns ps bytes work out).answer → (evaluate ns ps bytes work out).out ≡ out
found_1_evaluate ns ps bytes work out r h =
    let e = (evaluate ns ps bytes work out).answer in
    demand_1_evaluate ns ps bytes work out (handed_refuses e.refusal e.answer r h)

pub found_1_canonicalise : (ns ps work out_nodes out_pool : List ℕ) (r : Refusal)
    → Err r ≡ canonical_result (canonicalise ns ps work out_nodes out_pool).answer
    → ((canonicalise ns ps work out_nodes out_pool).out_nodes ≡ out_nodes) × ((canonicalise ns ps work out_nodes out_pool).out_pool ≡ out_pool)
found_1_canonicalise ns ps work out_nodes out_pool r h =
    demand_1_canonicalise ns ps work out_nodes out_pool (handed_refuses (canonicalise ns ps work out_nodes out_pool).answer.refusal _ r h)

-- (writing a verdict's name: Claims/Tables, `display_kept`)

-- scratch: "unchanged if 1, 2 or 10 refuses, else all zeros", of any call
pub scratch_kept : (r : Refusal) (work : List ℕ) → (r.number ≡ 1) ⊎ (r.number ≡ 2) ⊎ (r.number ≡ 10) → work_after r work ≡ work
scratch_kept = work_kept

pub scratch_cleared : (r : Refusal) (work : List ℕ) → r.number ≢ 1 → r.number ≢ 2 → r.number ≢ 10 → work_after r work ≡ replicate (length work) 0
scratch_cleared = work_cleared

-- ==== Demand 2: a comparison of two lists that is not refused
module _ (ns ps ms qs work : List ℕ) (done : (compare ns ps ms qs work).answer.refusal.number ≡ 0) where
  -- "Equiv exactly if the two terms are the same tree or every assignment of the first root's inputs gives both roots one
  -- equal value"
  pub demand_2_equiv :
      ((compare ns ps ms qs work).answer.verdict ≡ Equiv)
      ↔ ((root_of ns ps ≡ root_of ms qs) ⊎ EverywhereEqual (root_of ns ps) (root_of ms qs))
  unfolding compare
  demand_2_equiv = rw (compared_trees ns ps ms qs (length work) done) (equiv_exactly (root_of ns ps) (root_of ms qs))

  -- "at most 30"
  pub demand_2_thirty : root_of ns ps ≢ root_of ms qs → length (inputs (root_of ns ps)) ≤ most_inputs
  unfolding compare
  demand_2_thirty = few_inputs ns ps ms qs (length work) done

  -- "Otherwise the lowest assignment failing that decides: NotEquiv if both have values there, else Inconclusive"
  pub demand_2_otherwise :
      (compare ns ps ms qs work).answer.verdict ≢ Equiv
      → Decided (root_of ns ps) (root_of ms qs) (compare ns ps ms qs work).answer
  unfolding compare
  demand_2_otherwise = rw (compared_trees ns ps ms qs (length work) done) (otherwise_lowest (root_of ns ps) (root_of ms qs))

-- what code hands back of it, an Ok: its fields, as they are called, are the rules'
module _ (ns ps ms qs work : List ℕ) (found : of_comparison.Comparison)
    (handed : Ok found ≡ comparison_result (compare ns ps ms qs work).answer) where
  is_comparison : whole_comparison found ≡ (compare ns ps ms qs work).answer
  is_comparison = ap comparison_said handed ∙ compare_back ns ps ms qs work

  compared_all : (compare ns ps ms qs work).answer.refusal.number ≡ 0
  compared_all = ap (λ (c : Comparison). c.refusal.number) (sym is_comparison)

  pub found_2_equiv : (found.verdict ≡ Equiv) ↔ ((root_of ns ps ≡ root_of ms qs) ⊎ EverywhereEqual (root_of ns ps) (root_of ms qs))
  found_2_equiv =
      subst (λ (c : Comparison). (c.verdict ≡ Equiv) ↔ ((root_of ns ps ≡ root_of ms qs) ⊎ EverywhereEqual (root_of ns ps) (root_of ms qs)))
      (sym is_comparison) (demand_2_equiv ns ps ms qs work compared_all)

  pub found_2_thirty : root_of ns ps ≢ root_of ms qs → length (inputs (root_of ns ps)) ≤ most_inputs
  found_2_thirty = demand_2_thirty ns ps ms qs work compared_all

  pub found_2_otherwise : found.verdict ≢ Equiv → Decided (root_of ns ps) (root_of ms qs) (whole_comparison found)
  found_2_otherwise =
      subst (λ (c : Comparison). c.verdict ≢ Equiv → Decided (root_of ns ps) (root_of ms qs) c) (sym is_comparison)
      (demand_2_otherwise ns ps ms qs work compared_all)

-- ==== Demand 3: a separation that is not refused
module _ (ns ps : List ℕ) (n run : ℕ) (work : List ℕ) (done : (separate ns ps n run work).answer.refusal.number ≡ 0) where
  -- "Separate exactly when any two assignments that agree on all unmarked variables give the root the same answer, value or
  -- named failure"
  pub demand_3_separate : ((separate ns ps n run work).answer.judgement ≡ Separate) ↔ NoCrossing (root_of ns ps) n run
  unfolding separate
  demand_3_separate =
      rw (judged_tree ns ps n run (length work) done) (separate_exactly (root_of ns ps) n run (judged_marks ns ps n run (length work) done))

  -- "Otherwise we name the lowest assignment that answers differently from itself with its run bits cleared"
  pub demand_3_otherwise :
      (separate ns ps n run work).answer.judgement ≢ Separate → Crosses (root_of ns ps) n run (separate ns ps n run work).answer
  unfolding separate
  demand_3_otherwise =
      rw (judged_tree ns ps n run (length work) done) (otherwise_crossing (root_of ns ps) n run (judged_marks ns ps n run (length work) done))

-- what code hands back of it, an Ok
module _ (ns ps : List ℕ) (n run : ℕ) (work : List ℕ) (found : of_separation.Separation)
    (handed : Ok found ≡ separation_result (separate ns ps n run work).answer) where
  is_separation : whole_separation found ≡ (separate ns ps n run work).answer
  is_separation = ap separation_said handed ∙ separate_back ns ps n run work

  judged_all : (separate ns ps n run work).answer.refusal.number ≡ 0
  judged_all = ap (λ (s : Separation). s.refusal.number) (sym is_separation)

  pub found_3_separate : (found.judgement ≡ Separate) ↔ NoCrossing (root_of ns ps) n run
  found_3_separate =
      subst (λ (s : Separation). (s.judgement ≡ Separate) ↔ NoCrossing (root_of ns ps) n run) (sym is_separation)
      (demand_3_separate ns ps n run work judged_all)

  pub found_3_otherwise : found.judgement ≢ Separate → Crosses (root_of ns ps) n run (whole_separation found)
  found_3_otherwise =
      subst (λ (s : Separation). s.judgement ≢ Separate → Crosses (root_of ns ps) n run s) (sym is_separation)
      (demand_3_otherwise ns ps n run work judged_all)

-- "If no don't-care, register or ARG node is the root or lies below it and the canonicaliser accepts the list, its canonical
-- list, lent work space enough for its own size, gets the same judgement and assignment": it gets the whole same answer
pub demand_3_canonical : (ns ps : List ℕ) (n run : ℕ) (work work₂ out_nodes out_pool work₃ : List ℕ)
    → (separate ns ps n run work).answer.refusal.number ≡ 0
    → (canonicalise ns ps work₂ out_nodes out_pool).answer.refusal.number ≡ 0
    → ((i : ℕ) → i < node_count ns → reachable ns ps i ≡ true → is_plain (kind_of (kind_at ns i)) ≡ true)
    → work_for (canonical_nodes ns ps) (canonical_pool ns ps) ≤ length work₃
    → (separate (canonical_nodes ns ps) (canonical_pool ns ps) n run work₃).answer ≡ (separate ns ps n run work).answer
unfolding separate canonicalise canonical
demand_3_canonical ns ps n run work work₂ out_nodes out_pool work₃ =
    kept_judgement ns ps n run (length work) (length work₂) (length out_nodes) (length out_pool) (length work₃)

-- the same of what code hands back: of an Ok of the canonicaliser and an Ok of the separation
pub found_3_canonical : (ns ps : List ℕ) (n run : ℕ) (work work₂ out_nodes out_pool work₃ : List ℕ)
    (s : of_separation.Separation) (c : of_canonical.Canonical)
    → Ok s ≡ separation_result (separate ns ps n run work).answer
    → Ok c ≡ canonical_result (canonicalise ns ps work₂ out_nodes out_pool).answer
    → ((i : ℕ) → i < node_count ns → reachable ns ps i ≡ true → is_plain (kind_of (kind_at ns i)) ≡ true)
    → work_for (canonical_nodes ns ps) (canonical_pool ns ps) ≤ length work₃
    → separation_result (separate (canonical_nodes ns ps) (canonical_pool ns ps) n run work₃).answer ≡ Ok s
found_3_canonical ns ps n run work work₂ out_nodes out_pool work₃ s c of_given of_list plain enough =
    let accepts = ap canonical_said of_list ∙ canonical_back ns ps work₂ out_nodes out_pool in
    ap separation_result (
    demand_3_canonical ns ps n run work work₂ out_nodes out_pool work₃ (judged_all ns ps n run work s of_given)
    (ap (λ (x : Canonical). x.refusal.number) (sym accepts)) plain enough
    ) ∙ sym of_given
