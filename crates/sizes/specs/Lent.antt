-- Numbers 1, 2 and 10 of a call that is brought one list or two: what code may rely on past them, and that they leave the work
-- space.
use Rattle.std.specs.Prelude.{ℕ, ◌+◌, ◌*◌, ◌≤◌, ◌≡◌, refl, ◌⊎◌, ◌≢◌, List, [], ◌∷◌, true, false, ◌||◌, length, eqb}
use Rattle.std.proofs.Common.{inl, inr, ⊎_elim, arith, eqb-true, eq-eqb}
use Rattle.meaning.specs.declared.Refusal.{Refusal}
use Rattle.meaning.specs.Rules.Limits.{most_nodes, work_per_node}
use Rattle.meaning.specs.Rules.Trees.{node_count}
use Rattle.meaning.specs.Rules.Assignments.{is_in}
use Rattle.meaning.specs.Rules.Refusals.{◌then◌, every, work_after}
use Rattle.meaning.specs.Rules.Layout.{sizes, work_for, room}
use Rattle.meaning.specs.Claims.Terms.{Says}
use Rattle.meaning.proofs.Laws.BoolLaws.{true_false, or_cases}
use Rattle.meaning.proofs.Laws.RefusalLaws.{then_first, then_rest, work_kept}
use Rattle.meaning.proofs.Laws.NumberLaws.{then_says}
use Rattle.meaning.proofs.Laws.RootLaws.{every_in}
use Rattle.meaning.proofs.Laws.ColumnLaws.{sizes_says, room_says, room_passed}
use Rattle.sizes.specs.Within.{sizes_within}

-- the row of the three, for so many words of work space
abbrev pub lent_row : List ℕ → List ℕ → ℕ → Refusal
lent_row ns ps work = sizes ns ps then room (work_for ns ps) work

-- "1 and 2 for each list, first list first; 10", the work space "summed over the lists brought"
abbrev pub lent_both_row : List ℕ → List ℕ → List ℕ → List ℕ → ℕ → Refusal
lent_both_row ns ps ms qs work = sizes ns ps then sizes ms qs then room (work_for ns ps + work_for ms qs) work

-- ---- "unchanged if 1, 2 or 10 refuses": a row of tests that answers with no other number leaves the work space
one_of_three : (n : ℕ) → is_in n (1 ∷ 2 ∷ 10 ∷ []) ≡ true → (n ≡ 1) ⊎ (n ≡ 2) ⊎ (n ≡ 10)
one_of_three n e =
    ⊎_elim (λ a. inl (eqb-true n 1 a))
    (λ b. ⊎_elim (λ a. inr (inl (eqb-true n 2 a)))
    (λ d. ⊎_elim (λ a. inr (inr (eqb-true n 10 a))) (λ no. absurd (true_false no refl)) (or_cases (eqb n 10) false d))
    (or_cases (eqb n 2) (eqb n 10 || false) b))
    (or_cases (eqb n 1) (eqb n 2 || (eqb n 10 || false)) e)

row_keeps : (r : Refusal) (work numbers : List ℕ) → Says r numbers → every (λ n. is_in n (1 ∷ 2 ∷ 10 ∷ [])) numbers ≡ true
    → r.number ≢ 0 → work_after r work ≡ work
row_keeps r work numbers says all h =
    work_kept r work (one_of_three r.number (every_in (λ n. is_in n (1 ∷ 2 ∷ 10 ∷ [])) numbers all r.number refusing))
  where
    refusing : is_in r.number numbers ≡ true
    refusing =
        ⊎_elim (λ a. absurd (h (eqb-true r.number 0 a))) (λ b. b) (or_cases (eqb r.number 0) (is_in r.number numbers) says.within)

module _ (ns ps : List ℕ) where
  -- past them, the list is within the limits and has its rows
  pub lent_room : (work : ℕ) → (lent_row ns ps work).number ≡ 0 → (node_count ns ≤ most_nodes) × (work_per_node * node_count ns ≤ work)
  lent_room work h =
      let row = eq-eqb (lent_row ns ps work).number 0 h in
      let sized : (sizes ns ps).number ≡ 0 = eqb-true (sizes ns ps).number 0 (then_first (sizes ns ps) (room (work_for ns ps) work) row) in
      let roomy : (room (work_for ns ps) work).number ≡ 0 = eqb-true (room (work_for ns ps) work).number 0 (then_rest (sizes ns ps) (room (work_for ns ps) work) row) in
      let enough : work_for ns ps ≤ work = (room_passed (work_for ns ps) work).when.0 roomy in
      ((sizes_within ns ps sized).0, omega (arith, enough))

  pub lent_keeps : (work : List ℕ) → (lent_row ns ps (length work)).number ≢ 0 → work_after (lent_row ns ps (length work)) work ≡ work
  lent_keeps work h =
      row_keeps (lent_row ns ps (length work)) work (1 ∷ 2 ∷ 10 ∷ [])
      (then_says (sizes_says ns ps) (room_says (work_for ns ps) (length work))) refl h

  -- ---- the same of two lists
  module _ (ms qs : List ℕ) where
    pub both_room : (work : ℕ) → (lent_both_row ns ps ms qs work).number ≡ 0
        → ((node_count ns ≤ most_nodes) × (node_count ms ≤ most_nodes)) × (work_per_node * (node_count ns + node_count ms) ≤ work)
    both_room work h =
        let asked : ℕ = work_for ns ps + work_for ms qs in
        let row = eq-eqb (lent_both_row ns ps ms qs work).number 0 h in
        let later = then_rest (sizes ns ps) (sizes ms qs then room asked work) row in
        let first : (sizes ns ps).number ≡ 0 = eqb-true (sizes ns ps).number 0 (then_first (sizes ns ps) (sizes ms qs then room asked work) row) in
        let second : (sizes ms qs).number ≡ 0 = eqb-true (sizes ms qs).number 0 (then_first (sizes ms qs) (room asked work) later) in
        let roomy : (room asked work).number ≡ 0 = eqb-true (room asked work).number 0 (then_rest (sizes ms qs) (room asked work) later) in
        let enough : asked ≤ work = (room_passed asked work).when.0 roomy in
        (((sizes_within ns ps first).0, (sizes_within ms qs second).0), omega (arith, enough))

    pub both_keeps : (work : List ℕ) → (lent_both_row ns ps ms qs (length work)).number ≢ 0
        → work_after (lent_both_row ns ps ms qs (length work)) work ≡ work
    both_keeps work h =
        row_keeps (lent_both_row ns ps ms qs (length work)) work (1 ∷ 2 ∷ 1 ∷ 2 ∷ 10 ∷ [])
        (then_says (sizes_says ns ps) (then_says (sizes_says ms qs) (room_says (work_for ns ps + work_for ms qs) (length work)))) refl h
