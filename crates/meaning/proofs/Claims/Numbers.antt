-- "Numbers a call answers with": for each number that a call can answer, "this number exactly when", in the words of the
-- table's column (Claims/Column) and of the order below it, with the node that it names.
-- `Exactly r n P`: r is number n at node i exactly when P i. `NoNode P i`: P, and i is 0. `Passed r P`: r is 0 exactly when
-- P. `Says r a`: r is 0 or a number of a, and no other.
use Rattle.std.specs.Prelude.{ℕ, suc, ◌+◌, ◌%◌, ◌≤◌, ◌<◌, ◌≡◌, ◌⊎◌, List, [], ◌∷◌, ◌++◌, true, false, ◌||◌, length, ltb, leb, Ok, Err}
use Rattle.std.proofs.Math.Path.{refl}
use Rattle.std.proofs.Common.{arith, ne_eqb, sym, ap, ◌∙◌}
use Rattle.meaning.specs.declared.Refusal.{Refusal}
use Rattle.meaning.specs.declared.Answer.{Answer}
use Rattle.meaning.specs.declared.Comparison as of_comparison
use Rattle.meaning.specs.declared.Separation as of_separation
use Rattle.meaning.specs.declared.Canonical as of_canonical
use Rattle.meaning.specs.Rules.Limits.{words_per_node, most_inputs}
use Rattle.meaning.specs.Rules.Numbers.{short_output}
use Rattle.meaning.specs.Rules.Trees.{root_of, same}
use Rattle.meaning.specs.Rules.Refusals.{◌then◌, require, every, answered}
use Rattle.meaning.specs.Rules.Layout.{sizes, work_for, room, layout}
use Rattle.meaning.specs.Rules.Verification.{verification}
use Rattle.meaning.specs.Rules.Evaluable.{sound}
use Rattle.meaning.specs.Rules.Assignments.{inputs, is_in}
use Rattle.meaning.specs.Rules.Pairs.{pair_words}
use Rattle.meaning.specs.Rules.Separation.{Separation, bounded, separate_tree, separation_refused, in_bounds, separation_result}
use Rattle.meaning.specs.Rules.Separation as rule
use Rattle.meaning.specs.Rules.Comparison.{Comparison, few_inputs, compare_trees, comparison_refused, found, comparison_result}
use Rattle.meaning.specs.Rules.Canonical.{gates}
use Rattle.meaning.specs.Rules.Calls.{Evaluation, Canonical, evaluation_result, canonical_result, verify_refusal, verify, assigned, fits_pairs, evaluate_refusal, evaluation, evaluate, compare_refusal, comparison, compare, separate_refusal, separation, fits_lists, canonical_refusal, canonical, canonicalise, separate}
use Rattle.meaning.specs.Claims.Terms.{NoNode, Exactly, Passed, Says}
use Rattle.meaning.specs.Claims.Column.{Misaligned, OverLimit, Sized, KindAbove, BreaksLayout, ChildNotBelow, WellLaid, Unverified, Verifies, Empty, Rooted, Misfit, Fits, WideGate, NoWideGate, All, Lowest, Sound, ManyInputs, OutOfBounds, InBounds, NoAssignment, IsAssignment, NoRoom, Room}
use Rattle.meaning.proofs.Laws.NumberLaws.{then_says, require_says, late_apart, here, skip, either, both_passed, require_zero, then_zero, carries}
use Rattle.meaning.proofs.Laws.ColumnLaws.{sizes_says, sizes_passed, sizes_1, sizes_2, layout_says, layout_passed, layout_3, layout_4, layout_5, verification_says, verification_passed, verification_6, gates_says, gates_passed, gates_14, room_says, room_passed, room_10, few_says, few_passed, few_9, bounded_says, bounded_passed, bounded_11, assigned_says, assigned_passed, assigned_12, pairs_says, pairs_passed, pairs_19, lists_passed, lists_19, sound_says, sound_passed, sound_3, sound_4, sound_5, sound_6, sound_7, sound_8, sizes_zero, sound_zero}
use Rattle.meaning.proofs.Laws.ComparisonLaws.{compared_done}
use Rattle.meaning.proofs.Laws.SeparationLaws.{judged_no_refusal}
use Rattle.meaning.proofs.Laws.ResultLaws.{handed_err, handed_ok}

-- ==== verify: 1, 2, 10, 3, 4, 5, 6; "never answers 7 or 8"
module _ (ns ps : List ℕ) (work : ℕ) where
  after_room : Says (layout ns ps then verification ns ps) (3 ∷ 4 ∷ 5 ∷ 6 ∷ [])
  after_room = then_says (layout_says ns ps) (verification_says ns ps)

  after_sizes : Says (room (work_for ns ps) work then layout ns ps then verification ns ps) (10 ∷ 3 ∷ 4 ∷ 5 ∷ 6 ∷ [])
  after_sizes = then_says (room_says (work_for ns ps) work) after_room

  pub verify_says : Says (verify_refusal ns ps work) (1 ∷ 2 ∷ 10 ∷ 3 ∷ 4 ∷ 5 ∷ 6 ∷ [])
  unfolding verify_refusal
  verify_says = then_says (sizes_says ns ps) after_sizes

  pub verify_0 :
      Passed (verify_refusal ns ps work)
      (Sized ns ps × ((work_for ns ps ≤ work) × (All ns ps (WellLaid ns ps) × All ns ps (Verifies ns ps))))
  unfolding verify_refusal
  verify_0 =
      both_passed (sizes_passed ns ps) (both_passed (room_passed (work_for ns ps) work) (both_passed (layout_passed ns ps) (verification_passed ns ps)))

  pub verify_1 : Exactly (verify_refusal ns ps work) 1 (NoNode (Misaligned ns ps))
  unfolding verify_refusal
  verify_1 = here (sizes_1 ns ps) after_sizes refl

  pub verify_2 : Exactly (verify_refusal ns ps work) 2 (λ i. (length ns % words_per_node ≡ 0) × NoNode (OverLimit ns ps) i)
  unfolding verify_refusal
  verify_2 = here (sizes_2 ns ps) after_sizes refl

  pub verify_10 : Exactly (verify_refusal ns ps work) 10 (λ i. Sized ns ps × NoNode (work < work_for ns ps) i)
  unfolding verify_refusal
  verify_10 = skip (sizes_says ns ps) refl (sizes_passed ns ps) (here (room_10 (work_for ns ps) work) after_room refl)

  -- past 1, 2 and 10
  begun : {n : ℕ} {P : ℕ → Type 0} → is_in (suc n) (0 ∷ 1 ∷ 2 ∷ []) ≡ false → is_in (suc n) (0 ∷ 10 ∷ []) ≡ false
      → Exactly (layout ns ps then verification ns ps) (suc n) P
      → Exactly (verify_refusal ns ps work) (suc n) (λ i. Sized ns ps × ((work_for ns ps ≤ work) × P i))
  unfolding verify_refusal
  begun a b e = skip (sizes_says ns ps) a (sizes_passed ns ps) (skip (room_says (work_for ns ps) work) b (room_passed (work_for ns ps) work) e)

  pub verify_3 :
      Exactly (verify_refusal ns ps work) 3
      (λ i. Sized ns ps × ((work_for ns ps ≤ work) × Lowest ns ps (WellLaid ns ps) (KindAbove ns ps) i))
  verify_3 = begun refl refl (here (layout_3 ns ps) (verification_says ns ps) refl)

  pub verify_4 :
      Exactly (verify_refusal ns ps work) 4
      (λ i. Sized ns ps × ((work_for ns ps ≤ work) × Lowest ns ps (WellLaid ns ps) (BreaksLayout ns ps) i))
  verify_4 = begun refl refl (here (layout_4 ns ps) (verification_says ns ps) refl)

  pub verify_5 :
      Exactly (verify_refusal ns ps work) 5
      (λ i. Sized ns ps × ((work_for ns ps ≤ work) × Lowest ns ps (WellLaid ns ps) (ChildNotBelow ns ps) i))
  verify_5 = begun refl refl (here (layout_5 ns ps) (verification_says ns ps) refl)

  pub verify_6 :
      Exactly (verify_refusal ns ps work) 6
      (λ i. Sized ns ps × ((work_for ns ps ≤ work) × (All ns ps (WellLaid ns ps) × Lowest ns ps (Verifies ns ps) (Unverified ns ps) i)))
  verify_6 = begun refl refl (skip (layout_says ns ps) refl (layout_passed ns ps) (verification_6 ns ps))

-- ==== evaluate, separate, canonicalise: 1, 2, 10, 3 to 8 of their one list, and then the call's own tests, `own`, whose
-- numbers are 11 and above. Stated once for the three.
abbrev pub one_list : List ℕ → List ℕ → ℕ → Refusal → Refusal
one_list ns ps work own = sizes ns ps then room (work_for ns ps) work then sound ns ps then own

module _ (ns ps : List ℕ) (work : ℕ) {own : Refusal} {a : List ℕ} (own_says : Says own a) (late : every (λ m. ltb 10 m) a ≡ true) where
  abbrev row : Refusal
  row = one_list ns ps work own

  apart : (n : ℕ) → n < 10 → is_in (suc n) (0 ∷ a) ≡ false
  apart n l = rw (ne_eqb (suc n) 0 (λ e. omega arith)) (late_apart a late n l)

  list_and_own : Says (sound ns ps then own) ((3 ∷ 4 ∷ 5 ∷ 6 ∷ 7 ∷ 8 ∷ []) ++ a)
  list_and_own = then_says (sound_says ns ps) own_says

  room_and_on : Says (room (work_for ns ps) work then sound ns ps then own) ((10 ∷ []) ++ ((3 ∷ 4 ∷ 5 ∷ 6 ∷ 7 ∷ 8 ∷ []) ++ a))
  room_and_on = then_says (room_says (work_for ns ps) work) list_and_own

  pub one_list_1 : Exactly row 1 (NoNode (Misaligned ns ps))
  one_list_1 = here (sizes_1 ns ps) room_and_on (apart 0 (omega arith))

  pub one_list_2 : Exactly row 2 (λ i. (length ns % words_per_node ≡ 0) × NoNode (OverLimit ns ps) i)
  one_list_2 = here (sizes_2 ns ps) room_and_on (apart 1 (omega arith))

  pub one_list_10 : Exactly row 10 (λ i. Sized ns ps × NoNode (work < work_for ns ps) i)
  one_list_10 = skip (sizes_says ns ps) refl (sizes_passed ns ps) (here (room_10 (work_for ns ps) work) list_and_own (apart 9 (omega arith)))

  -- past 1, 2 and 10, at a number of the list's own row
  in_list : (n : ℕ) {P : ℕ → Type 0} → is_in (suc n) (0 ∷ 1 ∷ 2 ∷ []) ≡ false → is_in (suc n) (0 ∷ 10 ∷ []) ≡ false → n < 10
      → Exactly (sound ns ps) (suc n) P → Exactly row (suc n) (λ i. Sized ns ps × ((work_for ns ps ≤ work) × P i))
  in_list n p q small e =
      skip (sizes_says ns ps) p (sizes_passed ns ps) (skip (room_says (work_for ns ps) work) q (room_passed (work_for ns ps) work) (here e own_says (apart n small)))

  pub one_list_3 : Exactly row 3 (λ i. Sized ns ps × ((work_for ns ps ≤ work) × Lowest ns ps (WellLaid ns ps) (KindAbove ns ps) i))
  one_list_3 = in_list 2 refl refl (omega arith) (sound_3 ns ps)

  pub one_list_4 : Exactly row 4 (λ i. Sized ns ps × ((work_for ns ps ≤ work) × Lowest ns ps (WellLaid ns ps) (BreaksLayout ns ps) i))
  one_list_4 = in_list 3 refl refl (omega arith) (sound_4 ns ps)

  pub one_list_5 : Exactly row 5 (λ i. Sized ns ps × ((work_for ns ps ≤ work) × Lowest ns ps (WellLaid ns ps) (ChildNotBelow ns ps) i))
  one_list_5 = in_list 4 refl refl (omega arith) (sound_5 ns ps)

  pub one_list_6 :
      Exactly row 6
      (λ i. Sized ns ps × ((work_for ns ps ≤ work) × (All ns ps (WellLaid ns ps) × Lowest ns ps (Verifies ns ps) (Unverified ns ps) i)))
  one_list_6 = in_list 5 refl refl (omega arith) (sound_6 ns ps)

  pub one_list_7 :
      Exactly row 7
      (λ i. Sized ns ps × ((work_for ns ps ≤ work) × (All ns ps (WellLaid ns ps) × (All ns ps (Verifies ns ps) × NoNode (Empty ns ps) i))))
  one_list_7 = in_list 6 refl refl (omega arith) (sound_7 ns ps)

  pub one_list_8 :
      Exactly row 8
      (λ i. Sized ns ps × ((work_for ns ps ≤ work)
      × (All ns ps (WellLaid ns ps) × (All ns ps (Verifies ns ps) × (Rooted ns ps × Lowest ns ps (Fits ns ps) (Misfit ns ps) i)))))
  one_list_8 = in_list 7 refl refl (omega arith) (sound_8 ns ps)

  -- past number 8
  pub one_list_own : (n : ℕ) {P : ℕ → Type 0} → is_in (suc n) (0 ∷ 1 ∷ 2 ∷ []) ≡ false → is_in (suc n) (0 ∷ 10 ∷ []) ≡ false
      → is_in (suc n) (0 ∷ 3 ∷ 4 ∷ 5 ∷ 6 ∷ 7 ∷ 8 ∷ []) ≡ false → Exactly own (suc n) P
      → Exactly row (suc n) (λ i. Sized ns ps × ((work_for ns ps ≤ work) × (Sound ns ps × P i)))
  one_list_own n p q r e =
      skip (sizes_says ns ps) p (sizes_passed ns ps)
      (skip (room_says (work_for ns ps) work) q (room_passed (work_for ns ps) work) (skip (sound_says ns ps) r (sound_passed ns ps) e))

  pub one_list_says : Says row ((1 ∷ 2 ∷ []) ++ ((10 ∷ []) ++ ((3 ∷ 4 ∷ 5 ∷ 6 ∷ 7 ∷ 8 ∷ []) ++ a)))
  one_list_says = then_says (sizes_says ns ps) room_and_on

-- 0: every test passes
pub one_list_0 : (ns ps : List ℕ) (work : ℕ) {own : Refusal} {P : Type 0} → Passed own P
    → Passed (one_list ns ps work own) (Sized ns ps × ((work_for ns ps ≤ work) × (Sound ns ps × P)))
one_list_0 ns ps work p = both_passed (sizes_passed ns ps) (both_passed (room_passed (work_for ns ps) work) (both_passed (sound_passed ns ps) p))

-- ==== evaluate: besides those, 12 and 19
module _ (ns ps bytes : List ℕ) (work out : ℕ) where
  abbrev pub evaluate_own : Refusal
  evaluate_own = assigned bytes then fits_pairs ns out

  -- evaluate is such a call, so that `one_list_1` to `one_list_10` hold of it
  pub evaluate_row : evaluate_refusal ns ps bytes work out ≡ one_list ns ps work evaluate_own
  unfolding evaluate_refusal
  evaluate_row = refl

  pub evaluate_own_says : Says evaluate_own (12 ∷ 19 ∷ [])
  evaluate_own_says = then_says (assigned_says bytes) (pairs_says ns out)

  pub evaluate_says : Says (evaluate_refusal ns ps bytes work out) (1 ∷ 2 ∷ 10 ∷ 3 ∷ 4 ∷ 5 ∷ 6 ∷ 7 ∷ 8 ∷ 12 ∷ 19 ∷ [])
  unfolding evaluate_refusal
  evaluate_says = one_list_says ns ps work evaluate_own_says refl

  pub evaluate_12 :
      Exactly (evaluate_refusal ns ps bytes work out) 12
      (λ i. Sized ns ps × ((work_for ns ps ≤ work) × (Sound ns ps × NoNode (NoAssignment bytes) i)))
  unfolding evaluate_refusal
  evaluate_12 = one_list_own ns ps work evaluate_own_says refl 11 refl refl refl (here (assigned_12 bytes) (pairs_says ns out) refl)

  pub evaluate_19 :
      Exactly (evaluate_refusal ns ps bytes work out) 19
      (λ i. Sized ns ps × ((work_for ns ps ≤ work) × (Sound ns ps × (IsAssignment bytes × NoNode (out < pair_words ns) i))))
  unfolding evaluate_refusal
  evaluate_19 =
      one_list_own ns ps work evaluate_own_says refl 18 refl refl refl
      (skip (assigned_says bytes) refl (assigned_passed bytes) (pairs_19 ns out))

  pub evaluate_0 :
      Passed (evaluate_refusal ns ps bytes work out)
      (Sized ns ps × ((work_for ns ps ≤ work) × (Sound ns ps × (IsAssignment bytes × (pair_words ns ≤ out)))))
  unfolding evaluate_refusal
  evaluate_0 = one_list_0 ns ps work (both_passed (assigned_passed bytes) (pairs_passed ns out))

-- ==== separate: besides those, 11
module _ (ns ps : List ℕ) (n run work : ℕ) where
  -- separate is such a call
  pub separate_row : separate_refusal ns ps n run work ≡ one_list ns ps work (bounded ns n run)
  unfolding separate_refusal
  separate_row = refl

  pub separate_says : Says (separate_refusal ns ps n run work) (1 ∷ 2 ∷ 10 ∷ 3 ∷ 4 ∷ 5 ∷ 6 ∷ 7 ∷ 8 ∷ 11 ∷ [])
  unfolding separate_refusal
  separate_says = one_list_says ns ps work (bounded_says ns n run) refl

  pub separate_11 :
      Exactly (separate_refusal ns ps n run work) 11
      (λ i. Sized ns ps × ((work_for ns ps ≤ work) × (Sound ns ps × NoNode (OutOfBounds ns n run) i)))
  unfolding separate_refusal
  separate_11 = one_list_own ns ps work (bounded_says ns n run) refl 10 refl refl refl (bounded_11 ns n run)

  pub separate_0 :
      Passed (separate_refusal ns ps n run work)
      (Sized ns ps × ((work_for ns ps ≤ work) × (Sound ns ps × InBounds ns n run)))
  unfolding separate_refusal
  separate_0 = one_list_0 ns ps work (bounded_passed ns n run)

-- ==== canonicalise: besides those, 14 and 19
module _ (ns ps : List ℕ) (work out_nodes out_pool : ℕ) where
  abbrev pub canonical_own : Refusal
  canonical_own = gates ns ps then require (fits_lists ns ps out_nodes out_pool) short_output

  -- canonicalise is such a call
  pub canonical_row : canonical_refusal ns ps work out_nodes out_pool ≡ one_list ns ps work canonical_own
  unfolding canonical_refusal
  canonical_row = refl

  pub canonical_own_says : Says canonical_own (14 ∷ 19 ∷ [])
  canonical_own_says = then_says (gates_says ns ps) (require_says (fits_lists ns ps out_nodes out_pool) 19)

  pub canonical_says : Says (canonical_refusal ns ps work out_nodes out_pool) (1 ∷ 2 ∷ 10 ∷ 3 ∷ 4 ∷ 5 ∷ 6 ∷ 7 ∷ 8 ∷ 14 ∷ 19 ∷ [])
  unfolding canonical_refusal
  canonical_says = one_list_says ns ps work canonical_own_says refl

  pub canonical_14 :
      Exactly (canonical_refusal ns ps work out_nodes out_pool) 14
      (λ i. Sized ns ps × ((work_for ns ps ≤ work) × (Sound ns ps × Lowest ns ps (NoWideGate ns ps) (WideGate ns ps) i)))
  unfolding canonical_refusal
  canonical_14 =
      one_list_own ns ps work canonical_own_says refl 13 refl refl refl
      (here (gates_14 ns ps) (require_says (fits_lists ns ps out_nodes out_pool) 19) refl)

  pub canonical_19 :
      Exactly (canonical_refusal ns ps work out_nodes out_pool) 19
      (λ i. Sized ns ps × ((work_for ns ps ≤ work) × (Sound ns ps × (All ns ps (NoWideGate ns ps) × NoNode (NoRoom ns ps out_nodes out_pool) i))))
  unfolding canonical_refusal
  canonical_19 =
      one_list_own ns ps work canonical_own_says refl 18 refl refl refl
      (skip (gates_says ns ps) refl (gates_passed ns ps) (lists_19 ns ps out_nodes out_pool))

  pub canonical_0 :
      Passed (canonical_refusal ns ps work out_nodes out_pool)
      (Sized ns ps × ((work_for ns ps ≤ work) × (Sound ns ps × (All ns ps (NoWideGate ns ps) × Room ns ps out_nodes out_pool))))
  unfolding canonical_refusal
  canonical_0 = one_list_0 ns ps work (both_passed (gates_passed ns ps) (lists_passed ns ps out_nodes out_pool))

-- ==== compare: "1 and 2 for each list, first list first; 10; then list by list"; 9
module _ (ns ps ms qs : List ℕ) (work : ℕ) where
  abbrev asked : ℕ
  asked = work_for ns ps + work_for ms qs

  abbrev few : Refusal
  few = few_inputs (root_of ns ps) (root_of ms qs)

  second_on : Says (sound ms qs then few) (3 ∷ 4 ∷ 5 ∷ 6 ∷ 7 ∷ 8 ∷ 9 ∷ [])
  second_on = then_says (sound_says ms qs) (few_says ns ps ms qs)

  lists_on : Says (sound ns ps then sound ms qs then few) (3 ∷ 4 ∷ 5 ∷ 6 ∷ 7 ∷ 8 ∷ 3 ∷ 4 ∷ 5 ∷ 6 ∷ 7 ∷ 8 ∷ 9 ∷ [])
  lists_on = then_says (sound_says ns ps) second_on

  room_on : Says (room asked work then sound ns ps then sound ms qs then few) (10 ∷ 3 ∷ 4 ∷ 5 ∷ 6 ∷ 7 ∷ 8 ∷ 3 ∷ 4 ∷ 5 ∷ 6 ∷ 7 ∷ 8 ∷ 9 ∷ [])
  room_on = then_says (room_says asked work) lists_on

  pub compare_says : Says (compare_refusal ns ps ms qs work) (1 ∷ 2 ∷ 1 ∷ 2 ∷ 10 ∷ 3 ∷ 4 ∷ 5 ∷ 6 ∷ 7 ∷ 8 ∷ 3 ∷ 4 ∷ 5 ∷ 6 ∷ 7 ∷ 8 ∷ 9 ∷ [])
  unfolding compare_refusal
  compare_says = then_says (sizes_says ns ps) (then_says (sizes_says ms qs) room_on)

  -- both lists past 1 and 2, and work space enough
  abbrev pub Begun : Type 0 → Type 0
  Begun P = Sized ns ps × (Sized ms qs × ((work_for ns ps + work_for ms qs ≤ work) × P))

  pub compare_0 :
      Passed (compare_refusal ns ps ms qs work)
      (Begun (Sound ns ps × (Sound ms qs × ((root_of ns ps ≡ root_of ms qs) ⊎ (length (inputs (root_of ns ps)) ≤ most_inputs)))))
  unfolding compare_refusal
  compare_0 =
      both_passed (sizes_passed ns ps) (both_passed (sizes_passed ms qs) (both_passed (room_passed asked work)
      (both_passed (sound_passed ns ps) (both_passed (sound_passed ms qs) (few_passed ns ps ms qs)))))

  pub compare_1 :
      Exactly (compare_refusal ns ps ms qs work) 1
      (λ i. NoNode (Misaligned ns ps) i ⊎ (Sized ns ps × NoNode (Misaligned ms qs) i))
  unfolding compare_refusal
  compare_1 = either (sizes_1 ns ps) (sizes_passed ns ps) (here (sizes_1 ms qs) room_on refl)

  pub compare_2 :
      Exactly (compare_refusal ns ps ms qs work) 2
      (λ i. ((length ns % words_per_node ≡ 0) × NoNode (OverLimit ns ps) i)
      ⊎ (Sized ns ps × ((length ms % words_per_node ≡ 0) × NoNode (OverLimit ms qs) i)))
  unfolding compare_refusal
  compare_2 = either (sizes_2 ns ps) (sizes_passed ns ps) (here (sizes_2 ms qs) room_on refl)

  pub compare_10 :
      Exactly (compare_refusal ns ps ms qs work) 10
      (λ i. Sized ns ps × (Sized ms qs × NoNode (work < work_for ns ps + work_for ms qs) i))
  unfolding compare_refusal
  compare_10 =
      skip (sizes_says ns ps) refl (sizes_passed ns ps) (skip (sizes_says ms qs) refl (sizes_passed ms qs) (here (room_10 asked work) lists_on refl))

  begun_lists : {n : ℕ} {P : ℕ → Type 0} → is_in (suc n) (0 ∷ 1 ∷ 2 ∷ []) ≡ false → is_in (suc n) (0 ∷ 10 ∷ []) ≡ false
      → Exactly (sound ns ps then sound ms qs then few) (suc n) P → Exactly (compare_refusal ns ps ms qs work) (suc n) (λ i. Begun (P i))
  unfolding compare_refusal
  begun_lists p q e =
      skip (sizes_says ns ps) p (sizes_passed ns ps) (skip (sizes_says ms qs) p (sizes_passed ms qs) (skip (room_says asked work) q (room_passed asked work) e))

  -- a number of a list's own row: at the first list, or the first is sound and it is at the second
  either_list : {n : ℕ} {P Q : ℕ → Type 0} → is_in (suc n) (0 ∷ 1 ∷ 2 ∷ []) ≡ false → is_in (suc n) (0 ∷ 10 ∷ []) ≡ false → is_in (suc n) (0 ∷ 9 ∷ []) ≡ false
      → Exactly (sound ns ps) (suc n) P → Exactly (sound ms qs) (suc n) Q
      → Exactly (compare_refusal ns ps ms qs work) (suc n) (λ i. Begun (P i ⊎ (Sound ns ps × Q i)))
  either_list p q r e f = begun_lists p q (either e (sound_passed ns ps) (here f (few_says ns ps ms qs) r))

  pub compare_3 :
      Exactly (compare_refusal ns ps ms qs work) 3
      (λ i. Begun (Lowest ns ps (WellLaid ns ps) (KindAbove ns ps) i ⊎ (Sound ns ps × Lowest ms qs (WellLaid ms qs) (KindAbove ms qs) i)))
  compare_3 = either_list refl refl refl (sound_3 ns ps) (sound_3 ms qs)

  pub compare_4 :
      Exactly (compare_refusal ns ps ms qs work) 4
      (λ i. Begun (Lowest ns ps (WellLaid ns ps) (BreaksLayout ns ps) i ⊎ (Sound ns ps × Lowest ms qs (WellLaid ms qs) (BreaksLayout ms qs) i)))
  compare_4 = either_list refl refl refl (sound_4 ns ps) (sound_4 ms qs)

  pub compare_5 :
      Exactly (compare_refusal ns ps ms qs work) 5
      (λ i. Begun (Lowest ns ps (WellLaid ns ps) (ChildNotBelow ns ps) i ⊎ (Sound ns ps × Lowest ms qs (WellLaid ms qs) (ChildNotBelow ms qs) i)))
  compare_5 = either_list refl refl refl (sound_5 ns ps) (sound_5 ms qs)

  pub compare_6 :
      Exactly (compare_refusal ns ps ms qs work) 6
      (λ i. Begun ((All ns ps (WellLaid ns ps) × Lowest ns ps (Verifies ns ps) (Unverified ns ps) i)
      ⊎ (Sound ns ps × (All ms qs (WellLaid ms qs) × Lowest ms qs (Verifies ms qs) (Unverified ms qs) i))))
  compare_6 = either_list refl refl refl (sound_6 ns ps) (sound_6 ms qs)

  pub compare_7 :
      Exactly (compare_refusal ns ps ms qs work) 7
      (λ i. Begun ((All ns ps (WellLaid ns ps) × (All ns ps (Verifies ns ps) × NoNode (Empty ns ps) i))
      ⊎ (Sound ns ps × (All ms qs (WellLaid ms qs) × (All ms qs (Verifies ms qs) × NoNode (Empty ms qs) i)))))
  compare_7 = either_list refl refl refl (sound_7 ns ps) (sound_7 ms qs)

  pub compare_8 :
      Exactly (compare_refusal ns ps ms qs work) 8
      (λ i. Begun ((All ns ps (WellLaid ns ps) × (All ns ps (Verifies ns ps) × (Rooted ns ps × Lowest ns ps (Fits ns ps) (Misfit ns ps) i)))
      ⊎ (Sound ns ps × (All ms qs (WellLaid ms qs) × (All ms qs (Verifies ms qs) × (Rooted ms qs × Lowest ms qs (Fits ms qs) (Misfit ms qs) i))))))
  compare_8 = either_list refl refl refl (sound_8 ns ps) (sound_8 ms qs)

  pub compare_9 :
      Exactly (compare_refusal ns ps ms qs work) 9 (λ i. Begun (Sound ns ps × (Sound ms qs × NoNode (ManyInputs ns ps ms qs) i)))
  compare_9 =
      begun_lists refl refl (skip (sound_says ns ps) refl (sound_passed ns ps) (skip (sound_says ms qs) refl (sound_passed ms qs) (few_9 ns ps ms qs)))

-- ==== What a call hands back carries the refusal that the claims above are about
pub verify_carries : (ns ps work : List ℕ) → (verify ns ps work).answer ≡ verify_refusal ns ps (length work)
unfolding verify
verify_carries ns ps work = refl

pub evaluate_carries : (ns ps bytes work out : List ℕ)
    → (evaluate ns ps bytes work out).answer.refusal ≡ evaluate_refusal ns ps bytes (length work) (length out)
unfolding evaluate evaluation
evaluate_carries ns ps bytes work out = refl

pub canonicalise_carries : (ns ps work out_nodes out_pool : List ℕ)
    → (canonicalise ns ps work out_nodes out_pool).answer.refusal
    ≡ canonical_refusal ns ps (length work) (length out_nodes) (length out_pool)
unfolding canonicalise canonical
canonicalise_carries ns ps work out_nodes out_pool = refl

pub compare_carries : (ns ps ms qs work : List ℕ)
    → (compare ns ps ms qs work).answer.refusal ≡ compare_refusal ns ps ms qs (length work)
unfolding compare comparison compare_refusal compare_trees
compare_carries ns ps ms qs work =
    let t = root_of ns ps in
    let u = root_of ms qs in
    carries (λ c. c.refusal) (compare_refusal ns ps ms qs (length work)) (compare_trees t u) (comparison_refused (compare_refusal ns ps ms qs (length work)))
    (then_zero (sizes_zero ns ps) (then_zero (sizes_zero ms qs) (then_zero (require_zero (leb (work_for ns ps + work_for ms qs) (length work)) 9)
    (then_zero (sound_zero ns ps) (then_zero (sound_zero ms qs) (require_zero (same t u || leb (length (inputs t)) most_inputs) 8))))))
    (compared_done t u) refl

pub separate_carries : (ns ps : List ℕ) (n run : ℕ) (work : List ℕ)
    → (separate ns ps n run work).answer.refusal ≡ separate_refusal ns ps n run (length work)
unfolding separate separation separate_refusal
separate_carries ns ps n run work =
    carries (λ s. s.refusal) (separate_refusal ns ps n run (length work)) (separate_tree (root_of ns ps) n run) (separation_refused (separate_refusal ns ps n run (length work)))
    (then_zero (sizes_zero ns ps) (then_zero (require_zero (leb (work_for ns ps) (length work)) 9)
    (then_zero (sound_zero ns ps) (require_zero (in_bounds ns n run) 10))))
    (judged_no_refusal (root_of ns ps) n run) refl

-- ==== The same of what code hands back: an Err is that refusal, and behind an Ok there is none
module _ (ns ps work : List ℕ) where
  pub verify_err : (r : Refusal) → Err r ≡ answered (verify ns ps work).answer → r ≡ verify_refusal ns ps (length work)
  verify_err r h = handed_err (verify ns ps work).answer tt r h ∙ verify_carries ns ps work

  pub verify_ok : Ok tt ≡ answered (verify ns ps work).answer → (verify_refusal ns ps (length work)).number ≡ 0
  verify_ok h =
      ap (λ (q : Refusal). q.number) (sym (verify_carries ns ps work)) ∙ handed_ok (verify ns ps work).answer tt tt h

module _ (ns ps bytes work out : List ℕ) where
  abbrev evaluated_all : Evaluation
  evaluated_all = (evaluate ns ps bytes work out).answer

  pub evaluate_err : (r : Refusal) → Err r ≡ evaluation_result evaluated_all → r ≡ evaluate_refusal ns ps bytes (length work) (length out)
  evaluate_err r h = handed_err evaluated_all.refusal evaluated_all.answer r h ∙ evaluate_carries ns ps bytes work out

  pub evaluate_ok : (a : Answer) → Ok a ≡ evaluation_result evaluated_all → (evaluate_refusal ns ps bytes (length work) (length out)).number ≡ 0
  evaluate_ok a h =
      ap (λ (q : Refusal). q.number) (sym (evaluate_carries ns ps bytes work out))
      ∙ handed_ok evaluated_all.refusal evaluated_all.answer a h

module _ (ns ps ms qs work : List ℕ) where
  abbrev compared_all : Comparison
  compared_all = (compare ns ps ms qs work).answer

  pub compare_err : (r : Refusal) → Err r ≡ comparison_result compared_all → r ≡ compare_refusal ns ps ms qs (length work)
  compare_err r h = handed_err compared_all.refusal (found compared_all) r h ∙ compare_carries ns ps ms qs work

  pub compare_ok : (c : of_comparison.Comparison) → Ok c ≡ comparison_result compared_all → (compare_refusal ns ps ms qs (length work)).number ≡ 0
  compare_ok c h =
      ap (λ (q : Refusal). q.number) (sym (compare_carries ns ps ms qs work))
      ∙ handed_ok compared_all.refusal (found compared_all) c h

module _ (ns ps : List ℕ) (n run : ℕ) (work : List ℕ) where
  abbrev judged_all : Separation
  judged_all = (separate ns ps n run work).answer

  pub separate_err : (r : Refusal) → Err r ≡ separation_result judged_all → r ≡ separate_refusal ns ps n run (length work)
  separate_err r h = handed_err judged_all.refusal (rule.found judged_all) r h ∙ separate_carries ns ps n run work

  pub separate_ok : (s : of_separation.Separation) → Ok s ≡ separation_result judged_all → (separate_refusal ns ps n run (length work)).number ≡ 0
  separate_ok s h =
      ap (λ (q : Refusal). q.number) (sym (separate_carries ns ps n run work))
      ∙ handed_ok judged_all.refusal (rule.found judged_all) s h

module _ (ns ps work out_nodes out_pool : List ℕ) where
  abbrev listed_all : Canonical
  listed_all = (canonicalise ns ps work out_nodes out_pool).answer

  pub canonicalise_err : (r : Refusal) → Err r ≡ canonical_result listed_all
      → r ≡ canonical_refusal ns ps (length work) (length out_nodes) (length out_pool)
  canonicalise_err r h = handed_err listed_all.refusal _ r h ∙ canonicalise_carries ns ps work out_nodes out_pool

  pub canonicalise_ok : (c : of_canonical.Canonical) → Ok c ≡ canonical_result listed_all
      → (canonical_refusal ns ps (length work) (length out_nodes) (length out_pool)).number ≡ 0
  canonicalise_ok c h =
      ap (λ (q : Refusal). q.number) (sym (canonicalise_carries ns ps work out_nodes out_pool))
      ∙ handed_ok listed_all.refusal _ c h
