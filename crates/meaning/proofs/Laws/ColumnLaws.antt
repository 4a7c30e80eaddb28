-- The numbers test by test: what each test of a call says, exactly when, in the words of Claims/Column.
use Rattle.std.specs.Prelude.{ℕ, ◌-◌, ◌%◌, ◌^◌, ◌≤◌, ◌<◌, ◌≡◌, ◌↔◌, ◌⊎◌, List, [], ◌∷◌, Bool, true, false, ◌&&◌, ◌||◌, length, leb, eqb}
use Rattle.std.proofs.Math.Path.{refl}
use Rattle.std.proofs.Math.Bool.{not}
use Rattle.std.proofs.Math.Dec.{ltb}
use Rattle.std.proofs.Common.{eq-eqb, ne_eqb, eqb-true}
use Rattle.meaning.specs.Rules.Limits.{words_per_node, most_nodes, most_pool, variable_count, most_inputs}
use Rattle.meaning.specs.Rules.Kinds.{variable_word, cycle_word, is_gate}
use Rattle.meaning.specs.Rules.Words.{bit_at}
use Rattle.meaning.specs.Rules.Trees.{same, node_count, kind_at, first_at, children_at, tree_of, root_of}
use Rattle.meaning.specs.Rules.Numbers.{short_output}
use Rattle.meaning.specs.Rules.Refusals.{◌then◌, require}
use Rattle.meaning.specs.Rules.Pairs.{pair_words}
use Rattle.meaning.specs.Rules.Layout.{aligned, within_limits, sizes, room, laid_out, children_below, layout_fault, layout}
use Rattle.meaning.specs.Rules.Reach.{reachable, mark_of}
use Rattle.meaning.specs.Rules.Verification.{wrong_tree, verify_fault, verification}
use Rattle.meaning.specs.Rules.Evaluable.{rooted, is_bit, shape, misfits, shape_fault, evaluability, sound}
use Rattle.meaning.specs.Rules.Assignments.{is_assignment, inputs}
use Rattle.meaning.specs.Rules.Separation.{outside, variables_below, in_bounds, bounded, is_marked}
use Rattle.meaning.specs.Rules.Comparison.{few_inputs}
use Rattle.meaning.specs.Rules.Canonical.{gate_fault, gates, canonical_nodes, canonical_pool}
use Rattle.meaning.specs.Rules.Calls.{assigned, fits_pairs, fits_lists}
use Rattle.meaning.specs.Claims.Terms.{NoNode, Exactly, Passed, Says}
use Rattle.meaning.specs.Claims.Column.{Misaligned, OverLimit, Sized, KindAbove, BreaksLayout, ChildNotBelow, WellLaid, Unverified, Verifies, Empty, Rooted, Misfit, Fits, WideGate, NoWideGate, All, Lowest, Sound, ManyInputs, OutOfBounds, InBounds, NoAssignment, IsAssignment, NoRoom, Room}
use Rattle.meaning.proofs.Laws.BoolLaws.{true_false, not_is_true, not_is_false, not_false}
use Rattle.meaning.proofs.Laws.NumberLaws.{then_says, require_says, lowest_says, require_exactly, require_passed, lowest_exactly, lowest_passed, here, skip, both_passed, ZeroDone, require_zero, lowest_zero, then_zero}
use Rattle.meaning.proofs.Laws.TestLaws.{is_eq, is_ne, is_le, is_above, is_lt, is_from, both, one_fails, counts_and, fine_if, every_is, every_fails, none_is, one_is, high_bit, flagged, unflagged, flag_says, graded_none, graded_first, graded_second, graded_third, graded_says, same_is, same_not, one_of, neither}

-- one statement through another
pub via : {A B C : Type 0} → A ↔ B → B ↔ C → A ↔ C
via e f = (λ a. f.0 (e.0 a), λ c. e.1 (f.1 c))

module _ (ns ps : List ℕ) where
  -- ---- 1 and 2
  aligned_is : (aligned ns ≡ true) ↔ (length ns % words_per_node ≡ 0)
  aligned_is = is_eq (length ns % words_per_node) 0

  pub sizes_says : Says (sizes ns ps) (1 ∷ 2 ∷ [])
  unfolding sizes
  sizes_says = then_says (require_says (aligned ns) 1) (require_says (within_limits ns ps) 2)

  pub sizes_passed : Passed (sizes ns ps) (Sized ns ps)
  unfolding sizes
  sizes_passed =
      both_passed (require_passed (aligned ns) 0 aligned_is)
      (require_passed (within_limits ns ps) 1 (both (is_le (node_count ns) most_nodes) (is_le (length ps) most_pool)))

  pub sizes_1 : Exactly (sizes ns ps) 1 (NoNode (Misaligned ns ps))
  unfolding sizes
  sizes_1 = here (require_exactly (aligned ns) 0 (is_ne (length ns % words_per_node) 0)) (require_says (within_limits ns ps) 2) refl

  pub sizes_2 : Exactly (sizes ns ps) 2 (λ i. (length ns % words_per_node ≡ 0) × NoNode (OverLimit ns ps) i)
  unfolding sizes
  sizes_2 =
      skip (require_says (aligned ns) 1) refl (require_passed (aligned ns) 0 aligned_is)
      (require_exactly (within_limits ns ps) 1 (one_fails (is_above (node_count ns) most_nodes) (is_above (length ps) most_pool)))

  -- ---- 3, 4 and 5
  known : (i : ℕ) → (ltb cycle_word (kind_at ns i) ≡ false) ↔ (kind_at ns i ≤ cycle_word)
  known i = is_from cycle_word (kind_at ns i)

  laid_is : (i : ℕ) → (layout_fault ns ps i ≡ 0) ↔ WellLaid ns ps i
  unfolding layout_fault
  laid_is i =
      graded_none (ltb cycle_word (kind_at ns i)) (laid_out ns ps i) (children_below ns ps i) (known i)
      (every_is (λ c. ltb c i) (λ c. is_lt c i) (children_at ns ps i))

  pub layout_says : Says (layout ns ps) (3 ∷ 4 ∷ 5 ∷ [])
  unfolding layout layout_fault
  layout_says =
      lowest_says (node_count ns) (layout_fault ns ps) (3 ∷ 4 ∷ 5 ∷ [])
      (λ i. graded_says (ltb cycle_word (kind_at ns i)) (laid_out ns ps i) (children_below ns ps i))

  pub layout_passed : Passed (layout ns ps) (All ns ps (WellLaid ns ps))
  unfolding layout
  layout_passed = lowest_passed (node_count ns) (layout_fault ns ps) laid_is

  pub layout_3 : Exactly (layout ns ps) 3 (Lowest ns ps (WellLaid ns ps) (KindAbove ns ps))
  unfolding layout layout_fault
  layout_3 =
      lowest_exactly (node_count ns) (layout_fault ns ps) laid_is 2
      (λ i. graded_first (ltb cycle_word (kind_at ns i)) (laid_out ns ps i) (children_below ns ps i) (is_lt cycle_word (kind_at ns i)))

  pub layout_4 : Exactly (layout ns ps) 4 (Lowest ns ps (WellLaid ns ps) (BreaksLayout ns ps))
  unfolding layout layout_fault
  layout_4 =
      lowest_exactly (node_count ns) (layout_fault ns ps) laid_is 3
      (λ i. graded_second (ltb cycle_word (kind_at ns i)) (laid_out ns ps i) (children_below ns ps i) (known i))

  pub layout_5 : Exactly (layout ns ps) 5 (Lowest ns ps (WellLaid ns ps) (ChildNotBelow ns ps))
  unfolding layout layout_fault
  layout_5 =
      lowest_exactly (node_count ns) (layout_fault ns ps) laid_is 4
      (λ i. graded_third (ltb cycle_word (kind_at ns i)) (laid_out ns ps i) (children_below ns ps i) (known i)
      (every_fails (λ c. ltb c i) (λ c. is_from c i) (children_at ns ps i)))

  -- ---- 6
  abbrev wrong_at : ℕ → Bool
  wrong_at i = wrong_tree (mark_of ns ps i - 1) (tree_of ns ps i)

  verifies_is : (i : ℕ) → (verify_fault ns ps i ≡ 0) ↔ Verifies ns ps i
  unfolding verify_fault
  verifies_is i = via (unflagged (reachable ns ps i && wrong_at i) 5) (fine_if (reachable ns ps i) (wrong_at i))

  pub verification_says : Says (verification ns ps) (6 ∷ [])
  unfolding verification verify_fault
  verification_says = lowest_says (node_count ns) (verify_fault ns ps) (6 ∷ []) (λ i. flag_says (reachable ns ps i && wrong_at i) 6)

  pub verification_passed : Passed (verification ns ps) (All ns ps (Verifies ns ps))
  unfolding verification
  verification_passed = lowest_passed (node_count ns) (verify_fault ns ps) verifies_is

  pub verification_6 : Exactly (verification ns ps) 6 (Lowest ns ps (Verifies ns ps) (Unverified ns ps))
  unfolding verification verify_fault
  verification_6 =
      lowest_exactly (node_count ns) (verify_fault ns ps) verifies_is 5
      (λ i. via (flagged (reachable ns ps i && wrong_at i) 5) (counts_and (reachable ns ps i) (wrong_at i)))

  -- ---- 7
  pub rooted_says : Says (rooted ns) (7 ∷ [])
  rooted_says = require_says (ltb 0 (node_count ns)) 7

  pub rooted_passed : Passed (rooted ns) (Rooted ns ps)
  rooted_passed = require_passed (ltb 0 (node_count ns)) 6 (is_lt 0 (node_count ns))

  pub rooted_7 : Exactly (rooted ns) 7 (NoNode (Empty ns ps))
  rooted_7 = require_exactly (ltb 0 (node_count ns)) 6 (is_from 0 (node_count ns))

  -- ---- 8
  fits_is : (i : ℕ) → (shape_fault ns ps i ≡ 0) ↔ Fits ns ps i
  unfolding shape_fault
  fits_is i = via (unflagged (reachable ns ps i && misfits ns ps i) 7) (fine_if (reachable ns ps i) (misfits ns ps i))

  pub evaluability_says : Says (evaluability ns ps) (8 ∷ [])
  unfolding evaluability shape_fault
  evaluability_says = lowest_says (node_count ns) (shape_fault ns ps) (8 ∷ []) (λ i. flag_says (reachable ns ps i && misfits ns ps i) 8)

  pub evaluability_passed : Passed (evaluability ns ps) (All ns ps (Fits ns ps))
  unfolding evaluability
  evaluability_passed = lowest_passed (node_count ns) (shape_fault ns ps) fits_is

  pub evaluability_8 : Exactly (evaluability ns ps) 8 (Lowest ns ps (Fits ns ps) (Misfit ns ps))
  unfolding evaluability shape_fault
  evaluability_8 =
      lowest_exactly (node_count ns) (shape_fault ns ps) fits_is 7
      (λ i. via (flagged (reachable ns ps i && misfits ns ps i) 7) (counts_and (reachable ns ps i) (misfits ns ps i)))

  -- ---- 14
  abbrev gate_at : ℕ → Bool
  gate_at i = reachable ns ps i && is_gate (kind_at ns i)

  abbrev bit_there : ℕ → Bool
  bit_there i = is_bit (shape (tree_of ns ps i))

  narrow_is : (i : ℕ) → (gate_fault ns ps i ≡ 0) ↔ NoWideGate ns ps i
  unfolding gate_fault
  narrow_is i =
      via (unflagged (gate_at i && not (bit_there i)) 13)
      (via (fine_if (gate_at i) (not (bit_there i))) (λ f h. not_is_false (bit_there i) (f h), λ f h. rw (f h)))

  pub gates_says : Says (gates ns ps) (14 ∷ [])
  unfolding gates gate_fault
  gates_says = lowest_says (node_count ns) (gate_fault ns ps) (14 ∷ []) (λ i. flag_says (gate_at i && not (bit_there i)) 14)

  pub gates_passed : Passed (gates ns ps) (All ns ps (NoWideGate ns ps))
  unfolding gates
  gates_passed = lowest_passed (node_count ns) (gate_fault ns ps) narrow_is

  pub gates_14 : Exactly (gates ns ps) 14 (Lowest ns ps (NoWideGate ns ps) (WideGate ns ps))
  unfolding gates gate_fault
  gates_14 =
      lowest_exactly (node_count ns) (gate_fault ns ps) narrow_is 13
      (λ i. via (flagged (gate_at i && not (bit_there i)) 13)
      (via (counts_and (gate_at i) (not (bit_there i))) (λ h. (h.0, not_is_true (bit_there i) h.1), λ h. (h.0, rw h.1))))

-- ---- 10
pub room_says : (asked work : ℕ) → Says (room asked work) (10 ∷ [])
room_says asked work = require_says (leb asked work) 10

pub room_passed : (asked work : ℕ) → Passed (room asked work) (asked ≤ work)
room_passed asked work = require_passed (leb asked work) 9 (is_le asked work)

pub room_10 : (asked work : ℕ) → Exactly (room asked work) 10 (NoNode (work < asked))
room_10 asked work = require_exactly (leb asked work) 9 (is_above asked work)

-- ---- 9
pub few_says : (ns ps ms qs : List ℕ) → Says (few_inputs (root_of ns ps) (root_of ms qs)) (9 ∷ [])
few_says ns ps ms qs = require_says (same (root_of ns ps) (root_of ms qs) || leb (length (inputs (root_of ns ps))) most_inputs) 9

pub few_9 : (ns ps ms qs : List ℕ) → Exactly (few_inputs (root_of ns ps) (root_of ms qs)) 9 (NoNode (ManyInputs ns ps ms qs))
few_9 ns ps ms qs =
    require_exactly (same (root_of ns ps) (root_of ms qs) || leb (length (inputs (root_of ns ps))) most_inputs) 8
    (neither (same_not (root_of ns ps) (root_of ms qs)) (is_above (length (inputs (root_of ns ps))) most_inputs))

pub few_passed : (ns ps ms qs : List ℕ)
    → Passed (few_inputs (root_of ns ps) (root_of ms qs)) ((root_of ns ps ≡ root_of ms qs) ⊎ (length (inputs (root_of ns ps)) ≤ most_inputs))
few_passed ns ps ms qs =
    require_passed (same (root_of ns ps) (root_of ms qs) || leb (length (inputs (root_of ns ps))) most_inputs) 8
    (one_of (same_is (root_of ns ps) (root_of ms qs)) (is_le (length (inputs (root_of ns ps))) most_inputs))

-- ---- 11
marked_is : (run n : ℕ) → (ltb run (2 ^ n) ≡ false) ↔ ((v : ℕ) × (n ≤ v) × (is_marked run v ≡ true))
marked_is run n =
    via (high_bit run n)
    (λ f. (f.0, f.1, eq-eqb (bit_at run f.0) 1 f.2), λ f. (f.0, f.1, eqb-true (bit_at run f.0) 1 f.2))

pub bounded_says : (ns : List ℕ) (n run : ℕ) → Says (bounded ns n run) (11 ∷ [])
bounded_says ns n run = require_says (in_bounds ns n run) 11

pub bounded_11 : (ns : List ℕ) (n run : ℕ) → Exactly (bounded ns n run) 11 (NoNode (OutOfBounds ns n run))
unfolding in_bounds variables_below
bounded_11 ns n run =
    require_exactly (in_bounds ns n run) 10
    (one_fails
    (one_fails (is_above n most_inputs)
    (one_is (outside ns n) (λ i. both (is_eq (kind_at ns i) variable_word) (is_le n (first_at ns i))) (node_count ns)))
    (marked_is run n))

-- "n at most 30, every variable .. among" the n declared, and no mark at bit n or above
apart_is : (ns : List ℕ) (n i : ℕ) → (outside ns n i ≡ false) ↔ (kind_at ns i ≡ variable_word → first_at ns i < n)
apart_is ns n i =
    via (fine_if (eqb (kind_at ns i) variable_word) (leb n (first_at ns i)))
    (λ f k. (is_above n (first_at ns i)).0 (f ((is_eq (kind_at ns i) variable_word).1 k)), λ f k. (is_above n (first_at ns i)).1 (f ((is_eq (kind_at ns i) variable_word).0 k)))

unmarked_is : (run n : ℕ) → (ltb run (2 ^ n) ≡ true) ↔ ((v : ℕ) → n ≤ v → is_marked run v ≡ false)
unmarked_is run n = (
  λ h v l. ne_eqb (bit_at run v) 1 (λ e. true_false h ((marked_is run n).1 (v, l, eq-eqb (bit_at run v) 1 e))),
  λ f. not_false (ltb run (2 ^ n)) (λ h. let m = (marked_is run n).0 h in true_false m.2 (f m.0 m.1)),
)

pub bounded_passed : (ns : List ℕ) (n run : ℕ) → Passed (bounded ns n run) (InBounds ns n run)
unfolding in_bounds variables_below
bounded_passed ns n run =
    require_passed (in_bounds ns n run) 10
    (both (both (is_le n most_inputs) (none_is (outside ns n) (apart_is ns n) (node_count ns))) (unmarked_is run n))

-- ---- 12
pub assigned_says : (bytes : List ℕ) → Says (assigned bytes) (12 ∷ [])
assigned_says bytes = require_says (is_assignment bytes) 12

pub assigned_passed : (bytes : List ℕ) → Passed (assigned bytes) (IsAssignment bytes)
unfolding is_assignment
assigned_passed bytes =
    require_passed (is_assignment bytes) 11 (both (is_le (length bytes) variable_count) (every_is (λ b. leb b 2) (λ b. is_le b 2) bytes))

pub assigned_12 : (bytes : List ℕ) → Exactly (assigned bytes) 12 (NoNode (NoAssignment bytes))
unfolding is_assignment
assigned_12 bytes =
    require_exactly (is_assignment bytes) 11
    (one_fails (is_above (length bytes) variable_count) (every_fails (λ b. leb b 2) (λ b. is_above b 2) bytes))

-- ---- 19
pub pairs_says : (ns : List ℕ) (out : ℕ) → Says (fits_pairs ns out) (19 ∷ [])
pairs_says ns out = require_says (leb (pair_words ns) out) 19

pub pairs_19 : (ns : List ℕ) (out : ℕ) → Exactly (fits_pairs ns out) 19 (NoNode (out < pair_words ns))
pairs_19 ns out = require_exactly (leb (pair_words ns) out) 18 (is_above (pair_words ns) out)

pub pairs_passed : (ns : List ℕ) (out : ℕ) → Passed (fits_pairs ns out) (pair_words ns ≤ out)
pairs_passed ns out = require_passed (leb (pair_words ns) out) 18 (is_le (pair_words ns) out)

pub lists_passed : (ns ps : List ℕ) (out_nodes out_pool : ℕ)
    → Passed (require (fits_lists ns ps out_nodes out_pool) short_output) (Room ns ps out_nodes out_pool)
lists_passed ns ps out_nodes out_pool =
    require_passed (fits_lists ns ps out_nodes out_pool) 18
    (both
    (both
    (both (is_le (length (canonical_nodes ns ps)) out_nodes) (is_le (length (canonical_pool ns ps)) out_pool))
    (is_le (node_count (canonical_nodes ns ps)) most_nodes))
    (is_le (length (canonical_pool ns ps)) most_pool))

pub lists_19 : (ns ps : List ℕ) (out_nodes out_pool : ℕ)
    → Exactly (require (fits_lists ns ps out_nodes out_pool) short_output) 19 (NoNode (NoRoom ns ps out_nodes out_pool))
lists_19 ns ps out_nodes out_pool =
    require_exactly (fits_lists ns ps out_nodes out_pool) 18
    (one_fails
    (one_fails
    (one_fails (is_above (length (canonical_nodes ns ps)) out_nodes) (is_above (length (canonical_pool ns ps)) out_pool))
    (is_above (node_count (canonical_nodes ns ps)) most_nodes))
    (is_above (length (canonical_pool ns ps)) most_pool))

-- ---- a list's own row, "3, 4, 5 .., 6, 7, 8"
module _ (ns ps : List ℕ) where
  after_verification_says : Says (rooted ns then evaluability ns ps) (7 ∷ 8 ∷ [])
  after_verification_says = then_says (rooted_says ns ps) (evaluability_says ns ps)

  after_layout_says : Says (verification ns ps then rooted ns then evaluability ns ps) (6 ∷ 7 ∷ 8 ∷ [])
  after_layout_says = then_says (verification_says ns ps) after_verification_says

  pub sound_says : Says (sound ns ps) (3 ∷ 4 ∷ 5 ∷ 6 ∷ 7 ∷ 8 ∷ [])
  unfolding sound
  sound_says = then_says (layout_says ns ps) after_layout_says

  pub sound_passed : Passed (sound ns ps) (Sound ns ps)
  unfolding sound
  sound_passed =
      both_passed (layout_passed ns ps) (both_passed (verification_passed ns ps) (both_passed (rooted_passed ns ps) (evaluability_passed ns ps)))

  pub sound_3 : Exactly (sound ns ps) 3 (Lowest ns ps (WellLaid ns ps) (KindAbove ns ps))
  unfolding sound
  sound_3 = here (layout_3 ns ps) after_layout_says refl

  pub sound_4 : Exactly (sound ns ps) 4 (Lowest ns ps (WellLaid ns ps) (BreaksLayout ns ps))
  unfolding sound
  sound_4 = here (layout_4 ns ps) after_layout_says refl

  pub sound_5 : Exactly (sound ns ps) 5 (Lowest ns ps (WellLaid ns ps) (ChildNotBelow ns ps))
  unfolding sound
  sound_5 = here (layout_5 ns ps) after_layout_says refl

  pub sound_6 : Exactly (sound ns ps) 6 (λ i. All ns ps (WellLaid ns ps) × Lowest ns ps (Verifies ns ps) (Unverified ns ps) i)
  unfolding sound
  sound_6 = skip (layout_says ns ps) refl (layout_passed ns ps) (here (verification_6 ns ps) after_verification_says refl)

  pub sound_7 : Exactly (sound ns ps) 7 (λ i. All ns ps (WellLaid ns ps) × (All ns ps (Verifies ns ps) × NoNode (Empty ns ps) i))
  unfolding sound
  sound_7 =
      skip (layout_says ns ps) refl (layout_passed ns ps)
      (skip (verification_says ns ps) refl (verification_passed ns ps) (here (rooted_7 ns ps) (evaluability_says ns ps) refl))

  pub sound_8 : Exactly (sound ns ps) 8
      (λ i. All ns ps (WellLaid ns ps) × (All ns ps (Verifies ns ps) × (Rooted ns ps × Lowest ns ps (Fits ns ps) (Misfit ns ps) i)))
  unfolding sound
  sound_8 =
      skip (layout_says ns ps) refl (layout_passed ns ps)
      (skip (verification_says ns ps) refl (verification_passed ns ps) (skip (rooted_says ns ps) refl (rooted_passed ns ps) (evaluability_8 ns ps)))

-- ---- number 0 names no node, of the tests that a comparison and a separation make
module _ (ns ps : List ℕ) where
  pub sizes_zero : ZeroDone (sizes ns ps)
  unfolding sizes
  sizes_zero = then_zero (require_zero (aligned ns) 0) (require_zero (within_limits ns ps) 1)

  pub sound_zero : ZeroDone (sound ns ps)
  unfolding sound layout verification evaluability
  sound_zero =
      then_zero (lowest_zero (node_count ns) (layout_fault ns ps)) (then_zero (lowest_zero (node_count ns) (verify_fault ns ps))
      (then_zero (require_zero (ltb 0 (node_count ns)) 6) (lowest_zero (node_count ns) (shape_fault ns ps))))
