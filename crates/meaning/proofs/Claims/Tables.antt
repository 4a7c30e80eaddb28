-- The truth-table routines and the verdict: number 13 and number 19 "exactly when" (document 01, "Truth-table routines",
-- "Numbers a call answers with").
use Rattle.std.specs.Prelude.{ℕ, ◌+◌, ◌-◌, ◌^◌, ◌≤◌, ◌<◌, ◌≡◌, refl, ◌↔◌, ◌⊎◌, List, Bool, false, ◌&&◌, length, get_or, ltb, leb}
use Rattle.meaning.specs.declared.Check.{Check}
use Rattle.meaning.specs.Rules.Limits.{most_operands, widest_bus}
use Rattle.meaning.specs.Rules.Words.{word_fits}
use Rattle.meaning.specs.Rules.Tables.{says, lut_inputs, table_fits, cofactor, ignores, eval_lut, eval_lut_bv, to_bitvec, remove_lsb_var, eval_lut_const_input, cofactors_in_msb, swap_pos}
use Rattle.meaning.specs.Rules.Verdict.{name_of, display}
use Rattle.meaning.proofs.Laws.TestLaws.{is_lt, is_from, is_above, one_fails}
use Rattle.meaning.proofs.Laws.RangeLaws.{in_range_13, in_range_or, bits_fail, display_19}

-- "at most six input bytes of 0 or 1"
abbrev pub NoInputs : List ℕ → Type 0
NoInputs inputs = (most_operands < length inputs) ⊎ ((j : ℕ) × (j < length inputs) × (2 ≤ get_or inputs j 0))

-- "p must be below 2^(2^k) and k at most 6"
abbrev pub NoTable : ℕ → ℕ → Type 0
NoTable p k = (most_operands < k) ⊎ (2 ^ (2 ^ k) ≤ p)

no_inputs : (inputs : List ℕ) → (lut_inputs inputs ≡ false) ↔ NoInputs inputs
no_inputs inputs = one_fails (is_above (length inputs) most_operands) (bits_fail inputs)

no_table : (p k : ℕ) → (table_fits p k ≡ false) ↔ NoTable p k
no_table p k = one_fails (is_above k most_operands) (is_from p (2 ^ (2 ^ k)))

pub eval_lut_13 : (p : ℕ) (inputs : List ℕ) → ((eval_lut p inputs).number ≡ 13) ↔ NoInputs inputs
unfolding eval_lut
eval_lut_13 p inputs = in_range_13 (lut_inputs inputs) _ refl (no_inputs inputs)

pub eval_lut_bv_13 : (p : ℕ) (inputs : List ℕ) → ((eval_lut_bv p inputs).number ≡ 13) ↔ NoInputs inputs
unfolding eval_lut_bv
eval_lut_bv_13 p inputs = in_range_13 (lut_inputs inputs) _ refl (no_inputs inputs)

-- "capacity at most 64, p must be below 2^capacity"
pub to_bitvec_13 : (p capacity : ℕ) → ((to_bitvec p capacity).number ≡ 13) ↔ ((widest_bus < capacity) ⊎ (2 ^ capacity ≤ p))
unfolding to_bitvec
to_bitvec_13 p capacity =
    in_range_13 (word_fits p capacity) _ refl (one_fails (is_above capacity widest_bus) (is_from p (2 ^ capacity)))

-- "None for k below 2 whatever p is (this comes first)"
pub remove_lsb_var_13 : (p k : ℕ) → ((remove_lsb_var p k).number ≡ 13) ↔ ((2 ≤ k) × NoTable p k)
unfolding remove_lsb_var
remove_lsb_var_13 p k = in_range_or (ltb k 2) (table_fits p k) (ignores p (k - 1) 0) 1 (cofactor p (k - 1) 0 0) (is_from k 2) (no_table p k)

pub remove_lsb_var_none : (p k : ℕ) → k < 2 → remove_lsb_var p k ≡ says 0 0
unfolding remove_lsb_var
remove_lsb_var_none p k h = rw ((is_lt k 2).1 h)

-- "msb 0 to 5, k = msb + 1"
pub eval_lut_const_input_13 : (p msb : ℕ) (v : Bool) → ((eval_lut_const_input p msb v).number ≡ 13) ↔ NoTable p (msb + 1)
unfolding eval_lut_const_input
eval_lut_const_input_13 p msb v = in_range_13 (table_fits p (msb + 1)) _ refl (no_table p (msb + 1))

-- "k 2 to 6"
pub cofactors_in_msb_13 : (p k : ℕ) → ((cofactors_in_msb p k).number ≡ 13) ↔ ((k < 2) ⊎ NoTable p k)
unfolding cofactors_in_msb
cofactors_in_msb_13 p k = in_range_13 (leb 2 k && table_fits p k) _ refl (one_fails (is_above 2 k) (no_table p k))

-- "pos + 1 below k"
pub swap_pos_13 : (p k pos : ℕ) → ((swap_pos p k pos).number ≡ 13) ↔ (NoTable p k ⊎ (k ≤ pos + 1))
unfolding swap_pos
swap_pos_13 p k pos = in_range_13 (table_fits p k && ltb (pos + 1) k) _ refl (one_fails (no_table p k) (is_from (pos + 1) k))

-- 19: "an output slice shorter than the answer"; then nothing is written
pub display_short : (c : Check) (out : List ℕ) → ((display c out).number ≡ 19) ↔ (length out < length (name_of c))
unfolding display
display_short c out = display_19 (leb (length (name_of c)) (length out)) (name_of c) out (is_above (length (name_of c)) (length out))

pub display_kept : (c : Check) (out : List ℕ) → length out < length (name_of c) → (display c out).out ≡ out
unfolding display
display_kept c out h = rw ((is_above (length (name_of c)) (length out)).1 h)
