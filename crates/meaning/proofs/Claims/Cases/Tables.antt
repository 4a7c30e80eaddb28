-- Cases of Rules/Tables: number 13, and the routines.
use Rattle.std.specs.Prelude.{◌+◌, ◌^◌, refl, List, [], ◌∷◌, Bool, Some, None, Ok, Err, replicate}
use Rattle.std.proofs.Math.Bool as Bool
use Rattle.meaning.specs.Rules.Search.{lowest}
use Rattle.meaning.specs.Rules.Tables.{lut_bit_says, bit_vector_says, removed_says, table_program_says, cofactors_say, cofactor, ignores, eval_lut, eval_lut_bv, to_bitvec, remove_lsb_var, eval_lut_const_input, cofactors_in_msb, swap_pos}
use Rattle.meaning.specs.Claims.Drawn.{Line, ◌is◌, false, true, table, gives, pair, smaller, none_left, number_13, Agree, all_ones, half}

unfoldable pub tables : List Line
tables =
    -- what each answer type says
    (table (lut_bit_says (Ok Bool.true)) is gives 1)
    ∷ (table (lut_bit_says (Ok Bool.false)) is gives 0)
    ∷ (table (lut_bit_says (Err (record {}))) is number_13)
    ∷ (table (bit_vector_says (Ok (record { width = 3; value = 5 }))) is pair 3 5)
    ∷ (table (bit_vector_says (Err (record {}))) is number_13)
    ∷ (table (removed_says (Ok (Some 5))) is smaller 5)
    ∷ (table (removed_says (Ok None)) is none_left)
    ∷ (table (removed_says (Err (record {}))) is number_13)
    ∷ (table (table_program_says (Ok 5)) is gives 5)
    ∷ (table (table_program_says (Err (record {}))) is number_13)
    ∷ (table (cofactors_say (Ok (record { high = 3; low = 5 }))) is pair 3 5)
    ∷ (table (cofactors_say (Err (record {}))) is number_13)
    -- the first input is the high row bit in the one, the low in the other
    ∷ (table (eval_lut 2 (0 ∷ 1 ∷ [])) is gives 1)
    ∷ (table (eval_lut 2 (1 ∷ 0 ∷ [])) is gives 0)
    ∷ (table (eval_lut_bv 2 (1 ∷ 0 ∷ [])) is gives 1)
    ∷ (table (eval_lut_bv 2 (0 ∷ 1 ∷ [])) is gives 0)
    ∷ (table (eval_lut 1 []) is gives 1)
    ∷ (table (eval_lut_bv 2 []) is gives 0)
    ∷ (table (eval_lut (2 ^ 63) (replicate 6 1)) is gives 1)
    ∷ (table (eval_lut 0 (replicate 7 0)) is number_13)
    ∷ (table (eval_lut 0 (0 ∷ 2 ∷ [])) is number_13)
    ∷ (table (eval_lut_bv 0 (replicate 7 0)) is number_13)
    ∷ (table (eval_lut_bv 0 (2 ∷ 0 ∷ [])) is number_13)
    -- capacity 0 takes only 0
    ∷ (table (to_bitvec 5 3) is pair 3 5)
    ∷ (table (to_bitvec 8 3) is number_13)
    ∷ (table (to_bitvec 0 0) is pair 0 0)
    ∷ (table (to_bitvec 1 0) is number_13)
    ∷ (table (to_bitvec all_ones 64) is pair 64 all_ones)
    ∷ (table (to_bitvec 0 65) is number_13)
    -- None for k below 2 whatever p is
    ∷ (table (remove_lsb_var 9 0) is none_left)
    ∷ (table (remove_lsb_var 9 1) is none_left)
    ∷ (table (remove_lsb_var 16 2) is number_13)
    ∷ (table (remove_lsb_var 15 2) is smaller 3)
    ∷ (table (remove_lsb_var 3 6) is smaller 1)
    ∷ (table (remove_lsb_var 0 7) is number_13)
    -- the high half, the low half
    ∷ (table (eval_lut_const_input 202 2 Bool.true) is gives 12)
    ∷ (table (eval_lut_const_input 202 2 Bool.false) is gives 10)
    ∷ (table (eval_lut_const_input 2 0 Bool.true) is gives 1)
    ∷ (table (eval_lut_const_input 256 2 Bool.false) is number_13)
    ∷ (table (eval_lut_const_input all_ones 5 Bool.true) is gives half)
    ∷ (table (eval_lut_const_input 0 6 Bool.true) is number_13)
    ∷ (table (cofactors_in_msb 0 1) is number_13)
    ∷ (table (cofactors_in_msb 13 2) is pair 3 1)
    ∷ (table (cofactors_in_msb 16 2) is number_13)
    ∷ (table (cofactors_in_msb (half + 1) 6) is pair 1 0)
    ∷ (table (cofactors_in_msb 0 7) is number_13)
    ∷ (table (swap_pos 2 2 0) is gives 4)
    ∷ (table (swap_pos 2 2 1) is number_13)
    ∷ (table (swap_pos 0 1 0) is number_13)
    ∷ (table (swap_pos 0 0 0) is number_13)
    ∷ (table (swap_pos 16 2 0) is number_13)
    ∷ (table (swap_pos 0 7 0) is number_13)
    ∷ []

pub table_cases : Agree tables
unfolding tables lowest cofactor ignores eval_lut eval_lut_bv to_bitvec remove_lsb_var eval_lut_const_input cofactors_in_msb swap_pos
table_cases = refl
