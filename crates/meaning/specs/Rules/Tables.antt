-- Truth-table routines (document 01). A program over k operands has 2 ^ k rows; row i is bit i.
use Rattle.std.specs.Prelude.{ℕ, zero, suc, ◌+◌, ◌-◌, ◌*◌, ◌/◌, ◌%◌, ◌^◌, List, [], ◌∷◌, ◌++◌, take, drop, reverse, Bool, true, cond, not, ◌&&◌, Option, Some, None, Result, Ok, Err, length, ltb, leb, eqb}
use Rattle.meaning.specs.declared.OutOfRange.{OutOfRange}
use Rattle.meaning.specs.declared.BitVector.{BitVector}
use Rattle.meaning.specs.declared.Cofactors.{Cofactors}
use Rattle.meaning.specs.Rules.Limits.{most_operands}
use Rattle.meaning.specs.Rules.Numbers.{done_number, bad_table}
use Rattle.meaning.specs.Rules.Words.{bit_at, word_fits}
use Rattle.meaning.specs.Rules.Search.{lowest}

-- ---- what a routine says: the number, and the values of its answer

pub record TableAnswer : Type 0 where
  pub number : ℕ
  pub first : ℕ
  pub second : ℕ

abbrev pub says : ℕ → ℕ → TableAnswer
says x y = record { number = done_number; first = x; second = y }

abbrev pub out_of_range : TableAnswer
out_of_range = record { number = bad_table; first = 0; second = 0 }

-- "else 13"
abbrev pub in_range : Bool → TableAnswer → TableAnswer
in_range test a = cond test a out_of_range

-- what each kind of answer says where the arguments are in range
abbrev pub bit_says : Bool → TableAnswer
bit_says b = says (cond b 1 0) 0

abbrev pub program_says : ℕ → TableAnswer
program_says p = says p 0

-- 0 for the Rust's None; 1, then the program
abbrev pub smaller_says : Option ℕ → TableAnswer
smaller_says (Some p) = says 1 p
smaller_says None = says 0 0

abbrev pub width_and_value : BitVector → TableAnswer
width_and_value v = says v.width v.value

-- "high then low"
abbrev pub high_and_low : Cofactors → TableAnswer
high_and_low c = says c.high c.low

-- the number and the values of an answer, by those of what `Ok` holds
abbrev pub answer_says : {A : Type 0} → (A → TableAnswer) → Result A OutOfRange → TableAnswer
answer_says f (Ok x) = f x
answer_says f (Err e) = out_of_range

abbrev pub lut_bit_says : Result Bool OutOfRange → TableAnswer
lut_bit_says = answer_says bit_says

abbrev pub bit_vector_says : Result BitVector OutOfRange → TableAnswer
bit_vector_says = answer_says width_and_value

abbrev pub removed_says : Result (Option ℕ) OutOfRange → TableAnswer
removed_says = answer_says smaller_says

abbrev pub table_program_says : Result ℕ OutOfRange → TableAnswer
table_program_says = answer_says program_says

abbrev pub cofactors_say : Result Cofactors OutOfRange → TableAnswer
cofactors_say = answer_says high_and_low

-- ---- rows

-- the program whose row i, for i below n, is f i
abbrev pub table : (ℕ → ℕ) → ℕ → ℕ
table f zero = 0
table f (suc n) = table f n + f n * 2 ^ n

-- the row that is i with the bit b put in at place q
abbrev pub insert_bit : ℕ → ℕ → ℕ → ℕ
insert_bit q b i = (i / 2 ^ q * 2 + b) * 2 ^ q + i % 2 ^ q

-- of a program over k + 1 operands, with the operand at row bit q set to b: "the program keeps the rows left in order"
unfoldable pub cofactor : ℕ → ℕ → ℕ → ℕ → ℕ
cofactor p k q b = table (λ i. bit_at p (insert_bit q b i)) (2 ^ k)

-- the pair of rows that differ only in row bit q
abbrev pub pair_differs : ℕ → ℕ → ℕ → Bool
pair_differs p q i = not (eqb (bit_at p (insert_bit q 0 i)) (bit_at p (insert_bit q 1 i)))

-- over k + 1 operands: "no row pair depends on" the operand at row bit q
unfoldable pub ignores : ℕ → ℕ → ℕ → Bool
ignores p k q = eqb (lowest (pair_differs p q) (2 ^ k)) (2 ^ k)

-- row i with its bits pos and pos + 1, "counted from the low end", exchanged
abbrev pub swap_bits : ℕ → ℕ → ℕ
swap_bits pos i = ((i / 2 ^ (pos + 2) * 2 + bit_at i pos) * 2 + bit_at i (pos + 1)) * 2 ^ pos + i % 2 ^ pos

-- bits to a row number, the first the most significant
abbrev pub row_from : ℕ → List ℕ → ℕ
row_from r [] = r
row_from r (b ∷ bs) = row_from (r * 2 + b) bs

-- the bits without the one at place j
abbrev pub but_one : ℕ → List ℕ → List ℕ
but_one j bs = take j bs ++ drop (suc j) bs

abbrev pub are_bits : List ℕ → Bool
are_bits [] = true
are_bits (b ∷ bs) = ltb b 2 && are_bits bs

-- "p must be below 2^(2^k) and k at most 6"
abbrev pub table_fits : ℕ → ℕ → Bool
table_fits p k = leb k most_operands && ltb p (2 ^ (2 ^ k))

-- the half of the rows in which the most significant of k + 1 operands is 1, and that in which it is 0
abbrev pub high_half : ℕ → ℕ → ℕ
high_half p k = p / 2 ^ (2 ^ k)

abbrev pub low_half : ℕ → ℕ → ℕ
low_half p k = p % 2 ^ (2 ^ k)

-- ---- the routines

-- "at most six input bytes of 0 or 1, any p; the first input is the high row bit in the one, the low in the other"
abbrev pub lut_inputs : List ℕ → Bool
lut_inputs inputs = leb (length inputs) most_operands && are_bits inputs

unfoldable pub eval_lut : ℕ → List ℕ → TableAnswer
eval_lut p inputs = in_range (lut_inputs inputs) (says (bit_at p (row_from 0 inputs)) 0)

unfoldable pub eval_lut_bv : ℕ → List ℕ → TableAnswer
eval_lut_bv p inputs = in_range (lut_inputs inputs) (says (bit_at p (row_from 0 (reverse inputs))) 0)

-- "capacity at most 64, p must be below 2^capacity (capacity 0 takes only 0, and gives width 0 and value 0)"
unfoldable pub to_bitvec : ℕ → ℕ → TableAnswer
to_bitvec p capacity = in_range (word_fits p capacity) (says capacity p)

-- the program over one operand less, where no row pair depends on the least significant
abbrev pub without_lsb : ℕ → ℕ → TableAnswer
without_lsb p k = cond (ignores p k 0) (says 1 (cofactor p k 0 0)) (says 0 0)

-- "None for k below 2 whatever p is (this comes first)"
unfoldable pub remove_lsb_var : ℕ → ℕ → TableAnswer
remove_lsb_var p k = cond (ltb k 2) (says 0 0) (in_range (table_fits p k) (without_lsb p (k - 1)))

-- "msb 0 to 5, k = msb + 1; the high or low half"
unfoldable pub eval_lut_const_input : ℕ → ℕ → Bool → TableAnswer
eval_lut_const_input p msb v = in_range (table_fits p (msb + 1)) (says (cond v (high_half p msb) (low_half p msb)) 0)

-- "k 2 to 6, high then low"
unfoldable pub cofactors_in_msb : ℕ → ℕ → TableAnswer
cofactors_in_msb p k = in_range (leb 2 k && table_fits p k) (says (high_half p (k - 1)) (low_half p (k - 1)))

-- "pos + 1 below k; row bits pos and pos + 1, counted from the low end, change places"
unfoldable pub swap_pos : ℕ → ℕ → ℕ → TableAnswer
swap_pos p k pos =
    in_range (table_fits p k && ltb (pos + 1) k) (says (table (λ i. bit_at p (swap_bits pos i)) (2 ^ k)) 0)
