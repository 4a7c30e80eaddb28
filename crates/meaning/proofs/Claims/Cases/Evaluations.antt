-- Cases of Rules/Answers, Rules/Assignments: the answers of a node, and number 12.
use Rattle.std.specs.Prelude.{ℕ, suc, ◌^◌, refl, List, [], ◌∷◌, replicate}
use Rattle.meaning.specs.declared.Failure.TheVariants.{Undriven, DontCare, Register, Argument}
use Rattle.meaning.specs.declared.Answer.TheVariants.{Value, Failed}
use Rattle.meaning.specs.Rules.Limits.{variable_count}
use Rattle.meaning.specs.Rules.Trees.{Tree, trees_of, tree_of, root_of, datum_at, children_at}
use Rattle.meaning.specs.Rules.Search.{lowest}
use Rattle.meaning.specs.Rules.Refusals.{at_lowest}
use Rattle.meaning.specs.Rules.Layout.{sizes, layout_fault, layout}
use Rattle.meaning.specs.Rules.Reach.{marks}
use Rattle.meaning.specs.Rules.Verification.{verify_fault, verification}
use Rattle.meaning.specs.Rules.Evaluable.{shape_fault, evaluability, sound}
use Rattle.meaning.specs.Rules.Assignments.{is_assignment}
use Rattle.meaning.specs.Rules.Listing.{subtrees, listed_nodes, listed_pool}
use Rattle.meaning.specs.Rules.Folding.{lut}
use Rattle.meaning.specs.Rules.Calls.{evaluate_refusal}
use Rattle.meaning.specs.Claims.Drawn.{Said, Line, ◌is◌, false, true, dc, var, v0, v1, program, nor, mux, and, xor, inv, bus, reg, arg, cycle, answers, refused, Agree, evaluating}

abbrev pub undriven : Said
undriven = answers (Failed Undriven)

abbrev pub dont_care : Said
dont_care = answers (Failed DontCare)

abbrev pub register : Said
register = answers (Failed Register)

abbrev pub argument : Said
argument = answers (Failed Argument)

abbrev pub value : ℕ → ℕ → Said
value w v = answers (Value w v)

-- an undriven variable
abbrev pub v9 : Tree
v9 = var 9

-- a bus of two bits, the first the high one
abbrev pub bits : Tree → Tree → Tree
bits x y = bus (x ∷ y ∷ [])

-- an ARG, whose answer is seen through the Cycle over the term
abbrev pub under : Tree → Tree
under t = cycle t

unfoldable pub evaluations : List Line
evaluations =
    -- bytes 0, 1, 2 undriven; a variable past the slice is undriven; Const, DC, register, ARG, Cycle
    (evaluating v0 (0 ∷ []) is value 1 0)
    ∷ (evaluating v0 (1 ∷ []) is value 1 1)
    ∷ (evaluating v0 (2 ∷ []) is undriven)
    ∷ (evaluating v1 (1 ∷ []) is undriven)
    ∷ (evaluating v1 (0 ∷ 1 ∷ []) is value 1 1)
    ∷ (evaluating false [] is value 1 0)
    ∷ (evaluating true [] is value 1 1)
    ∷ (evaluating dc [] is dont_care)
    ∷ (evaluating (reg 11 true) [] is register)
    ∷ (evaluating (reg 12 true) [] is register)
    ∷ (evaluating (reg 13 true) [] is register)
    ∷ (evaluating (reg 14 true) [] is register)
    ∷ (evaluating (under (arg 0)) [] is argument)
    ∷ (evaluating (cycle (inv false)) [] is value 1 1)
    -- And: two values; one failure; two
    ∷ (evaluating (and (bits true true) (bits true false)) [] is value 2 2)
    ∷ (evaluating (and (bits true false) (bits false true)) [] is value 2 0)
    ∷ (evaluating (and (bits false false) (bits v9 true)) [] is value 2 0)
    ∷ (evaluating (and (bits v9 true) (bits false false)) [] is value 2 0)
    ∷ (evaluating (and (bits false true) (bits v9 true)) [] is undriven)
    ∷ (evaluating (and (bits v9 true) (bits false true)) [] is undriven)
    ∷ (evaluating (and dc v9) [] is dont_care)
    ∷ (evaluating (and v9 dc) [] is undriven)
    -- Nor: the complement of or, at its width; all ones absorb to zeros
    ∷ (evaluating (nor (bits false false) (bits true false)) [] is value 2 1)
    ∷ (evaluating (nor false false) [] is value 1 1)
    ∷ (evaluating (nor (bits true true) (bits v9 true)) [] is value 2 0)
    ∷ (evaluating (nor (bits v9 true) (bits true true)) [] is value 2 0)
    ∷ (evaluating (nor (bits true false) (bits v9 true)) [] is undriven)
    ∷ (evaluating (nor (bits v9 true) (bits false false)) [] is undriven)
    ∷ (evaluating (nor dc v9) [] is dont_care)
    ∷ (evaluating (nor v9 dc) [] is undriven)
    -- a value of width 0 is all zeros and all ones
    ∷ (evaluating (and (bus []) (bus [])) [] is value 0 0)
    ∷ (evaluating (nor (bus []) (bus [])) [] is value 0 0)
    ∷ (evaluating (inv (bus [])) [] is value 0 0)
    ∷ (evaluating (and (bus []) (mux v9 (bus []) (bus []))) [] is value 0 0)
    ∷ (evaluating (and (mux v9 (bus []) (bus [])) (bus [])) [] is value 0 0)
    ∷ (evaluating (nor (bus []) (mux v9 (bus []) (bus []))) [] is value 0 0)
    ∷ (evaluating (xor (bus []) (mux v9 (bus []) (bus []))) [] is undriven)
    -- Xor, Not: the first failing operand in order
    ∷ (evaluating (xor (bits true true) (bits true false)) [] is value 2 1)
    ∷ (evaluating (xor false dc) [] is dont_care)
    ∷ (evaluating (xor dc false) [] is dont_care)
    ∷ (evaluating (xor dc v9) [] is dont_care)
    ∷ (evaluating (xor v9 dc) [] is undriven)
    ∷ (evaluating (inv (bits true false)) [] is value 2 1)
    ∷ (evaluating (inv dc) [] is dont_care)
    -- Mux: the selector's failure; the other arm is not looked at
    ∷ (evaluating (mux true (bits true false) (bits false true)) [] is value 2 2)
    ∷ (evaluating (mux false (bits true false) (bits false true)) [] is value 2 1)
    ∷ (evaluating (mux true true dc) [] is value 1 1)
    ∷ (evaluating (mux false dc true) [] is value 1 1)
    ∷ (evaluating (mux true dc true) [] is dont_care)
    ∷ (evaluating (mux v9 dc dc) [] is undriven)
    -- Lut: the first operand is the most significant bit of the row number; the first failing operand
    ∷ (evaluating (lut 2 (false ∷ true ∷ [])) [] is value 1 1)
    ∷ (evaluating (lut 2 (true ∷ false ∷ [])) [] is value 1 0)
    ∷ (evaluating (lut 4 (true ∷ false ∷ [])) [] is value 1 1)
    ∷ (evaluating (lut 1 []) [] is value 1 1)
    ∷ (evaluating (lut (2 ^ 63) (true ∷ true ∷ true ∷ true ∷ true ∷ true ∷ [])) [] is value 1 1)
    ∷ (evaluating (lut (2 ^ 32) (true ∷ false ∷ false ∷ false ∷ false ∷ false ∷ [])) [] is value 1 1)
    ∷ (evaluating (lut (2 ^ 32) (true ∷ false ∷ false ∷ false ∷ false ∷ true ∷ [])) [] is value 1 0)
    ∷ (evaluating (lut 15 (true ∷ dc ∷ [])) [] is dont_care)
    ∷ (evaluating (lut 15 (dc ∷ v9 ∷ [])) [] is dont_care)
    ∷ (evaluating (lut 15 (v9 ∷ dc ∷ [])) [] is undriven)
    -- Bus: its last member is bit 0; the last failing member
    ∷ (evaluating (bus (true ∷ false ∷ false ∷ [])) [] is value 3 4)
    ∷ (evaluating (bus (dc ∷ v9 ∷ true ∷ [])) [] is undriven)
    ∷ (evaluating (bus (dc ∷ true ∷ v9 ∷ [])) [] is undriven)
    ∷ (evaluating (bus (v9 ∷ dc ∷ [])) [] is dont_care)
    ∷ (evaluating (bus []) [] is value 0 0)
    -- 12
    ∷ (evaluating v0 (3 ∷ []) is refused 12 0)
    ∷ (evaluating v0 (0 ∷ 3 ∷ []) is refused 12 0)
    ∷ (evaluating v0 (replicate variable_count 1) is value 1 1)
    ∷ (evaluating v0 (replicate (suc variable_count) 1) is refused 12 0)
    ∷ (evaluating (program 0) (3 ∷ []) is refused 8 0)
    ∷ []

pub evaluation_cases : Agree evaluations
unfolding evaluations lowest evaluating trees_of tree_of root_of datum_at children_at at_lowest sizes layout_fault layout marks verify_fault verification shape_fault evaluability sound is_assignment evaluate_refusal subtrees listed_nodes listed_pool
evaluation_cases = refl
