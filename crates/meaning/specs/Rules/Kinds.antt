-- The kinds of node (document 01, "The node list").
use Rattle.std.specs.Prelude.{ℕ, List, [], ◌∷◌, Bool, true, false, ◌&&◌, get_or, ltb, leb, eqb}
use Rattle.meaning.specs.Rules.Limits.{widest_bus}
-- the four registers are one kind here; the kind WORD, which tells them apart, stays in the tree
pub use Rattle.meaning.specs.declared.kinds.Kind.{Kind}
pub use Rattle.meaning.specs.declared.kinds.Kind.TheVariants.{Const, Program, DC, Var, Nor, Mux, And, Xor, Not, Lut, Bus, Reg, Arg, Cycle, Unknown}

-- "Kinds, in 000's order: 0 Const, ... 16 Cycle"
abbrev pub kinds : List Kind
kinds =
    Const ∷ Program ∷ DC ∷ Var ∷ Nor ∷ Mux ∷ And ∷ Xor ∷ Not ∷ Lut ∷ Bus ∷ Reg ∷ Reg ∷ Reg ∷ Reg ∷ Arg ∷ Cycle ∷ []

abbrev pub kind_of : ℕ → Kind
kind_of k = get_or kinds k Unknown

-- ---- the kind words that a rule names
abbrev pub const_word : ℕ
const_word = 0

abbrev pub program_word : ℕ
program_word = 1

abbrev pub dont_care_word : ℕ
dont_care_word = 2

abbrev pub variable_word : ℕ
variable_word = 3

abbrev pub mux_word : ℕ
mux_word = 5

abbrev pub lut_word : ℕ
lut_word = 9

abbrev pub bus_word : ℕ
bus_word = 10

abbrev pub cycle_word : ℕ
cycle_word = 16

-- "kinds 4 to 16": those with a part of the pool
abbrev pub has_children : ℕ → Bool
has_children k = ltb variable_word k

-- "a reachable gate (kinds 4 to 8)"
abbrev pub is_gate : ℕ → Bool
is_gate k = has_children k && ltb k lut_word

-- "The number of children is decided by the kind": may a node of this kind have n children? (A Program's count word is
-- the high half of its value, and any.)
abbrev pub may_have : Kind → ℕ → Bool
may_have Const n = eqb n 0
may_have Program n = true
may_have DC n = eqb n 0
may_have Var n = eqb n 0
may_have Nor n = eqb n 2
may_have Mux n = eqb n 3
may_have And n = eqb n 2
may_have Xor n = eqb n 2
may_have Not n = eqb n 1
may_have Lut n = true
may_have Bus n = leb n widest_bus
may_have Reg n = eqb n 4
may_have Arg n = eqb n 1
may_have Cycle n = eqb n 1
may_have Unknown n = false

-- "no don't-care, register or ARG node" (demand 3)
abbrev pub is_plain : Kind → Bool
is_plain Const = true
is_plain Program = true
is_plain DC = false
is_plain Var = true
is_plain Nor = true
is_plain Mux = true
is_plain And = true
is_plain Xor = true
is_plain Not = true
is_plain Lut = true
is_plain Bus = true
is_plain Reg = false
is_plain Arg = false
is_plain Cycle = true
is_plain Unknown = false
