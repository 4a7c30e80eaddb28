-- Answers of a node (document 01, "Answers of a node"; document 000, `eval_rec`).
use Rattle.std.specs.Prelude.{ℕ, suc, ◌+◌, ◌-◌, ◌*◌, List, [], ◌∷◌, cond, get_or, drop, ltb, eqb}
use Rattle.std.specs.Int.Bits.{bit_and, bit_or, bit_xor}
use Rattle.meaning.specs.declared.Failure.{Failure}
use Rattle.meaning.specs.declared.Failure.TheVariants.{Undriven, DontCare, Register, Argument}
use Rattle.meaning.specs.declared.Answer.{Answer}
use Rattle.meaning.specs.declared.Answer.TheVariants.{Value, Failed}
use Rattle.meaning.specs.Rules.Limits.{widest_bus}
use Rattle.meaning.specs.Rules.Words.{bit_at, ones}
use Rattle.meaning.specs.Rules.Kinds.{Kind, Const, Program, DC, Var, Nor, Mux, And, Xor, Not, Lut, Bus, Reg, Arg, Cycle, Unknown, kind_of}
use Rattle.meaning.specs.Rules.Trees.{Tree, Forest, node, none, ◌◂◌}

-- "a failure: 1 undriven, 2 DC, 3 register, 4 ARG"
abbrev pub failure_number : Failure → ℕ
failure_number Undriven = 1
failure_number DontCare = 2
failure_number Register = 3
failure_number Argument = 4

-- the state, the width and the value of an answer where answers are words: 0 with the width and the value, or the
-- failure's number with zeros
abbrev pub state_of : Answer → ℕ
state_of (Value w v) = 0
state_of (Failed f) = failure_number f

abbrev pub answer_width : Answer → ℕ
answer_width (Value w v) = w
answer_width (Failed f) = 0

abbrev pub value_of : Answer → ℕ
value_of (Value w v) = v
value_of (Failed f) = 0

-- "an answer width 0 and value 0": what a refusal and a zero field show
abbrev pub blank : Answer
blank = Value 0 0

-- ---- an assignment gives each variable a byte: "0, 1, 2 undriven" (Rules/Assignments)
abbrev pub Assignment : Type 0
Assignment = ℕ → ℕ

abbrev pub undriven_byte : ℕ
undriven_byte = 2

abbrev pub driven : ℕ → Answer
driven b = cond (ltb b undriven_byte) (Value 1 b) (Failed Undriven)

-- ---- the operators

-- "One failure: if the other is all zeros, zeros; else that failure. Two: the first."
abbrev pub zeros_or : ℕ → ℕ → Failure → Answer
zeros_or w x f = cond (eqb x 0) (Value w 0) (Failed f)

abbrev pub and_of : Answer → Answer → Answer
and_of (Value w x) (Value u y) = Value w (bit_and x y)
and_of (Value w x) (Failed f) = zeros_or w x f
and_of (Failed f) (Value w y) = zeros_or w y f
and_of (Failed f) (Failed g) = Failed f

-- "Nor is the complement of or, and all ones absorb to zeros"
abbrev pub nor_of : Answer → Answer → Answer
nor_of (Value w x) (Value u y) = Value w (ones w - bit_or x y)
nor_of (Value w x) (Failed f) = zeros_or w (ones w - x) f
nor_of (Failed f) (Value w y) = zeros_or w (ones w - y) f
nor_of (Failed f) (Failed g) = Failed f

-- "Xor, Not, Lut: the first failing operand in order"
abbrev pub xor_of : Answer → Answer → Answer
xor_of (Value w x) (Value u y) = Value w (bit_xor x y)
xor_of (Value w x) (Failed g) = Failed g
xor_of (Failed f) (Value u y) = Failed f
xor_of (Failed f) (Failed g) = Failed f

abbrev pub not_of : Answer → Answer
not_of (Value w x) = Value w (ones w - x)
not_of (Failed f) = Failed f

-- "Mux: the selector's failure; else s = 1 answers as a, s = 0 as b"
abbrev pub mux_of : Answer → Answer → Answer → Answer
mux_of (Value w s) a b = cond (eqb s 0) b a
mux_of (Failed f) a b = Failed f

-- bits in order, the first the most significant; the first failing operand leaves
abbrev pub operands : Answer → List Answer → Answer
operands r [] = r
operands (Failed f) (x ∷ xs) = Failed f
operands (Value w r) (Failed g ∷ xs) = Failed g
operands (Value w r) (Value u x ∷ xs) = operands (Value (suc w) (r * 2 + x)) xs

abbrev pub row_bit : ℕ → Answer → Answer
row_bit p (Value w r) = Value 1 (bit_at p r)
row_bit p (Failed f) = Failed f

-- "Lut: the first operand is the most significant bit of the row number"
abbrev pub lut_of : ℕ → List Answer → Answer
lut_of p xs = row_bit p (operands blank xs)

-- "Bus: the last failing member; otherwise its last member is bit 0"
abbrev pub bus_of : Answer → List Answer → Answer
bus_of r [] = r
bus_of r (Failed g ∷ xs) = bus_of (Failed g) xs
bus_of (Failed f) (Value u x ∷ xs) = bus_of (Failed f) xs
bus_of (Value w r) (Value u x ∷ xs) = bus_of (Value (suc w) (r * 2 + x)) xs

abbrev pub nth : List Answer → ℕ → Answer
nth xs i = get_or xs i blank

-- a node's answer from its datum and its children's answers. A Program is never asked for its own answer: what stands
-- here for it, its 64 bits, is read by the Lut over it.
abbrev pub step : Assignment → Kind → ℕ → List Answer → Answer
step α Const d xs = Value 1 d
step α Program d xs = Value widest_bus d
step α DC d xs = Failed DontCare
step α Var d xs = driven (α d)
step α Nor d xs = nor_of (nth xs 0) (nth xs 1)
step α Mux d xs = mux_of (nth xs 0) (nth xs 1) (nth xs 2)
step α And d xs = and_of (nth xs 0) (nth xs 1)
step α Xor d xs = xor_of (nth xs 0) (nth xs 1)
step α Not d xs = not_of (nth xs 0)
step α Lut d xs = lut_of (value_of (nth xs 0)) (drop 1 xs)
step α Bus d xs = bus_of blank xs
step α Reg d xs = Failed Register
step α Arg d xs = Failed Argument
step α Cycle d xs = nth xs 0
step α Unknown d xs = blank

-- ---- the answer of a tree under an assignment
abbrev mutual
  pub answer : Assignment → Tree → Answer
  answer α (node k d cs) = step α (kind_of k) d (answers α cs)

  pub answers : Assignment → Forest → List Answer
  answers α none = []
  answers α (t ◂ ts) = answer α t ∷ answers α ts
