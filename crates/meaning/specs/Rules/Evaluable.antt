-- Numbers 7 and 8: a root, and evaluable (document 01, "Evaluable").
use Rattle.std.specs.Prelude.{ℕ, suc, ◌+◌, List, [], ◌∷◌, Bool, true, false, cond, not, ◌&&◌, ◌||◌, length, get_or, drop, ltb, eqb}
use Rattle.meaning.specs.declared.Refusal.{Refusal}
use Rattle.meaning.specs.Rules.Numbers.{no_root, not_evaluable}
use Rattle.meaning.specs.Rules.Kinds.{Kind, Const, Program, DC, Var, Nor, Mux, And, Xor, Not, Lut, Bus, Reg, Arg, Cycle, Unknown, kind_of}
use Rattle.meaning.specs.Rules.Trees.{Tree, Forest, node, none, ◌◂◌, node_count, tree_of}
use Rattle.meaning.specs.Rules.Refusals.{◌then◌, require, at_lowest, every}
use Rattle.meaning.specs.Rules.Layout.{layout}
use Rattle.meaning.specs.Rules.Reach.{reachable}
use Rattle.meaning.specs.Rules.Verification.{is_program, verification}

-- ---- 7: "empty list, where a root is needed"
abbrev pub rooted : List ℕ → Refusal
rooted ns = require (ltb 0 (node_count ns)) no_root

-- ---- "Each reachable node is a bit or a bus, and a bus of one isn't a bit." A Program is neither.
pub data Shape : Type 0 where
  bit program : Shape
  bus : ℕ → Shape

-- shapes as numbers, no two alike
abbrev pub shape_code : Shape → ℕ
shape_code program = 0
shape_code bit = 1
shape_code (bus n) = n + 2

-- the width of the value that a node of this shape has
abbrev pub width_of : Shape → ℕ
width_of program = 0
width_of bit = 1
width_of (bus n) = n

abbrev pub is_bit : Shape → Bool
is_bit s = eqb (shape_code s) 1

abbrev pub is_logic : Shape → Bool
is_logic s = ltb 0 (shape_code s)

abbrev pub same_shape : Shape → Shape → Bool
same_shape s t = eqb (shape_code s) (shape_code t)

abbrev pub nth_shape : List Shape → ℕ → Shape
nth_shape ss i = get_or ss i bit

-- "And, Nor, Xor .. a Mux .. give that shape. Not and Cycle give their child's. Bus is a bus of its count; .. all else is
-- a bit."
abbrev pub shape_step : Kind → List Shape → Shape
shape_step Const ss = bit
shape_step Program ss = program
shape_step DC ss = bit
shape_step Var ss = bit
shape_step Nor ss = nth_shape ss 0
shape_step Mux ss = nth_shape ss 1
shape_step And ss = nth_shape ss 0
shape_step Xor ss = nth_shape ss 0
shape_step Not ss = nth_shape ss 0
shape_step Lut ss = bit
shape_step Bus ss = bus (length ss)
shape_step Reg ss = bit
shape_step Arg ss = bit
shape_step Cycle ss = nth_shape ss 0
shape_step Unknown ss = bit

abbrev mutual
  pub shape : Tree → Shape
  shape (node k d cs) = shape_step (kind_of k) (shapes cs)

  pub shapes : Forest → List Shape
  shapes none = []
  shapes (t ◂ ts) = shape t ∷ shapes ts

-- two operands, or two arms, "of one shape", and no Programs
abbrev pub alike : Shape → Shape → Bool
alike s t = is_logic s && same_shape s t

-- ---- 8: the node's own fit, from its children's shapes ("A misplaced child is its parent's fault"). "Programs stand only
-- first in a Lut or below an Arg" (there verification asks for one). "Lut operands, Bus members and a Mux selector are
-- bits"; "register operands are anything but Programs"
abbrev pub fits : Kind → List Shape → Bool
fits Const ss = true
fits Program ss = true
fits DC ss = true
fits Var ss = true
fits Nor ss = alike (nth_shape ss 0) (nth_shape ss 1)
fits Mux ss = is_bit (nth_shape ss 0) && alike (nth_shape ss 1) (nth_shape ss 2)
fits And ss = alike (nth_shape ss 0) (nth_shape ss 1)
fits Xor ss = alike (nth_shape ss 0) (nth_shape ss 1)
fits Not ss = is_logic (nth_shape ss 0)
fits Lut ss = every is_bit (drop 1 ss)
fits Bus ss = every is_bit ss
fits Reg ss = every is_logic ss
fits Arg ss = true
fits Cycle ss = is_logic (nth_shape ss 0)
fits Unknown ss = false

abbrev pub fits_tree : Tree → Bool
fits_tree (node k d cs) = fits (kind_of k) (shapes cs)

-- "a Program at the root is its own" fault
abbrev pub is_root : List ℕ → ℕ → Bool
is_root ns i = eqb (suc i) (node_count ns)

abbrev pub misfits : List ℕ → List ℕ → ℕ → Bool
misfits ns ps i = not (fits_tree (tree_of ns ps i)) || is_root ns i && is_program (tree_of ns ps i)

unfoldable pub shape_fault : List ℕ → List ℕ → ℕ → ℕ
shape_fault ns ps i = cond (reachable ns ps i && misfits ns ps i) not_evaluable 0

unfoldable pub evaluability : List ℕ → List ℕ → Refusal
evaluability ns ps = at_lowest (node_count ns) (shape_fault ns ps)

-- ---- "then list by list 3, 4, 5 .., 6, 7, 8"
unfoldable pub sound : List ℕ → List ℕ → Refusal
sound ns ps = layout ns ps then verification ns ps then rooted ns then evaluability ns ps
