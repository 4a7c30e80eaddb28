-- Number 6: verification (document 01, "Verification"; document 000, `verify_rec`).
use Rattle.std.specs.Prelude.{ℕ, ◌-◌, ◌^◌, List, [], ◌∷◌, Bool, true, false, cond, not, ◌&&◌, ◌||◌, length, ltb, leb, eqb}
use Rattle.meaning.specs.declared.Refusal.{Refusal}
use Rattle.meaning.specs.Rules.Limits.{most_operands}
use Rattle.meaning.specs.Rules.Numbers.{not_verified}
use Rattle.meaning.specs.Rules.Kinds.{Kind, Const, Program, DC, Var, Nor, Mux, And, Xor, Not, Lut, Bus, Reg, Arg, Cycle, Unknown, kind_of, program_word, bus_word}
use Rattle.meaning.specs.Rules.Trees.{Tree, node, kind_word, datum, trees, node_count, tree_of}
use Rattle.meaning.specs.Rules.Refusals.{at_lowest, some}
use Rattle.meaning.specs.Rules.Reach.{mark_of, reachable}

abbrev pub is_program : Tree → Bool
is_program t = eqb (kind_word t) program_word

abbrev pub is_bus : Tree → Bool
is_bus t = eqb (kind_word t) bus_word

-- "a Lut without children or with more than seven; its first child not a Program; with k = children - 1 below 6, a
-- program of 2^(2^k) or more"
abbrev pub lut_wrong : List Tree → Bool
lut_wrong [] = true
lut_wrong (p ∷ ops) =
    ltb most_operands (length ops)
    || not (is_program p)
    || ltb (length ops) most_operands && leb (2 ^ (2 ^ length ops)) (datum p)

-- "an Arg whose child isn't a Program, or whose index is at or above the least number of Cycle nodes over it"
abbrev pub arg_wrong : ℕ → List Tree → Bool
arg_wrong depth [] = true
arg_wrong depth (p ∷ ts) = not (is_program p) || leb depth (datum p)

-- the node's own fault, from its children, with `depth` Cycles over it: "a Program under And, Xor or Nor; a Bus holding a
-- Program or Bus"
abbrev pub wrong : Kind → ℕ → List Tree → Bool
wrong Const depth cs = false
wrong Program depth cs = false
wrong DC depth cs = false
wrong Var depth cs = false
wrong Nor depth cs = some is_program cs
wrong Mux depth cs = false
wrong And depth cs = some is_program cs
wrong Xor depth cs = some is_program cs
wrong Not depth cs = false
wrong Lut depth cs = lut_wrong cs
wrong Bus depth cs = some (λ t. is_program t || is_bus t) cs
wrong Reg depth cs = false
wrong Arg depth cs = arg_wrong depth cs
wrong Cycle depth cs = false
wrong Unknown depth cs = true

abbrev pub wrong_tree : ℕ → Tree → Bool
wrong_tree depth (node k d cs) = wrong (kind_of k) depth (trees cs)

-- a mark is 1 + the least number of Cycle nodes over the node (Rules/Reach)
unfoldable pub verify_fault : List ℕ → List ℕ → ℕ → ℕ
verify_fault ns ps i = cond (reachable ns ps i && wrong_tree (mark_of ns ps i - 1) (tree_of ns ps i)) not_verified 0

unfoldable pub verification : List ℕ → List ℕ → Refusal
verification ns ps = at_lowest (node_count ns) (verify_fault ns ps)
