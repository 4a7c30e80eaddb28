-- Cases of Rules/Folding, Rules/Listing, Rules/Canonical: the canonical list, numbers 14 and 19.
use Rattle.std.specs.Prelude.{ℕ, ◌+◌, ◌*◌, ◌^◌, ◌-◌, refl, List, [], ◌∷◌, ◌++◌}
use Rattle.meaning.specs.Rules.Limits.{words_per_node}
use Rattle.meaning.specs.Rules.Trees.{Tree, node, none, ◌◂◌, node_of, trees_of, tree_of, root_of, datum_at, children_at}
use Rattle.meaning.specs.Rules.Search.{lowest}
use Rattle.meaning.specs.Rules.Refusals.{at_lowest}
use Rattle.meaning.specs.Rules.Layout.{sizes, layout_fault, layout}
use Rattle.meaning.specs.Rules.Reach.{marks}
use Rattle.meaning.specs.Rules.Verification.{verify_fault, verification}
use Rattle.meaning.specs.Rules.Evaluable.{shape_fault, evaluability, sound}
use Rattle.meaning.specs.Rules.Tables.{cofactor, ignores}
use Rattle.meaning.specs.Rules.Canonical.{gate_fault, gates, canonical_nodes, canonical_pool}
use Rattle.meaning.specs.Rules.Folding.{fold, lut}
use Rattle.meaning.specs.Rules.Listing.{subtrees, listed_nodes, listed_pool}
use Rattle.meaning.specs.Rules.Calls.{canonical_refusal}
use Rattle.meaning.specs.Claims.Drawn.{Said, Line, ◌is◌, false, true, dc, v0, v1, v2, nor, mux, and, xor, inv, bus, reg, arg, cycle, list, refused, done, Agree, numbered, canonicalising, program}

-- the list of a term
unfoldable pub listing : Tree → Said
listing t = list (listed_nodes t) (listed_pool t)

-- the canonicaliser lent room for n node words and p pool words
unfoldable pub fitting : Tree → ℕ → ℕ → Said
fitting t n p = numbered (canonical_refusal (listed_nodes t) (listed_pool t) 1000 n p)

unfoldable pub canonicals : List Line
canonicals =
    -- gates become Luts of programs 202, 8, 6, 1, 1
    (canonicalising (mux v0 v1 v2) is listing (lut 202 (v0 ∷ v1 ∷ v2 ∷ [])))
    ∷ (canonicalising (and v0 v1) is listing (lut 8 (v0 ∷ v1 ∷ [])))
    ∷ (canonicalising (xor v0 v1) is listing (lut 6 (v0 ∷ v1 ∷ [])))
    ∷ (canonicalising (nor v0 v1) is listing (lut 1 (v0 ∷ v1 ∷ [])))
    ∷ (canonicalising (inv v0) is listing (lut 1 (v0 ∷ [])))
    -- rule 1, rule 2
    ∷ (canonicalising (lut 0 []) is listing false)
    ∷ (canonicalising (lut 1 []) is listing true)
    ∷ (canonicalising (lut 0 (v0 ∷ [])) is listing false)
    ∷ (canonicalising (lut 3 (v0 ∷ [])) is listing true)
    ∷ (canonicalising (lut 2 (v0 ∷ [])) is listing v0)
    ∷ (canonicalising (lut 1 (true ∷ [])) is listing false)
    ∷ (canonicalising (lut 1 (false ∷ [])) is listing true)
    -- rule 3: a constant operand, at each place; an operand that no row pair depends on
    ∷ (canonicalising (and true v0) is listing v0)
    ∷ (canonicalising (and v0 true) is listing v0)
    ∷ (canonicalising (and false v0) is listing false)
    ∷ (canonicalising (xor v0 true) is listing (lut 1 (v0 ∷ [])))
    ∷ (canonicalising (mux v0 v1 true) is listing (lut 11 (v0 ∷ v1 ∷ [])))
    ∷ (canonicalising (lut 12 (v0 ∷ v1 ∷ [])) is listing v0)
    ∷ (canonicalising (lut 10 (v0 ∷ v1 ∷ [])) is listing v1)
    ∷ (canonicalising (lut 15 (v0 ∷ v1 ∷ [])) is listing true)
    ∷ (canonicalising (lut 195 (v0 ∷ v1 ∷ v2 ∷ [])) is listing (lut 9 (v0 ∷ v1 ∷ [])))
    ∷ (canonicalising (lut 90 (v0 ∷ v1 ∷ v2 ∷ [])) is listing (lut 6 (v0 ∷ v2 ∷ [])))
    -- until no rule applies: a constant that folding brings up; equal operands aren't merged
    ∷ (canonicalising (lut 8 (v0 ∷ lut 2 (true ∷ []) ∷ [])) is listing v0)
    ∷ (canonicalising (lut 8 (dc ∷ lut 2 (false ∷ []) ∷ [])) is listing false)
    ∷ (canonicalising (lut 3 (v0 ∷ lut 3 (v0 ∷ []) ∷ [])) is listing (lut 1 (v0 ∷ [])))
    ∷ (canonicalising (and v0 v0) is listing (lut 8 (v0 ∷ v0 ∷ [])))
    -- what stays, over folded children
    ∷ (canonicalising (bus (and v0 true ∷ dc ∷ [])) is listing (bus (v0 ∷ dc ∷ [])))
    ∷ (canonicalising (reg 13 (and v0 true)) is listing (reg 13 v0))
    ∷ (canonicalising (cycle (inv (arg 0))) is listing (cycle (lut 1 (arg 0 ∷ []))))
    -- the list: children first, left to right, each subtree once, pool without gaps; a Program's two halves
    ∷ (canonicalising (and (inv v1) v0) is list
    (node_of 1 8 0 ++ node_of 1 1 0 ++ node_of 3 1 0 ++ node_of 9 0 2 ++ node_of 3 0 0 ++ node_of 9 2 3)
    (1 ∷ 2 ∷ 0 ∷ 3 ∷ 4 ∷ []))
    ∷ (canonicalising (node 11 0 (inv v0 ◂ bus [] ◂ v0 ◂ v0 ◂ none)) is list
    (node_of 1 1 0 ++ node_of 3 0 0 ++ node_of 9 0 2 ++ node_of 10 2 0 ++ node_of 11 2 4)
    (0 ∷ 1 ∷ 2 ∷ 3 ∷ 1 ∷ 1 ∷ []))
    ∷ (listing (lut (2 ^ 32 * 7 + 5) (v0 ∷ [])) is list (node_of 1 5 7 ++ node_of 3 0 0 ++ node_of 9 0 2) (0 ∷ 1 ∷ []))
    -- 14: a wide gate, each kind of it, asked before folding; an unreachable one doesn't count
    ∷ (canonicalising (inv (bus (v0 ∷ []))) is refused 14 2)
    ∷ (canonicalising (nor (bus (v0 ∷ [])) (bus (v0 ∷ []))) is refused 14 2)
    ∷ (canonicalising (mux true (bus (v0 ∷ [])) (bus (v1 ∷ []))) is refused 14 5)
    ∷ (numbered (canonical_refusal (node_of 10 0 0 ++ node_of 8 0 1 ++ node_of 3 0 0) (0 ∷ []) 100 (words_per_node * 3) 0) is done)
    -- 6 and 8 are asked before 14
    ∷ (canonicalising (and (inv (bus [])) (arg 0)) is refused 6 3)
    ∷ (canonicalising (and (inv (bus [])) (program 0)) is refused 6 3)
    ∷ (canonicalising (and (inv (bus [])) v0) is refused 8 3)
    -- 19: last, and only of what is too short
    ∷ (fitting (and v0 v1) (words_per_node * 4) 3 is done)
    ∷ (fitting (and v0 v1) (words_per_node * 4 - 1) 3 is refused 19 0)
    ∷ (fitting (and v0 v1) (words_per_node * 4) 2 is refused 19 0)
    ∷ (fitting (inv (bus [])) 0 0 is refused 14 1)
    ∷ []

pub canonical_cases : Agree canonicals
unfolding canonicals lowest canonicalising listing fitting trees_of tree_of root_of datum_at children_at cofactor ignores at_lowest sizes layout_fault layout marks verify_fault verification shape_fault evaluability sound canonical_refusal gate_fault gates fold subtrees listed_nodes listed_pool canonical_nodes canonical_pool
canonical_cases = refl
