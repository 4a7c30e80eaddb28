-- Cases of Rules/Evaluable: numbers 7 and 8.
use Rattle.std.specs.Prelude.{refl, List, [], ◌∷◌, ◌++◌, map}
use Rattle.meaning.specs.Rules.Trees.{Tree, node_of, trees_of, tree_of, root_of, datum_at, children_at}
use Rattle.meaning.specs.Rules.Search.{lowest}
use Rattle.meaning.specs.Rules.Refusals.{at_lowest}
use Rattle.meaning.specs.Rules.Layout.{layout_fault, layout}
use Rattle.meaning.specs.Rules.Reach.{marks}
use Rattle.meaning.specs.Rules.Verification.{verify_fault, verification}
use Rattle.meaning.specs.Rules.Evaluable.{shape_fault, evaluability, sound}
use Rattle.meaning.specs.Rules.Listing.{subtrees, listed_nodes, listed_pool}
use Rattle.meaning.specs.Rules.Folding.{lut}
use Rattle.meaning.specs.Claims.Drawn.{Said, Line, ◌is◌, false, dc, v0, v1, program, nor, mux, and, xor, inv, bus, reg, arg, cycle, refused, words, done, Agree, numbered}
use Rattle.meaning.specs.Rules.Evaluable as shape

-- numbers 3 to 8 of a term's list
unfoldable pub sounding : Tree → Said
sounding t = numbered (sound (listed_nodes t) (listed_pool t))

abbrev pub bus1 : Tree → Tree
bus1 t = bus (t ∷ [])

unfoldable pub soundness : List Line
soundness =
    -- a Program only first in a Lut or below an Arg, a misplaced one its parent's fault, at the root its own
    (sounding (program 0) is refused 8 0)
    ∷ (sounding (lut 2 (v0 ∷ [])) is done)
    ∷ (sounding (lut 2 (program 2 ∷ [])) is refused 8 1)
    ∷ (sounding (inv (program 0)) is refused 8 1)
    ∷ (sounding (cycle (program 0)) is refused 8 1)
    ∷ (sounding (mux (program 0) v0 v0) is refused 8 2)
    ∷ (sounding (mux v0 (program 0) (program 0)) is refused 8 2)
    ∷ (sounding (reg 11 (program 0)) is refused 8 1)
    ∷ (sounding (reg 14 (bus1 v0)) is done)
    ∷ (sounding (cycle (arg 0)) is done)
    -- bits where bits are asked; a bus of one isn't a bit
    ∷ (sounding (lut 2 (bus1 v0 ∷ [])) is refused 8 3)
    ∷ (sounding (mux (bus1 v0) v0 v0) is refused 8 2)
    ∷ (sounding (and (bus1 v0) v0) is refused 8 2)
    ∷ (sounding (xor v0 (bus1 v0)) is refused 8 2)
    ∷ (sounding (nor (bus1 v0) (bus (v0 ∷ v0 ∷ []))) is refused 8 3)
    ∷ (sounding (mux v0 v0 (bus1 v0)) is refused 8 2)
    -- shapes: what a Bus may hold
    ∷ (sounding (bus (false ∷ dc ∷ v0 ∷ lut 1 [] ∷ reg 12 v0 ∷ [])) is done)
    ∷ (sounding (cycle (bus1 (arg 0))) is done)
    -- one Program node, first in a Lut and below an Arg
    ∷ (sounding (cycle (bus (lut 0 [] ∷ arg 0 ∷ []))) is done)
    ∷ (sounding (bus1 (and (bus1 v0) (bus1 v0))) is refused 8 3)
    ∷ (sounding (bus1 (xor (bus1 v0) (bus1 v0))) is refused 8 3)
    ∷ (sounding (bus1 (nor (bus1 v0) (bus1 v0))) is refused 8 3)
    ∷ (sounding (bus1 (mux v0 (bus1 v0) (bus1 v0))) is refused 8 3)
    ∷ (sounding (bus1 (inv (bus1 v0))) is refused 8 3)
    ∷ (sounding (bus1 (cycle (bus1 v0))) is refused 8 3)
    ∷ (sounding (bus1 (mux v0 v1 v1)) is done)
    ∷ (sounding (inv (bus [])) is done)
    -- shapes as numbers, and the widths of their values
    ∷ (words (map shape.shape_code (shape.program ∷ shape.bit ∷ shape.bus 0 ∷ shape.bus 64 ∷ [])) is words (0 ∷ 1 ∷ 2 ∷ 66 ∷ []))
    ∷ (words (map shape.width_of (shape.program ∷ shape.bit ∷ shape.bus 0 ∷ shape.bus 64 ∷ [])) is words (0 ∷ 1 ∷ 0 ∷ 64 ∷ []))
    -- 7 is asked after 6 and before 8
    ∷ (numbered (sound [] []) is refused 7 0)
    -- an unreachable misfit doesn't count
    ∷ (numbered (sound (node_of 1 0 0 ++ node_of 8 0 1 ++ node_of 3 0 0) (0 ∷ [])) is done)
    ∷ []

pub soundness_cases : Agree soundness
unfolding soundness lowest sounding trees_of tree_of root_of datum_at children_at at_lowest layout_fault layout marks verify_fault verification shape_fault evaluability sound subtrees listed_nodes listed_pool
soundness_cases = refl
