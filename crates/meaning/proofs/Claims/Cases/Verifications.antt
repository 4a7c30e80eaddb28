-- Cases of Rules/Reach, Rules/Verification: number 6.
use Rattle.std.specs.Prelude.{ℕ, ◌+◌, refl, List, [], ◌∷◌, ◌++◌, replicate}
use Rattle.meaning.specs.Rules.Trees.{Tree, node, none, ◌◂◌, node_of, trees_of, tree_of, root_of, datum_at, children_at}
use Rattle.meaning.specs.Rules.Search.{lowest}
use Rattle.meaning.specs.Rules.Refusals.{at_lowest}
use Rattle.meaning.specs.Rules.Layout.{sizes, layout_fault, layout}
use Rattle.meaning.specs.Rules.Reach.{marks}
use Rattle.meaning.specs.Rules.Verification.{verify_fault, verification}
use Rattle.meaning.specs.Rules.Listing.{subtrees, listed_nodes, listed_pool}
use Rattle.meaning.specs.Rules.Folding.{lut}
use Rattle.meaning.specs.Rules.Calls.{verify_refusal}
use Rattle.meaning.specs.Claims.Drawn.{Line, ◌is◌, v0, program, nor, mux, and, xor, inv, bus, reg, arg, cycle, refused, done, Agree, numbered, all_ones, half, verifying}

-- Lut of program p over n times v0
abbrev pub lut_over : ℕ → ℕ → Tree
lut_over p n = lut p (replicate n v0)

unfoldable pub verifications : List Line
verifications =
    (verifying (lut_over 1 0) is done)
    ∷ (verifying (lut_over 2 0) is refused 6 1)
    ∷ (verifying (lut_over half 5) is done)
    ∷ (verifying (lut_over (half + 1) 5) is refused 6 2)
    ∷ (verifying (lut_over all_ones 6) is done)
    ∷ (verifying (lut_over 0 7) is refused 6 2)
    ∷ (verifying (node 9 0 none) is refused 6 0)
    ∷ (verifying (node 9 0 (v0 ◂ none)) is refused 6 1)
    -- Arg: at the root, under a Cycle, reached both ways; deeper; a child that is no Program
    ∷ (verifying (arg 0) is refused 6 1)
    ∷ (verifying (cycle (arg 0)) is done)
    ∷ (verifying (and (cycle (arg 0)) (arg 0)) is refused 6 1)
    ∷ (verifying (and (arg 0) (cycle (arg 0))) is refused 6 1)
    ∷ (verifying (cycle (arg 1)) is refused 6 1)
    ∷ (verifying (cycle (cycle (arg 1))) is done)
    ∷ (verifying (and (cycle (cycle (arg 1))) (cycle (arg 1))) is refused 6 1)
    ∷ (verifying (cycle (node 15 0 (v0 ◂ none))) is refused 6 1)
    -- a Program under a gate; a Bus holding a Program or a Bus; what verification lets pass
    ∷ (verifying (and v0 (program 0)) is refused 6 2)
    ∷ (verifying (xor (program 0) v0) is refused 6 2)
    ∷ (verifying (nor v0 (program 0)) is refused 6 2)
    ∷ (verifying (bus (program 0 ∷ [])) is refused 6 1)
    ∷ (verifying (bus (bus [] ∷ [])) is refused 6 1)
    ∷ (verifying (mux v0 (program 0) v0) is done)
    ∷ (verifying (inv (program 0)) is done)
    ∷ (verifying (reg 11 (program 0)) is done)
    ∷ (verifying (cycle (program 0)) is done)
    ∷ (verifying (program 0) is done)
    -- an empty list verifies; an unreachable fault doesn't count; 5 is asked of it all the same
    ∷ (numbered (verify_refusal [] [] 0) is done)
    ∷ (numbered (verify_refusal (node_of 9 0 0 ++ node_of 3 0 0) [] 100) is done)
    ∷ (numbered (verify_refusal (node_of 8 0 1 ++ node_of 3 0 0) (0 ∷ []) 100) is refused 5 0)
    ∷ []

pub verification_cases : Agree verifications
unfolding verifications lowest verifying trees_of tree_of root_of datum_at children_at at_lowest sizes layout_fault layout marks verify_fault verification verify_refusal subtrees listed_nodes listed_pool
verification_cases = refl
