-- Cases of Rules/Separation: the judgement, and number 11.
use Rattle.std.specs.Prelude.{refl, List, [], ◌∷◌, ◌++◌}
use Rattle.meaning.specs.declared.Judgement.TheVariants.{Separate, Crossing}
use Rattle.meaning.specs.Rules.Trees.{node_of, trees_of, tree_of, root_of, datum_at, children_at}
use Rattle.meaning.specs.Rules.Search.{lowest}
use Rattle.meaning.specs.Rules.Refusals.{at_lowest}
use Rattle.meaning.specs.Rules.Layout.{sizes, layout_fault, layout}
use Rattle.meaning.specs.Rules.Reach.{marks}
use Rattle.meaning.specs.Rules.Verification.{verify_fault, verification}
use Rattle.meaning.specs.Rules.Evaluable.{shape_fault, evaluability, sound}
use Rattle.meaning.specs.Rules.Separation.{variables_below, in_bounds, crossing_index, separate_tree}
use Rattle.meaning.specs.Rules.Listing.{subtrees, listed_nodes, listed_pool}
use Rattle.meaning.specs.Rules.Calls.{separate_refusal, separation}
use Rattle.meaning.specs.Claims.Drawn.{Line, ◌is◌, false, dc, v0, v1, v2, program, mux, and, xor, bus, reg, judgement, refused, done, Agree, numbered, separating}

unfoldable pub separations : List Line
separations =
    -- the lowest assignment that differs from itself with its run bits cleared; a named failure is an answer
    (separating (xor v0 v1) 2 2 is judgement Crossing 2)
    ∷ (separating (xor v0 v1) 2 1 is judgement Crossing 1)
    ∷ (separating (xor v0 v1) 2 0 is judgement Separate 0)
    ∷ (separating (and v0 (and v1 v2)) 3 6 is judgement Crossing 7)
    ∷ (separating (mux v1 dc (reg 11 v0)) 2 2 is judgement Crossing 2)
    ∷ (separating (mux v1 dc dc) 2 2 is judgement Separate 0)
    ∷ (separating (mux v1 (bus (v0 ∷ [])) (bus (v0 ∷ []))) 2 2 is judgement Separate 0)
    -- 11: n above 30; a variable at n or above, reachable or not; a mark at bit n or above
    ∷ (separating v0 1 1 is judgement Crossing 1)
    ∷ (numbered (separate_refusal (node_of 3 0 0) [] 30 0 100) is done)
    ∷ (separating v0 31 0 is refused 11 0)
    ∷ (separating v0 0 0 is refused 11 0)
    ∷ (separating false 0 0 is judgement Separate 0)
    ∷ (separating v1 1 0 is refused 11 0)
    ∷ (separating v0 1 2 is refused 11 0)
    ∷ (separating (program 0) 31 0 is refused 8 0)
    ∷ (numbered (separate_refusal (node_of 3 5 0 ++ node_of 3 0 0) [] 5 0 100) is refused 11 0)
    ∷ (numbered (separate_refusal (node_of 3 5 0 ++ node_of 3 0 0) [] 6 0 100) is done)
    ∷ []

pub separation_cases : Agree separations
unfolding separations lowest separating trees_of tree_of root_of datum_at children_at at_lowest sizes layout_fault layout marks verify_fault verification shape_fault evaluability sound variables_below in_bounds separate_refusal separation crossing_index separate_tree subtrees listed_nodes listed_pool
separation_cases = refl
