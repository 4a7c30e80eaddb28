-- The examples that document 01 marks * ("Panel bench examples"), in its order, as one table under one claim.
use Rattle.std.specs.Prelude.{ℕ, refl, List, [], ◌∷◌, ◌++◌}
use Rattle.meaning.specs.declared.Failure.TheVariants.{DontCare}
use Rattle.meaning.specs.declared.Answer.TheVariants.{Value, Failed}
use Rattle.meaning.specs.declared.Check.TheVariants.{Equiv, NotEquiv, Inconclusive}
use Rattle.meaning.specs.declared.Judgement.TheVariants.{Separate, Crossing}
use Rattle.meaning.specs.Rules.Trees.{trees_of, tree_of, root_of, datum_at, children_at, node_of}
use Rattle.meaning.specs.Rules.Search.{lowest}
use Rattle.meaning.specs.Rules.Tables.{cofactor, ignores, remove_lsb_var, cofactors_in_msb, swap_pos}
use Rattle.meaning.specs.Rules.Refusals.{at_lowest}
use Rattle.meaning.specs.Rules.Layout.{sizes, layout_fault, layout}
use Rattle.meaning.specs.Rules.Reach.{marks}
use Rattle.meaning.specs.Rules.Verification.{verify_fault, verification}
use Rattle.meaning.specs.Rules.Evaluable.{shape_fault, evaluability, sound}
use Rattle.meaning.specs.Rules.Assignments.{is_assignment, inputs}
use Rattle.meaning.specs.Rules.Comparison.{deciding_index, compare_trees}
use Rattle.meaning.specs.Rules.Separation.{variables_below, in_bounds, crossing_index, separate_tree}
use Rattle.meaning.specs.Rules.Canonical.{gate_fault, gates, canonical_nodes, canonical_pool}
use Rattle.meaning.specs.Rules.Folding.{fold}
use Rattle.meaning.specs.Rules.Listing.{subtrees, listed_nodes, listed_pool}
use Rattle.meaning.specs.Rules.Calls.{evaluate_refusal, compare_refusal, comparison, separate_refusal, separation, canonical_refusal}
use Rattle.meaning.specs.Claims.Drawn.{Line, ◌is◌, false, true, dc, var, v0, v1, nor, mux, and, xor, bus, answers, verdict, judgement, list, table, gives, pair, smaller, none_left, evaluating, comparing, separating, canonicalising, Agree}

-- v1 is the run signal: bit 1 of the marks
abbrev run_v1 : ℕ
run_v1 = 2

unfoldable pub bench : List Line
bench =
    (canonicalising (and v0 v1) is list (node_of 1 8 0 ++ node_of 3 0 0 ++ node_of 3 1 0 ++ node_of 9 0 3) (0 ∷ 1 ∷ 2 ∷ []))
    ∷ (canonicalising (mux true v0 v1) is list (node_of 3 0 0) [])
    ∷ (evaluating (bus (v0 ∷ v1 ∷ [])) (1 ∷ 0 ∷ []) is answers (Value 2 2))
    ∷ (evaluating (and false dc) [] is answers (Value 1 0))
    ∷ (evaluating (nor dc true) [] is answers (Value 1 0))
    ∷ (evaluating (and true dc) [] is answers (Failed DontCare))
    ∷ (comparing v0 dc is verdict Inconclusive 0)
    ∷ (comparing (mux v0 dc true) true is verdict Inconclusive 1)
    ∷ (comparing (mux v0 dc true) false is verdict NotEquiv 0)
    ∷ (comparing (and v0 v1) v0 is verdict NotEquiv 1)
    ∷ (comparing false (and false (var 5)) is verdict Equiv 0)
    ∷ (separating (and v0 v1) 2 run_v1 is judgement Crossing 3)
    ∷ (separating (mux v1 dc v0) 2 run_v1 is judgement Crossing 2)
    ∷ (separating (and v0 (xor v1 v1)) 2 run_v1 is judgement Separate 0)
    ∷ (table (swap_pos 202 3 0) is gives 172)
    ∷ (table (swap_pos 202 3 1) is gives 226)
    ∷ (table (cofactors_in_msb 202 3) is pair 12 10)
    ∷ (table (remove_lsb_var 12 2) is smaller 2)
    ∷ (table (remove_lsb_var 8 2) is none_left)
    ∷ (table (remove_lsb_var 195 3) is smaller 9)
    ∷ []

-- every line computes to what the document says
pub as_the_document_says : Agree bench
unfolding bench lowest evaluating comparing separating canonicalising trees_of tree_of root_of datum_at children_at cofactor ignores remove_lsb_var cofactors_in_msb swap_pos at_lowest sizes layout_fault layout marks verify_fault verification shape_fault evaluability sound is_assignment variables_below in_bounds inputs evaluate_refusal compare_refusal comparison separate_refusal separation canonical_refusal deciding_index compare_trees crossing_index separate_tree gate_fault gates fold subtrees listed_nodes listed_pool canonical_nodes canonical_pool
as_the_document_says = refl
