-- Cases of Rules/Comparison: the verdict, and number 9.
use Rattle.std.specs.Prelude.{ℕ, zero, suc, ◌*◌, ◌-◌, refl, List, [], ◌∷◌}
use Rattle.meaning.specs.declared.Check.TheVariants.{Equiv, NotEquiv, Inconclusive}
use Rattle.meaning.specs.Rules.Limits.{work_per_node}
use Rattle.meaning.specs.Rules.Trees.{Tree, node_of, trees_of, tree_of, root_of, datum_at, children_at}
use Rattle.meaning.specs.Rules.Search.{lowest}
use Rattle.meaning.specs.Rules.Refusals.{at_lowest}
use Rattle.meaning.specs.Rules.Layout.{sizes, layout_fault, layout}
use Rattle.meaning.specs.Rules.Reach.{marks}
use Rattle.meaning.specs.Rules.Verification.{verify_fault, verification}
use Rattle.meaning.specs.Rules.Evaluable.{shape_fault, evaluability, sound}
use Rattle.meaning.specs.Rules.Assignments.{inputs}
use Rattle.meaning.specs.Rules.Comparison.{few_inputs, deciding_index, compare_trees}
use Rattle.meaning.specs.Rules.Listing.{subtrees, listed_nodes, listed_pool}
use Rattle.meaning.specs.Rules.Calls.{compare_refusal, comparison}
use Rattle.meaning.specs.Claims.Drawn.{Line, ◌is◌, false, true, dc, var, v0, v1, mux, and, xor, inv, bus, reg, verdict, refused, done, Agree, numbered, comparing}

-- the variables from, from + 1, …, n of them, and a bus of n variables
abbrev pub vars : ℕ → ℕ → List Tree
vars from zero = []
vars from (suc n) = var from ∷ vars (suc from) n

unfoldable pub comparisons : List Line
comparisons =
    -- equal trees: Equiv, DC or not
    (comparing dc dc is verdict Equiv 0)
    ∷ (comparing (reg 11 v0) (reg 11 v0) is verdict Equiv 0)
    -- bit j drives the j-th smallest variable below the FIRST root; the second list's others are undriven
    ∷ (comparing (and (var 7) (var 3)) (var 7) is verdict NotEquiv 2)
    ∷ (comparing (and (var 3) (var 7)) (var 3) is verdict NotEquiv 1)
    ∷ (comparing v0 (and v0 v1) is verdict Inconclusive 1)
    ∷ (comparing v0 (and v0 (inv v0)) is verdict NotEquiv 1)
    -- widths count: a one-member bus equals a bit
    ∷ (comparing v0 (bus (v0 ∷ [])) is verdict Equiv 0)
    ∷ (comparing v0 (bus (false ∷ v0 ∷ [])) is verdict NotEquiv 0)
    ∷ (comparing (bus []) (inv (bus [])) is verdict Equiv 0)
    ∷ (comparing (bus []) false is verdict NotEquiv 0)
    ∷ (comparing (bus []) (bus (false ∷ [])) is verdict NotEquiv 0)
    ∷ (comparing (bus (false ∷ [])) (bus []) is verdict NotEquiv 0)
    -- a failure decides, and is not searched past; equal failures are no equal values
    ∷ (comparing (mux v0 false dc) (mux v0 true dc) is verdict Inconclusive 0)
    ∷ (comparing (inv dc) dc is verdict Inconclusive 0)
    ∷ (comparing dc v0 is verdict Inconclusive 0)
    ∷ (comparing (xor v0 v1) (xor v1 v0) is verdict Equiv 0)
    -- list by list: an empty first list and a faulty second; the first list's sizes before the second's
    ∷ (numbered (compare_refusal [] [] (node_of 17 0 0) [] 100) is refused 7 0)
    ∷ (numbered (compare_refusal (node_of 3 0 0) [] (node_of 17 0 0) [] 100) is refused 3 0)
    ∷ (numbered (compare_refusal (node_of 17 0 0) [] (0 ∷ []) [] 100) is refused 1 0)
    ∷ (numbered (compare_refusal (node_of 3 0 0) [] (node_of 3 0 0) [] (work_per_node * 2)) is done)
    ∷ (numbered (compare_refusal (node_of 3 0 0) [] (node_of 3 0 0) [] (work_per_node * 2 - 1)) is refused 10 0)
    ∷ []

pub comparison_cases : Agree comparisons
unfolding comparisons lowest comparing trees_of tree_of root_of datum_at children_at at_lowest sizes layout_fault layout marks verify_fault verification shape_fault evaluability sound inputs compare_refusal comparison deciding_index compare_trees subtrees listed_nodes listed_pool
comparison_cases = refl

-- equal trees however many variables; 31 below the first root with unequal trees is 9
unfoldable pub input_counts : List Line
input_counts =
    (numbered (few_inputs (bus (vars 0 31)) (bus (vars 0 31))) is done)
    ∷ (numbered (few_inputs (bus (vars 0 31)) false) is refused 9 0)
    ∷ (numbered (few_inputs (bus (vars 0 30)) false) is done)
    ∷ (numbered (few_inputs false (bus (vars 0 31))) is done)
    ∷ []

pub input_cases : Agree input_counts
unfolding input_counts inputs
input_cases = refl
