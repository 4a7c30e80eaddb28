-- Cases of Rules/Calls: whole outcomes, lent slices included.
use Rattle.std.specs.Prelude.{ℕ, suc, ◌+◌, ◌*◌, ◌-◌, ◌≡◌, refl, List, [], ◌∷◌, ◌++◌, map, cond, not, replicate, length, eqb}
use Rattle.meaning.specs.Rules.Lent.{cleared}
use Rattle.meaning.specs.declared.Answer.{Answer}
use Rattle.meaning.specs.Rules.Limits.{most_pool, work_per_node, work_per_pool, words_per_node}
use Rattle.meaning.specs.Rules.Trees.{Tree, node, node_of, trees_of, tree_of, root_of, datum_at, children_at}
use Rattle.meaning.specs.Rules.Search.{lowest}
use Rattle.meaning.specs.Rules.Separation.{judgement_number, variables_below, in_bounds, crossing_index, separate_tree}
use Rattle.meaning.specs.Rules.Refusals.{at_lowest, every, work_after}
use Rattle.meaning.specs.Rules.Layout.{sizes, layout_fault, layout}
use Rattle.meaning.specs.Rules.Reach.{marks}
use Rattle.meaning.specs.Rules.Verification.{verify_fault, verification}
use Rattle.meaning.specs.Rules.Evaluable.{shape_fault, evaluability, sound}
use Rattle.meaning.specs.Rules.Assignments.{is_assignment, inputs}
use Rattle.meaning.specs.Rules.Answers.{state_of, answer_width, value_of}
use Rattle.meaning.specs.Rules.Pairs.{state_at, value_at, pairs}
use Rattle.meaning.specs.Rules.Comparison.{deciding_index, compare_trees}
use Rattle.meaning.specs.Rules.Verdict.{check_number}
use Rattle.meaning.specs.Rules.Tables.{cofactor, ignores}
use Rattle.meaning.specs.Rules.Canonical.{gate_fault, gates, canonical_nodes, canonical_pool}
use Rattle.meaning.specs.Rules.Folding.{fold}
use Rattle.meaning.specs.Rules.Listing.{subtrees, listed_nodes, listed_pool}
use Rattle.meaning.specs.Rules.Calls.{verify_refusal, verify, evaluate_refusal, evaluation, evaluate, compare_refusal, comparison, compare, separate_refusal, separation, canonical_refusal, canonical, canonicalise, separate}
use Rattle.meaning.specs.Claims.Drawn.{true, dc, v0, v1, program, mux, and, inv, verdict, judgement}

-- work space of ones: three words more than a list of n nodes and p pool entries asks
abbrev pub work_of : ℕ → ℕ → List ℕ
work_of n p = replicate (work_per_node * n + work_per_pool * p + 3) 1

-- what work space holds after the call, all of what was lent: nothing but zeros, or nothing but the ones that were lent
pub data Left : Type 0 where
  zeros untouched neither : Left

abbrev pub left : List ℕ → List ℕ → Left
left lent work =
    cond (not (eqb (length lent) (length work))) neither
    (cond (every (eqb 0) work) zeros (cond (every (eqb 1) work) untouched neither))

-- the answer's words, what work space holds, and the outputs
pub record Outcome : Type 0 where
  pub answer : List ℕ
  pub scratch : Left
  pub outputs : List (List ℕ)

abbrev pub outcome : List ℕ → Left → List (List ℕ) → Outcome
outcome a s o = record { answer = a; scratch = s; outputs = o }

abbrev pub told : Answer → List ℕ
told a = state_of a ∷ answer_width a ∷ value_of a ∷ []

unfoldable pub verify_all : List ℕ → List ℕ → List ℕ → Outcome
verify_all ns ps work =
    let o = verify ns ps work in
    outcome (o.answer.number ∷ o.answer.node ∷ []) (left work o.work) []

unfoldable pub evaluate_all : List ℕ → List ℕ → List ℕ → List ℕ → List ℕ → Outcome
evaluate_all ns ps bytes work out =
    let o = evaluate ns ps bytes work out in
    let a = o.answer in
    outcome (a.refusal.number ∷ a.refusal.node ∷ told a.answer) (left work o.work) (o.out ∷ [])

unfoldable pub compare_all : Tree → Tree → List ℕ → Outcome
compare_all t u work =
    let o = compare (listed_nodes t) (listed_pool t) (listed_nodes u) (listed_pool u) work in
    let a = o.answer in
    outcome
    (a.refusal.number ∷ a.refusal.node ∷ check_number a.verdict ∷ a.index ∷ (told a.first ++ told a.second))
    (left work o.work) []

unfoldable pub separate_all : Tree → ℕ → ℕ → List ℕ → Outcome
separate_all t n run work =
    let o = separate (listed_nodes t) (listed_pool t) n run work in
    let a = o.answer in
    outcome
    (a.refusal.number ∷ a.refusal.node ∷ judgement_number a.judgement ∷ a.index ∷ (told a.run ++ told a.cleared))
    (left work o.work) []

unfoldable pub canonicalise_all : Tree → List ℕ → List ℕ → List ℕ → Outcome
canonicalise_all t work out_nodes out_pool =
    let o = canonicalise (listed_nodes t) (listed_pool t) work out_nodes out_pool in
    let a = o.answer in
    outcome (a.refusal.number ∷ a.refusal.node ∷ a.nodes ∷ a.pool ∷ []) (left work o.work) (o.out_nodes ∷ o.out_pool ∷ [])

pub record Whole : Type 0 where
  pub computed : Outcome
  pub document : Outcome

infix 40 ◌leaves◌
abbrev pub ◌leaves◌ : Outcome → Outcome → Whole
a leaves b = record { computed = a; document = b }

-- an unreachable variable, a Program, v0, and the root Lut(2, v0)
abbrev pub some_nodes : List ℕ
some_nodes = node_of 3 9 0 ++ node_of 1 2 0 ++ node_of 3 0 0 ++ node_of 9 0 2

-- the node words of the canonical list of Not(v0): a Program, v0, a Lut
abbrev pub inverter_words : ℕ
inverter_words = words_per_node * 3

unfoldable pub outcomes : List Whole
outcomes =
    -- work space untouched after 1, 2 and 10, and else all zeros, the whole of it
    (verify_all (node_of 3 0 0) [] (work_of 1 0) leaves outcome (0 ∷ 0 ∷ []) zeros [])
    ∷ (verify_all (node_of 17 0 0) [] (work_of 1 0) leaves outcome (3 ∷ 0 ∷ []) zeros [])
    ∷ (verify_all (0 ∷ []) [] (work_of 1 0) leaves outcome (1 ∷ 0 ∷ []) untouched [])
    ∷ (verify_all [] (replicate (suc most_pool) 0) (work_of 1 0) leaves outcome (2 ∷ 0 ∷ []) untouched [])
    ∷ (verify_all (node_of 3 0 0) [] (1 ∷ []) leaves outcome (10 ∷ 0 ∷ []) untouched [])
    -- the root's answer and the pairs: 5 and 0 for an unreachable node and for a Program; past the answer unchanged
    ∷ (evaluate_all some_nodes (1 ∷ 2 ∷ []) (1 ∷ []) (work_of 4 2) (replicate 9 7) leaves
    outcome (0 ∷ 0 ∷ 0 ∷ 1 ∷ 1 ∷ []) zeros ((5 ∷ 0 ∷ 5 ∷ 0 ∷ 0 ∷ 1 ∷ 0 ∷ 1 ∷ 7 ∷ []) ∷ []))
    ∷ (evaluate_all some_nodes (1 ∷ 2 ∷ []) [] (work_of 4 2) (replicate 8 7) leaves
    outcome (0 ∷ 0 ∷ 1 ∷ 0 ∷ 0 ∷ []) zeros ((5 ∷ 0 ∷ 5 ∷ 0 ∷ 1 ∷ 0 ∷ 1 ∷ 0 ∷ []) ∷ []))
    -- refusals leave the output untouched; 19 comes last
    ∷ (evaluate_all some_nodes (1 ∷ 2 ∷ []) (1 ∷ []) (work_of 4 2) (replicate 7 7) leaves
    outcome (19 ∷ 0 ∷ 0 ∷ 0 ∷ 0 ∷ []) zeros (replicate 7 7 ∷ []))
    ∷ (evaluate_all some_nodes (1 ∷ 2 ∷ []) (3 ∷ []) (work_of 4 2) [] leaves
    outcome (12 ∷ 0 ∷ 0 ∷ 0 ∷ 0 ∷ []) zeros ([] ∷ []))
    ∷ (evaluate_all some_nodes (1 ∷ 3 ∷ []) (1 ∷ []) (work_of 4 2) (replicate 9 7) leaves
    outcome (5 ∷ 3 ∷ 0 ∷ 0 ∷ 0 ∷ []) zeros (replicate 9 7 ∷ []))
    ∷ (evaluate_all some_nodes (1 ∷ 2 ∷ []) (1 ∷ []) (1 ∷ []) (replicate 9 7) leaves
    outcome (10 ∷ 0 ∷ 0 ∷ 0 ∷ 0 ∷ []) untouched (replicate 9 7 ∷ []))
    -- verdict, index and both answers; for Equiv, and in a refusal, the rest is zero
    ∷ (compare_all (and v0 v1) v0 (work_of 4 2) leaves
    outcome (0 ∷ 0 ∷ 1 ∷ 1 ∷ 0 ∷ 1 ∷ 0 ∷ 0 ∷ 1 ∷ 1 ∷ []) zeros [])
    ∷ (compare_all (mux v0 dc true) true (work_of 5 3) leaves
    outcome (0 ∷ 0 ∷ 2 ∷ 1 ∷ 2 ∷ 0 ∷ 0 ∷ 0 ∷ 1 ∷ 1 ∷ []) zeros [])
    ∷ (compare_all v0 v0 (work_of 2 0) leaves outcome (0 ∷ 0 ∷ 0 ∷ 0 ∷ 0 ∷ 0 ∷ 0 ∷ 0 ∷ 0 ∷ 0 ∷ []) zeros [])
    ∷ (compare_all v0 (program 0) (work_of 2 0) leaves outcome (8 ∷ 0 ∷ 2 ∷ 0 ∷ 0 ∷ 0 ∷ 0 ∷ 0 ∷ 0 ∷ 0 ∷ []) zeros [])
    ∷ (compare_all v0 v0 (1 ∷ []) leaves outcome (10 ∷ 0 ∷ 2 ∷ 0 ∷ 0 ∷ 0 ∷ 0 ∷ 0 ∷ 0 ∷ 0 ∷ []) untouched [])
    -- judgement, index and both answers; for Separate, and in a refusal, the rest is zero
    ∷ (separate_all (mux v1 dc v0) 2 2 (work_of 4 3) leaves
    outcome (0 ∷ 0 ∷ 1 ∷ 2 ∷ 2 ∷ 0 ∷ 0 ∷ 0 ∷ 1 ∷ 0 ∷ []) zeros [])
    ∷ (separate_all v0 1 0 (work_of 1 0) leaves outcome (0 ∷ 0 ∷ 0 ∷ 0 ∷ 0 ∷ 0 ∷ 0 ∷ 0 ∷ 0 ∷ 0 ∷ []) zeros [])
    ∷ (separate_all v0 0 0 (work_of 1 0) leaves outcome (11 ∷ 0 ∷ 1 ∷ 0 ∷ 0 ∷ 0 ∷ 0 ∷ 0 ∷ 0 ∷ 0 ∷ []) zeros [])
    ∷ (separate_all v0 1 0 (1 ∷ []) leaves outcome (10 ∷ 0 ∷ 1 ∷ 0 ∷ 0 ∷ 0 ∷ 0 ∷ 0 ∷ 0 ∷ 0 ∷ []) untouched [])
    -- the words that the answer takes, and the two outputs
    ∷ (canonicalise_all (inv v0) (work_of 2 1) (replicate (inverter_words + 1) 7) (replicate 3 7) leaves
    outcome (0 ∷ 0 ∷ inverter_words ∷ 2 ∷ []) zeros ((node_of 1 1 0 ++ node_of 3 0 0 ++ node_of 9 0 2 ++ (7 ∷ [])) ∷ (0 ∷ 1 ∷ 7 ∷ []) ∷ []))
    ∷ (canonicalise_all (inv v0) (work_of 2 1) (replicate (inverter_words - 1) 7) (replicate 3 7) leaves
    outcome (19 ∷ 0 ∷ 0 ∷ 0 ∷ []) zeros (replicate (inverter_words - 1) 7 ∷ replicate 3 7 ∷ []))
    ∷ (canonicalise_all (inv v0) (1 ∷ []) (replicate inverter_words 7) (replicate 2 7) leaves
    outcome (10 ∷ 0 ∷ 0 ∷ 0 ∷ []) untouched (replicate inverter_words 7 ∷ replicate 2 7 ∷ []))
    ∷ []

pub outcome_cases : map (λ (w : Whole). w.computed) outcomes ≡ map (λ (w : Whole). w.document) outcomes
unfolding outcomes verify_all evaluate_all compare_all separate_all canonicalise_all lowest trees_of tree_of root_of datum_at children_at cofactor ignores at_lowest cleared work_after sizes layout_fault layout marks verify_fault verification shape_fault evaluability sound is_assignment state_at value_at pairs inputs variables_below in_bounds verify_refusal verify evaluate_refusal evaluation evaluate compare_refusal comparison compare separate_refusal separation separate canonical_refusal canonical canonicalise deciding_index compare_trees crossing_index separate_tree gate_fault gates fold subtrees listed_nodes listed_pool canonical_nodes canonical_pool
outcome_cases = refl
