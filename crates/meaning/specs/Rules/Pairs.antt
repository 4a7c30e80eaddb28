-- The evaluator's pairs (document 01, "Answers of a node": "Node by node, the evaluator writes state and value").
use Rattle.std.specs.Prelude.{ℕ, zero, suc, ◌*◌, List, [], ◌∷◌, ◌++◌, cond, not, ◌&&◌, eqb}
use Rattle.meaning.specs.Rules.Kinds.{program_word}
use Rattle.meaning.specs.Rules.Trees.{node_count, kind_at, tree_of}
use Rattle.meaning.specs.Rules.Answers.{Assignment, answer, state_of, value_of}
use Rattle.meaning.specs.Rules.Assignments.{given}
use Rattle.meaning.specs.Rules.Reach.{reachable}

-- "5 and 0 for Programs and unreachable nodes"
abbrev pub no_answer : ℕ
no_answer = 5

-- "0 and the value (its width is the node's shape), 1 to 4 for a failure and 0", or 5 and 0
unfoldable pub state_at : List ℕ → List ℕ → Assignment → ℕ → ℕ
state_at ns ps α i =
    cond (reachable ns ps i && not (eqb (kind_at ns i) program_word)) (state_of (answer α (tree_of ns ps i))) no_answer

unfoldable pub value_at : List ℕ → List ℕ → Assignment → ℕ → ℕ
value_at ns ps α i =
    cond (reachable ns ps i && not (eqb (kind_at ns i) program_word)) (value_of (answer α (tree_of ns ps i))) 0

-- the pairs of the first n nodes
abbrev pub pairs_to : List ℕ → List ℕ → Assignment → ℕ → List ℕ
pairs_to ns ps α zero = []
pairs_to ns ps α (suc i) = pairs_to ns ps α i ++ (state_at ns ps α i ∷ value_at ns ps α i ∷ [])

-- the words that the pairs of a list take
abbrev pub pair_words : List ℕ → ℕ
pair_words ns = 2 * node_count ns

-- all pairs, under an assignment lent as bytes
unfoldable pub pairs : List ℕ → List ℕ → List ℕ → List ℕ
pairs ns ps bytes = pairs_to ns ps (given bytes) (node_count ns)
