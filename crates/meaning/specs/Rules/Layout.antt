-- Numbers 1 to 5 and 10 (document 01, "The node list", "Numbers a call answers with"): sizes, and the layout node by node.
use Rattle.std.specs.Prelude.{ℕ, ◌+◌, ◌*◌, ◌%◌, List, Bool, true, cond, not, ◌&&◌, length, ltb, leb, eqb}
use Rattle.meaning.specs.declared.Refusal.{Refusal}
use Rattle.meaning.specs.Rules.Limits.{words_per_node, most_nodes, most_pool, variable_count, work_per_node, work_per_pool}
use Rattle.meaning.specs.Rules.Numbers.{not_aligned, over_limit, unknown_kind, bad_layout, bad_child, little_work}
use Rattle.meaning.specs.Rules.Kinds.{kind_of, may_have, const_word, program_word, dont_care_word, variable_word, cycle_word}
use Rattle.meaning.specs.Rules.Trees.{node_count, kind_at, first_at, count_at, children_at}
use Rattle.meaning.specs.Rules.Refusals.{◌then◌, require, at_lowest, every}

-- ---- 1: "node words are not a multiple of three"; 2: "a list exceeds its limit"
abbrev pub aligned : List ℕ → Bool
aligned ns = eqb (length ns % words_per_node) 0

abbrev pub within_limits : List ℕ → List ℕ → Bool
within_limits ns ps = leb (node_count ns) most_nodes && leb (length ps) most_pool

unfoldable pub sizes : List ℕ → List ℕ → Refusal
sizes ns ps = require (aligned ns) not_aligned then require (within_limits ns ps) over_limit

-- ---- 10: "work space under 16 u64 words per node plus 2 per pool entry"
abbrev pub work_for : List ℕ → List ℕ → ℕ
work_for ns ps = work_per_node * node_count ns + work_per_pool * length ps

-- of `work` words lent, `asked` "summed over the lists brought"
abbrev pub room : ℕ → ℕ → Refusal
room asked work = require (leb asked work) little_work

-- ---- 4: "a field or child count breaks the layout, or for kinds 4 to 16 first + count is above the pool's length"

-- "Const: first is 0 or 1. Var: first is its number 0 to 255. Program: low half in first. DC: both 0"
abbrev pub first_fits : ℕ → ℕ → ℕ → ℕ → Bool
first_fits kind first count pool =
    cond (eqb kind const_word) (ltb first 2)
    (cond (eqb kind program_word) true
    (cond (eqb kind dont_care_word) (eqb first 0)
    (cond (eqb kind variable_word) (ltb first variable_count)
    (leb (first + count) pool))))

abbrev pub laid_out : List ℕ → List ℕ → ℕ → Bool
laid_out ns ps i =
    may_have (kind_of (kind_at ns i)) (count_at ns i)
    && first_fits (kind_at ns i) (first_at ns i) (count_at ns i) (length ps)

-- ---- 5: "a child is not numbered below its node"
abbrev pub children_below : List ℕ → List ℕ → ℕ → Bool
children_below ns ps i = every (λ c. ltb c i) (children_at ns ps i)

-- ---- "3, 4, 5 at the lowest faulty node (lowest number if it has two)"; 3: "a kind above 16"
unfoldable pub layout_fault : List ℕ → List ℕ → ℕ → ℕ
layout_fault ns ps i =
    cond (ltb cycle_word (kind_at ns i)) unknown_kind
    (cond (not (laid_out ns ps i)) bad_layout (cond (not (children_below ns ps i)) bad_child 0))

unfoldable pub layout : List ℕ → List ℕ → Refusal
layout ns ps = at_lowest (node_count ns) (layout_fault ns ps)
