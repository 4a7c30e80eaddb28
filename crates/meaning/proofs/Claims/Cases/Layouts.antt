-- Cases of Rules/Kinds, Rules/Layout: numbers 1 to 5 and 10.
use Rattle.std.specs.Prelude.{ℕ, suc, ◌+◌, ◌*◌, ◌-◌, refl, List, [], ◌∷◌, ◌++◌, replicate}
use Rattle.meaning.specs.Rules.Limits.{words_per_node, most_nodes, most_pool, work_per_node, work_per_pool, variable_count}
use Rattle.meaning.specs.Rules.Trees.{node_of, trees_of, tree_of, datum_at, children_at}
use Rattle.meaning.specs.Rules.Search.{lowest}
use Rattle.meaning.specs.Rules.Refusals.{is_done, at_lowest}
use Rattle.meaning.specs.Rules.Layout.{sizes, layout_fault, layout}
use Rattle.meaning.specs.Rules.Reach.{marks}
use Rattle.meaning.specs.Rules.Verification.{verify_fault, verification}
use Rattle.meaning.specs.Rules.Assignments.{select}
use Rattle.meaning.specs.Rules.Listing.{subtrees, listed_nodes, listed_pool}
use Rattle.meaning.specs.Rules.Calls.{verify_refusal}
use Rattle.meaning.specs.Claims.Drawn.{Said, Line, ◌is◌, v0, v1, and, refused, words, done, Agree, numbered, half}

-- a list of v0 and one node more, over a pool of eight zeros
unfoldable pub laying : ℕ → ℕ → ℕ → Said
laying kind first count = numbered (layout (node_of 3 0 0 ++ node_of kind first count) (replicate 8 0))

-- of 0 to 5, the numbers of children that a node of this kind may have
unfoldable pub counts : ℕ → Said
counts kind = words (select (λ n. is_done (layout (node_of 3 0 0 ++ node_of kind 0 n) (replicate 8 0))) 6)

-- a Bus of n members over a pool of 65
unfoldable pub laying_bus : ℕ → Said
laying_bus n = numbered (layout (node_of 3 0 0 ++ node_of 10 0 n) (replicate 65 0))

unfoldable pub sizing : ℕ → ℕ → Said
sizing n p = numbered (sizes (replicate n 0) (replicate p 0))

-- verify a list of one And over two variables, lent `work` words
unfoldable pub roomed : ℕ → Said
roomed work = numbered (verify_refusal (listed_nodes (and v0 v1)) (listed_pool (and v0 v1)) work)

unfoldable pub layouts : List Line
layouts =
    (counts 0 is words (0 ∷ []))
    ∷ (counts 1 is words (0 ∷ 1 ∷ 2 ∷ 3 ∷ 4 ∷ 5 ∷ []))
    ∷ (counts 2 is words (0 ∷ []))
    ∷ (counts 3 is words (0 ∷ []))
    ∷ (counts 4 is words (2 ∷ []))
    ∷ (counts 5 is words (3 ∷ []))
    ∷ (counts 6 is words (2 ∷ []))
    ∷ (counts 7 is words (2 ∷ []))
    ∷ (counts 8 is words (1 ∷ []))
    ∷ (counts 9 is words (0 ∷ 1 ∷ 2 ∷ 3 ∷ 4 ∷ 5 ∷ []))
    ∷ (counts 10 is words (0 ∷ 1 ∷ 2 ∷ 3 ∷ 4 ∷ 5 ∷ []))
    ∷ (counts 11 is words (4 ∷ []))
    ∷ (counts 12 is words (4 ∷ []))
    ∷ (counts 13 is words (4 ∷ []))
    ∷ (counts 14 is words (4 ∷ []))
    ∷ (counts 15 is words (1 ∷ []))
    ∷ (counts 16 is words (1 ∷ []))
    ∷ (laying 17 0 0 is refused 3 1)
    ∷ (laying_bus 64 is done)
    ∷ (laying_bus 65 is refused 4 1)
    -- Const 0 or 1; Program any; DC both 0; Var 0 to 255
    ∷ (laying 0 1 0 is done)
    ∷ (laying 0 2 0 is refused 4 1)
    ∷ (laying 1 half half is done)
    ∷ (laying 2 1 0 is refused 4 1)
    ∷ (laying 3 (variable_count - 1) 0 is done)
    ∷ (laying 3 variable_count 0 is refused 4 1)
    -- first + count at the pool's length, above it, and where 32 bits would wrap
    ∷ (laying 9 6 2 is done)
    ∷ (laying 9 7 2 is refused 4 1)
    ∷ (laying 10 9 0 is refused 4 1)
    ∷ (laying 9 half 1 is refused 4 1)
    -- a child that is its own node; 4 before 5 where a node has both; the lowest faulty node
    ∷ (numbered (layout (node_of 8 0 1) (0 ∷ [])) is refused 5 0)
    ∷ (numbered (layout (node_of 6 0 1) (0 ∷ [])) is refused 4 0)
    ∷ (numbered (layout (node_of 8 0 1 ++ node_of 17 0 0) (0 ∷ [])) is refused 5 0)
    -- 1, 2, 10, and their order
    ∷ (sizing (words_per_node * most_nodes) most_pool is done)
    ∷ (sizing (words_per_node * suc most_nodes) 0 is refused 2 0)
    ∷ (sizing 0 (suc most_pool) is refused 2 0)
    ∷ (sizing (suc words_per_node) (suc most_pool) is refused 1 0)
    ∷ (roomed (work_per_node * 3 + work_per_pool * 2) is done)
    ∷ (roomed (work_per_node * 3 + work_per_pool * 2 - 1) is refused 10 0)
    ∷ (numbered (verify_refusal (node_of 17 0 0) [] 0) is refused 10 0)
    ∷ (numbered (verify_refusal (node_of 17 0 0) (replicate (suc most_pool) 0) 0) is refused 2 0)
    ∷ []

pub layout_cases : Agree layouts
unfolding layouts laying counts laying_bus sizing roomed lowest at_lowest sizes layout_fault layout children_at datum_at trees_of tree_of marks verify_fault verification verify_refusal subtrees listed_nodes listed_pool
layout_cases = refl
