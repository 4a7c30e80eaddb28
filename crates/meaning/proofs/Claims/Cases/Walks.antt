-- Cases of Rules/PathByPath: 000's verifier, yes or no.
use Rattle.std.specs.Prelude.{refl, List, [], ◌∷◌, ◌++◌, true, false}
use Rattle.meaning.specs.Rules.Trees.{Tree, node_of, trees_of, tree_of, root_of, datum_at, children_at}
use Rattle.meaning.specs.Rules.Search.{lowest}
use Rattle.meaning.specs.Rules.PathByPath.{verify_expr}
use Rattle.meaning.specs.Rules.Listing.{subtrees, listed_nodes, listed_pool}
use Rattle.meaning.specs.Claims.Drawn.{Line, ◌is◌, Said, test, v0, inv, and, bus, arg, cycle, Agree}

-- the verifier on a term's list, in which a subtree drawn twice is one node
unfoldable pub walking : Tree → Said
walking t = test (verify_expr (listed_nodes t) (listed_pool t))

unfoldable pub walks : List Line
walks =
    -- "Arg index 0 at the root fails, under a Cycle verifies, reached both ways fails": one node, tested on each path
    (walking (arg 0) is test false)
    ∷ (walking (cycle (arg 0)) is test true)
    ∷ (walking (and (cycle (arg 0)) (arg 0)) is test false)
    ∷ (walking (and (arg 0) (cycle (arg 0))) is test false)
    ∷ (walking (and (cycle (arg 0)) (cycle (inv (arg 0)))) is test true)
    -- a path's Cycle nodes, all of them and no others
    ∷ (walking (cycle (arg 1)) is test false)
    ∷ (walking (cycle (cycle (arg 1))) is test true)
    ∷ (walking (and (cycle (cycle (arg 1))) (cycle (arg 1))) is test false)
    -- every child, and below it
    ∷ (walking (bus (v0 ∷ v0 ∷ arg 0 ∷ [])) is test false)
    ∷ (walking (and v0 (inv (inv (arg 0)))) is test false)
    ∷ (walking (and v0 (inv v0)) is test true)
    -- an unreachable fault doesn't count; an empty list verifies
    ∷ (test (verify_expr (node_of 9 0 0 ++ node_of 3 0 0) []) is test true)
    ∷ (test (verify_expr (node_of 3 0 0 ++ node_of 9 0 0) []) is test false)
    ∷ (test (verify_expr [] []) is test true)
    ∷ []

pub walk_cases : Agree walks
unfolding walks walking lowest trees_of tree_of root_of datum_at children_at verify_expr subtrees listed_nodes listed_pool
walk_cases = refl
