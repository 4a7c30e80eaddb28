-- The canonical list: the list of the root's normal form (document 01, "Canonical list"; document 000,
-- `canonicalize_expr`).
use Rattle.std.specs.Prelude.{ℕ, List, cond, not, ◌&&◌}
use Rattle.meaning.specs.Rules.Folding.{nf}
use Rattle.meaning.specs.Rules.Listing.{listed_nodes, listed_pool}
use Rattle.meaning.specs.Rules.Numbers.{wide_gate}
use Rattle.meaning.specs.Rules.Kinds.{is_gate}
use Rattle.meaning.specs.Rules.Trees.{node_count, kind_at, tree_of, root_of}
use Rattle.meaning.specs.Rules.Refusals.{at_lowest}
use Rattle.meaning.specs.Rules.Reach.{reachable}
use Rattle.meaning.specs.Rules.Evaluable.{is_bit, shape}
use Rattle.meaning.specs.declared.Refusal.{Refusal}

-- ---- 14: "canonicaliser: a reachable gate (kinds 4 to 8) that isn't a bit"
unfoldable pub gate_fault : List ℕ → List ℕ → ℕ → ℕ
gate_fault ns ps i =
    cond (reachable ns ps i && is_gate (kind_at ns i) && not (is_bit (shape (tree_of ns ps i)))) wide_gate 0

unfoldable pub gates : List ℕ → List ℕ → Refusal
gates ns ps = at_lowest (node_count ns) (gate_fault ns ps)

-- ---- the list
unfoldable pub canonical_nodes : List ℕ → List ℕ → List ℕ
canonical_nodes ns ps = listed_nodes (nf (root_of ns ps))

unfoldable pub canonical_pool : List ℕ → List ℕ → List ℕ
canonical_pool ns ps = listed_pool (nf (root_of ns ps))
