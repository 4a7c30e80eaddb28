-- `within_limits` meets its contract: the nodes, then the pool.
use Prim.Native.Nat.{ℕ}
use borrow.Author.Tests.{le-leb, lt-leb}
use lib.Dec.{leb}
use mathlib.Core.Bool.{false, true}
use mathlib.Core.Path.{◌≡◌}
use native.Mathlib.Omega.{arith}
use Rattle.meaning.specs.Rules.Limits.{most_nodes}
use Rattle.meaning.specs.Rules.Trees.{node_count}
use Rattle.sizes.proofs.within_limits.Goals as goal

pub returns-then-node_count-le-MOST_NODES : goal.returns-then-node_count-le-MOST_NODES
returns-then-node_count-le-MOST_NODES c =
    let count : ℕ = node_count c.args.nodes.now in
    let few : leb count most_nodes ≡ true = le-leb count most_nodes (omega (arith, c.node_count.ensures)) in
    rw few

pub returns-else-node_count-le-MOST_NODES : goal.returns-else-node_count-le-MOST_NODES
returns-else-node_count-le-MOST_NODES c =
    let count : ℕ = node_count c.args.nodes.now in
    let many : leb count most_nodes ≡ false = lt-leb count most_nodes (omega (arith, c.node_count.ensures)) in
    rw (c.node_count.ensures, many)
