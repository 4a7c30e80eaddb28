-- `lowest_alike` meets its contract: no node that the loop has passed has the tree, and the first that has it is the lowest.
use Rattle.classes.specs.Classes.{has_tree}
use Rattle.meaning.specs.Rules.Trees.{tree_of}
use Prim.Native.Nat.{ℕ, ◌≤◌, ◌<◌, ◌-◌}
use mathlib.Core.Bool.{false}
use mathlib.Core.Path.{◌≡◌}
use Rattle.classes.proofs.alike.lowest_alike.Given as goal

abbrev pub invariant-loop-i : goal.invariant-loop-i
invariant-loop-i l = (l.i ≤ l.limit) × ((k : ℕ) → k < l.i → has_tree l.first_nodes l.first_pool (tree_of l.nodes l.pool l.j) k ≡ false)

abbrev pub decreases-loop-i : goal.decreases-loop-i
decreases-loop-i l = l.limit - l.i
