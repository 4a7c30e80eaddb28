-- `list_subtrees` meets its contract: the walk begins at the root's home, and at its end all is seen.
use Rattle.listing.specs.Steps.{turns}
use Rattle.listing.specs.Walk.{Walk}
use Rattle.meaning.specs.Rules.Trees.{node_count}
use lib.ListN.{length}
use mathlib.Core.Path.{◌≡◌}
use Rattle.listing.proofs.list_subtrees.Given as goal

abbrev pub invariant-loop-at : goal.invariant-loop-at
invariant-loop-at l = Walk l.nodes l.pool l.work l.at.depth l.at.count × (length l.work ≡ length l.initial.work)

abbrev pub decreases-loop-at : goal.decreases-loop-at
decreases-loop-at l = turns (node_count l.nodes) l.work l.at.depth
