-- `lowest_of_blocks` meets its contract: up to the loop's base, no block has anything below the lowest that differs.
use Rattle.crossings.specs.Lowest.{LoweredTo, NoneTo}
use Rattle.subsets.specs.Among.{Among}
use Rattle.inputs.specs.Driving.{Drivable}
use Rattle.rows.specs.Rows.{Prepared}
use Rattle.meaning.specs.Rules.Trees.{root_of}
use lib.ListN.{length}
use mathlib.Core.Path.{◌≡◌}
use Prim.Native.Nat.{◌-◌, ◌≤◌}
use Rattle.crossings.proofs.blocks.lowest_of_blocks.Given as goal

abbrev pub invariant-loop-base : goal.invariant-loop-base
invariant-loop-base l = (l.base ≤ l.free)
    × Among l.free l.base
    × (length l.bytes ≡ length l.initial.bytes)
    × (length l.work ≡ length l.initial.work)
    × Prepared l.nodes l.pool 0 l.work
    × Drivable l.variables l.bytes
    × LoweredTo (root_of l.nodes l.pool) (length l.variables) l.free l.marked l.limit l.lowest
    × NoneTo (root_of l.nodes l.pool) (length l.variables) l.free l.marked l.base l.lowest

abbrev pub decreases-loop-base : goal.decreases-loop-base
decreases-loop-base l = l.free - l.base
