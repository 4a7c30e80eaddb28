-- `lowest_in_block` meets its contract: up to the loop's run bits, nothing of the block below the lowest differs from the base.
use Rattle.crossings.specs.Lowest.{NoneInBlock}
use Rattle.subsets.specs.Among.{Among}
use Rattle.inputs.specs.Driving.{Drivable}
use Rattle.rows.specs.Rows.{Prepared}
use Rattle.meaning.specs.Rules.Trees.{root_of}
use lib.ListN.{length}
use mathlib.Core.Path.{◌≡◌}
use Prim.Native.Nat.{◌-◌, ◌≤◌}
use Rattle.crossings.proofs.blocks.lowest_in_block.Given as goal

abbrev pub invariant-loop-run : goal.invariant-loop-run
invariant-loop-run l = (l.run ≤ l.marked)
    × Among l.marked l.run
    × (length l.bytes ≡ length l.initial.bytes)
    × (length l.work ≡ length l.initial.work)
    × Prepared l.nodes l.pool 0 l.work
    × Drivable l.variables l.bytes
    × NoneInBlock (root_of l.nodes l.pool) (length l.variables) l.marked l.base l.run l.lowest

abbrev pub decreases-loop-run : goal.decreases-loop-run
decreases-loop-run l = l.marked - l.run
