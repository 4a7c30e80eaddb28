-- `lowest_crossing` meets its contract: the first stage with a crossing has the lowest.
use Rattle.crossings.specs.Stages.{NoneOf}
use Rattle.inputs.specs.Driving.{Drivable}
use Rattle.rows.specs.Rows.{Prepared}
use Rattle.meaning.specs.Rules.Trees.{root_of}
use lib.ListN.{length}
use mathlib.Core.Path.{◌≡◌}
use Prim.Native.Nat.{◌-◌, ◌≤◌}
use Rattle.crossings.proofs.lowest_crossing.Given as goal

abbrev pub invariant-loop-places : goal.invariant-loop-places
invariant-loop-places l = (l.places ≤ l.n)
    × (l.n ≡ length l.variables)
    × (length l.bytes ≡ length l.initial.bytes)
    × (length l.work ≡ length l.initial.work)
    × Prepared l.nodes l.pool 0 l.work
    × Drivable l.variables l.bytes
    × NoneOf (root_of l.nodes l.pool) (length l.variables) l.marks l.places

abbrev pub decreases-loop-places : goal.decreases-loop-places
decreases-loop-places l = l.n - l.places
