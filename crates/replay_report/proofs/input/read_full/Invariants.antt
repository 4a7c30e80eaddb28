-- `read_full` ends: each turn reads a byte at least, and there is room for no more than the room's length.
use Rattle.std.proofs.Common.{length, ◌-◌, ◌≤◌}
use Rattle.replay_report.proofs.input.read_full.Given as goal

abbrev pub invariant-loop-done : goal.invariant-loop-done
invariant-loop-done g l = l.done ≤ length l.room

abbrev pub decreases-loop-done : goal.decreases-loop-done
decreases-loop-done g l = length l.room - l.done
