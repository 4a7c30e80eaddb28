-- `write_forms` meets its contract: the nodes below the loop have their normal forms and number 0 (`Passed`).
use Rattle.std.proofs.Common.{length, ◌≡◌}
use Rattle.forms.specs.Turns.{Passed}
use Rattle.forms.proofs.write_forms.Given as goal

abbrev pub invariant-loop-i : goal.invariant-loop-i
invariant-loop-i l = (length l.work ≡ length l.initial.work) × Passed l.nodes l.pool l.work l.i
