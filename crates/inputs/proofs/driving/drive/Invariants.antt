-- `drive` meets its contract: the variables from the j-th on are driven, and the others as they were.
use Rattle.inputs.specs.Driving.{DrivenFrom}
use Rattle.inputs.proofs.driving.drive.Given as goal

abbrev pub invariant-loop-j : goal.invariant-loop-j
invariant-loop-j l = DrivenFrom l.initial.bytes l.variables l.index l.j l.bytes
