-- `lut_at` meets its contract: the loop has gathered the row before it (`LutTo`); a failing operand ends it.
use Rattle.accepted.proofs.Gathered.{LutTo}
use Rattle.steps.proofs.lut_at.Given as goal

abbrev pub invariant-loop-i : goal.invariant-loop-i
invariant-loop-i l = LutTo l.nodes l.pool l.bytes l.n l.count l.i l.row
