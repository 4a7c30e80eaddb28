-- `bus_at` meets its contract: the loop has folded the members before it (`MembersTo`).
use Rattle.accepted.proofs.Gathered.{MembersTo}
use Rattle.steps.proofs.bus_at.Given as goal

abbrev pub invariant-loop-i : goal.invariant-loop-i
invariant-loop-i l = MembersTo l.nodes l.pool l.bytes l.n l.count l.i l.bus
