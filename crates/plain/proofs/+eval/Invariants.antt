-- How each function descends, and what the two loops keep. The functions beside `eval_rec` are called at its own node and call it
-- at a lower one, so its measure is odd and theirs even.
use Rattle.std.proofs.Common.{◌+◌, ◌*◌}
use Rattle.accepted.proofs.Gathered.{LutTo, MembersTo}
use Rattle.plain.proofs.+eval.Given as goal

abbrev pub decreases-eval_bus : goal.decreases-eval_bus
decreases-eval_bus l = 2 * l.n

abbrev pub decreases-eval_gate : goal.decreases-eval_gate
decreases-eval_gate l = 2 * l.n

abbrev pub decreases-eval_lut : goal.decreases-eval_lut
decreases-eval_lut l = 2 * l.n

abbrev pub decreases-eval_mux : goal.decreases-eval_mux
decreases-eval_mux l = 2 * l.n

abbrev pub decreases-eval_rec : goal.decreases-eval_rec
decreases-eval_rec l = 2 * l.n + 1

abbrev pub invariant-eval_bus-loop-i : goal.invariant-eval_bus-loop-i
invariant-eval_bus-loop-i l = MembersTo l.nodes l.pool l.bytes l.n l.count l.i l.bus

abbrev pub invariant-eval_lut-loop-i : goal.invariant-eval_lut-loop-i
invariant-eval_lut-loop-i l = LutTo l.nodes l.pool l.bytes l.n l.count l.i l.row
