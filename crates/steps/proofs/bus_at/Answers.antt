-- `bus_at` meets its contract: the loop has folded the members before it (`MembersTo`).
use Rattle.accepted.proofs.Gathered.{bus_starts, member_bit, members_more, bus_ends}
use Rattle.steps.proofs.bus_at.Goals as goal

pub loop-i-init : goal.loop-i-init
loop-i-init c = bus_starts c.requires.filled.ready.sound c.requires.logic _ c.requires.n_value _ c.count_of-count.ensures.0

pub bus_step-bus-requires-clause-held_2 : goal.bus_step-bus-requires-clause-held_2
bus_step-bus-requires-clause-held_2 c = member_bit c.requires.filled.ready.sound c.requires.logic c.args.bytes.now c.requires.n_value _ _ _ c.loop-i.invariant _ c.loop-i-test.true c.operand_answer-x.ensures

pub loop-i-preserved : goal.loop-i-preserved
loop-i-preserved c = members_more c.requires.filled.ready.sound c.requires.logic c.args.bytes.now c.requires.n_value _ _ _ c.loop-i.invariant _ c.loop-i-test.true c.operand_answer-x.ensures _ c.bus_step-bus.ensures

pub returns : goal.returns
returns c = bus_ends c.requires.filled.ready.sound c.requires.logic c.args.bytes.now c.requires.n_value _ _ _ c.loop-i.invariant c.loop-i-test.false
