-- `bus_step` meets its contract: 63 bits and one more fit a word.
use Rattle.std.proofs.Common.{arith}
use Rattle.operators.specs.Widths.{held_lt}
use Rattle.operators.proofs.bus_step.Goals as goal

pub overflow_add-result-2 : goal.overflow_add-result-2
overflow_add-result-2 c = omega (arith, held_lt 63 _ _ c.args.bus c.requires.held c.in-Value-bus.is, held_lt 1 _ _ c.args.member c.requires.held_2 c.in-Value.is)
