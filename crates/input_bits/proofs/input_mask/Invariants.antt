-- `input_mask` meets its contract: the mask has the variables among the nodes below the loop's.
use Rattle.std.proofs.Common.{◌^◌, ◌<◌}
use Rattle.input_bits.specs.Seen.{SeenTo}
use Rattle.input_bits.proofs.input_mask.Given as goal

abbrev pub invariant-loop-i : goal.invariant-loop-i
invariant-loop-i l = record {
  within : l.mask < 2 ^ l.n;
  seen : SeenTo l.nodes l.pool l.i l.mask;
}
