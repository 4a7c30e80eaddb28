-- `input_mask` meets its contract: the mask has the variables among the nodes below the loop's.
use Rattle.std.proofs.Common.{arith, pow_pos}
use lib.Bits.{or_lt}
use Rattle.bits.specs.Bit.{bit_zero}
use Rattle.input_bits.specs.Seen.{seen_next, seen_all}
use Rattle.input_bits.proofs.input_mask.Goals as goal

pub loop-i-init : goal.loop-i-init
loop-i-init c = record { within = pow_pos c.args.n; seen = bit_zero }

pub loop-i-preserved : goal.loop-i-preserved
loop-i-preserved c = record {
  within = or_lt c.args.n c.loop-i.mask c.input_bit-mask.result c.loop-i.invariant.within c.input_bit-mask.ensures.upper_bound;
  seen = seen_next c.args.nodes.now c.args.pool.now c.loop-i.i c.loop-i.mask c.input_bit-mask.result c.loop-i.invariant.seen c.input_bit-mask.ensures.bit_of;
}

pub returns : goal.returns
returns c = record {
  upper_bound = c.loop-i.invariant.within;
  mask = seen_all c.args.nodes.now c.args.pool.now c.requires.prepared.sound c.loop-i.i c.loop-i.mask (omega arith) c.loop-i.invariant.seen;
}
