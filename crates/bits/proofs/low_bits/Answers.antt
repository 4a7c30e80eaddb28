-- `bits::low_bits` meets its contract: the mask below a power of two is the remainder by it.
use Rattle.std.proofs.Common.{◌-◌, ap, ◌∙◌, bit_and}
use lib.Bits.{and_mask}
use Rattle.bits.proofs.low_bits.Goals as goal

pub returns : goal.returns
returns c = ap (λ x. bit_and c.args.word (x - 1)) c.power_of_two.ensures ∙ and_mask c.args.word c.args.place
