-- `compared` lends a part that is there.
use Rattle.std.proofs.Common.{sym, arith, length-take-le}
use Rattle.replay_evaluate.proofs.compared.Goals as goal

pub slice_bounds-next_pairs-end : goal.slice_bounds-next_pairs-end
slice_bounds-next_pairs-end g c = sym (length-take-le c.args.expected.pairs c.args.out.now (omega (arith, c.if-count-out.false)))
