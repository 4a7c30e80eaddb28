-- `compared` lends parts that are there.
use lib.Seq.{length-take-le}
use mathlib.Core.Path.{sym}
use native.Mathlib.Omega.{arith}
use Rattle.replay_canonicalise.proofs.compared.Goals as goal

pub slice_bounds-next_written-end : goal.slice_bounds-next_written-end
slice_bounds-next_written-end g c = sym (length-take-le c.args.expected.listed.words c.args.out_nodes.now (omega (arith, c.if-words-out_nodes.false)))

pub slice_bounds-next_written-end-2 : goal.slice_bounds-next_written-end-2
slice_bounds-next_written-end-2 g c = sym (length-take-le c.args.expected.listed.entries c.args.out_pool.now (omega (arith, c.if-entries-out_pool.false)))
