-- `with_space` lends a part that is there, since the row fits.
use lib.Seq.{length-take-le}
use lib.ListN.{get_or}
use native.Mathlib.Omega.{arith}
use mathlib.Core.Path.{sym}
use Rattle.replay_compare.specs.Cases.{work_fits}
use Rattle.replay_compare.proofs.with_space.Goals as goal

pub slice_bounds-work-end : goal.slice_bounds-work-end
slice_bounds-work-end g c = omega (arith, work_fits c.args.row.now c.requires)

pub slice_bounds-called-end : goal.slice_bounds-called-end
slice_bounds-called-end g c = sym (length-take-le (get_or c.args.row.now 4 0) c.pair_work_room-work.result (omega (arith, work_fits c.args.row.now c.requires)))
