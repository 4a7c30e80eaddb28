-- `with_space` lends parts that are there, since the row fits.
use lib.Seq.{length-take-le}
use lib.ListN.{get_or}
use native.Mathlib.Omega.{arith}
use mathlib.Core.Path.{sym}
use Rattle.replay_evaluate.specs.Cases.{work_fits, out_fits}
use Rattle.replay_evaluate.proofs.with_space.Goals as goal

pub slice_bounds-work-end : goal.slice_bounds-work-end
slice_bounds-work-end g c = omega (arith, work_fits c.args.row.now c.requires.fits)

pub slice_bounds-called-end : goal.slice_bounds-called-end
slice_bounds-called-end g c = sym (length-take-le (get_or c.args.row.now 3 0) c.work_room-work.result (omega (arith, work_fits c.args.row.now c.requires.fits)))

pub slice_bounds-out-end : goal.slice_bounds-out-end
slice_bounds-out-end g c = omega (arith, out_fits c.args.row.now c.requires.fits)

pub slice_bounds-called-end-2 : goal.slice_bounds-called-end-2
slice_bounds-called-end-2 g c = sym (length-take-le (get_or c.args.row.now 4 0) c.room-out.result (omega (arith, out_fits c.args.row.now c.requires.fits)))
