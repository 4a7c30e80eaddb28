-- `with_space` lends a part that is there, since the row fits.
use lib.Seq.{length-take-le}
use lib.ListN.{get_or}
use native.Mathlib.Omega.{arith}
use mathlib.Core.Path.{sym}
use Rattle.replay_separate.specs.Cases.{work_fits, n_fits, marks_fit}
use Rattle.replay_separate.proofs.with_space.Goals as goal

pub bounds_of-requires : goal.bounds_of-requires
bounds_of-requires g c = (n_fits c.args.row.now c.requires, marks_fit c.args.row.now c.requires)

pub slice_bounds-work-end : goal.slice_bounds-work-end
slice_bounds-work-end g c = omega (arith, work_fits c.args.row.now c.requires)

pub slice_bounds-called-end : goal.slice_bounds-called-end
slice_bounds-called-end g c = sym (length-take-le (get_or c.args.row.now 4 0) c.work_room-work.result (omega (arith, work_fits c.args.row.now c.requires)))
