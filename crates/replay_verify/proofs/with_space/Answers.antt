-- `with_space` lends a part that is there, since the row fits.
use lib.Seq.{length-take-le}
use lib.ListN.{get_or}
use native.Mathlib.Omega.{arith}
use mathlib.Core.Path.{sym}
use Rattle.replay_verify.specs.Cases.{work_fits}
use Rattle.replay_verify.proofs.with_space.Goals as goal

pub slice_bounds-work-end : goal.slice_bounds-work-end
slice_bounds-work-end g c = omega (arith, work_fits c.args.row.now c.requires)

pub slice_bounds-compared-end : goal.slice_bounds-compared-end
slice_bounds-compared-end g c = sym (length-take-le (get_or c.args.row.now 2 0) c.work_room-work.result (omega (arith, work_fits c.args.row.now c.requires)))
