-- `in_room` lends parts that are there, since the row fits.
use lib.Seq.{length-take-le}
use lib.ListN.{get_or}
use native.Mathlib.Omega.{arith}
use mathlib.Core.Path.{sym}
use Rattle.replay_evaluate.specs.Cases.{words_fit, entries_fit, bytes_fit}
use Rattle.replay_evaluate.proofs.in_room.Goals as goal

pub slice_bounds-nodes-end : goal.slice_bounds-nodes-end
slice_bounds-nodes-end g c = omega (arith, words_fit c.args.row.now c.requires.fits)

pub slice_bounds-tried-end : goal.slice_bounds-tried-end
slice_bounds-tried-end g c = sym (length-take-le (get_or c.args.row.now 0 0) c.node_room-nodes.result (omega (arith, words_fit c.args.row.now c.requires.fits)))

pub slice_bounds-pool-end : goal.slice_bounds-pool-end
slice_bounds-pool-end g c = omega (arith, entries_fit c.args.row.now c.requires.fits)

pub slice_bounds-tried-end-2 : goal.slice_bounds-tried-end-2
slice_bounds-tried-end-2 g c = sym (length-take-le (get_or c.args.row.now 1 0) c.pool_room-pool.result (omega (arith, entries_fit c.args.row.now c.requires.fits)))

pub slice_bounds-bytes-end : goal.slice_bounds-bytes-end
slice_bounds-bytes-end g c = omega (arith, bytes_fit c.args.row.now c.requires.fits)

pub slice_bounds-tried-end-3 : goal.slice_bounds-tried-end-3
slice_bounds-tried-end-3 g c = sym (length-take-le (get_or c.args.row.now 2 0) c.room-bytes.result (omega (arith, bytes_fit c.args.row.now c.requires.fits)))
