-- `in_room` lends parts that are there, since the row fits.
use lib.Seq.{length-take-le}
use lib.ListN.{get_or}
use native.Mathlib.Omega.{arith}
use mathlib.Core.Path.{sym}
use Rattle.replay_compare.specs.Cases.{words_fit, entries_fit, second_words_fit, second_entries_fit}
use Rattle.replay_compare.proofs.in_room.Goals as goal

pub slice_bounds-nodes-end : goal.slice_bounds-nodes-end
slice_bounds-nodes-end g c = omega (arith, words_fit c.args.row.now c.requires.fits)

pub slice_bounds-tried-end : goal.slice_bounds-tried-end
slice_bounds-tried-end g c = sym (length-take-le (get_or c.args.row.now 0 0) c.node_room-nodes.result (omega (arith, words_fit c.args.row.now c.requires.fits)))

pub slice_bounds-pool-end : goal.slice_bounds-pool-end
slice_bounds-pool-end g c = omega (arith, entries_fit c.args.row.now c.requires.fits)

pub slice_bounds-tried-end-2 : goal.slice_bounds-tried-end-2
slice_bounds-tried-end-2 g c = sym (length-take-le (get_or c.args.row.now 1 0) c.pool_room-pool.result (omega (arith, entries_fit c.args.row.now c.requires.fits)))

pub slice_bounds-second_nodes-end : goal.slice_bounds-second_nodes-end
slice_bounds-second_nodes-end g c = omega (arith, second_words_fit c.args.row.now c.requires.fits)

pub slice_bounds-tried-end-3 : goal.slice_bounds-tried-end-3
slice_bounds-tried-end-3 g c = sym (length-take-le (get_or c.args.row.now 2 0) c.node_room-second_nodes.result (omega (arith, second_words_fit c.args.row.now c.requires.fits)))

pub slice_bounds-second_pool-end : goal.slice_bounds-second_pool-end
slice_bounds-second_pool-end g c = omega (arith, second_entries_fit c.args.row.now c.requires.fits)

pub slice_bounds-tried-end-4 : goal.slice_bounds-tried-end-4
slice_bounds-tried-end-4 g c = sym (length-take-le (get_or c.args.row.now 3 0) c.pool_room-second_pool.result (omega (arith, second_entries_fit c.args.row.now c.requires.fits)))
