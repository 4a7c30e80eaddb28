-- `with_space` lends parts that are there, since the row fits.
use lib.Seq.{length-take-le}
use lib.ListN.{get_or}
use native.Mathlib.Omega.{arith}
use mathlib.Core.Path.{sym}
use Rattle.replay_canonicalise.specs.Cases.{work_fits, out_words_fit, out_entries_fit}
use Rattle.replay_canonicalise.proofs.with_space.Goals as goal

pub slice_bounds-work-end : goal.slice_bounds-work-end
slice_bounds-work-end g c = omega (arith, work_fits c.args.row.now c.requires.fits)

pub slice_bounds-tried_in-end : goal.slice_bounds-tried_in-end
slice_bounds-tried_in-end g c = sym (length-take-le (get_or c.args.row.now 2 0) c.work_room-work.result (omega (arith, work_fits c.args.row.now c.requires.fits)))

pub slice_bounds-out_nodes-end : goal.slice_bounds-out_nodes-end
slice_bounds-out_nodes-end g c = omega (arith, out_words_fit c.args.row.now c.requires.fits)

pub slice_bounds-tried_in-end-2 : goal.slice_bounds-tried_in-end-2
slice_bounds-tried_in-end-2 g c = sym (length-take-le (get_or c.args.row.now 3 0) c.node_room-out_nodes.result (omega (arith, out_words_fit c.args.row.now c.requires.fits)))

pub slice_bounds-out_pool-end : goal.slice_bounds-out_pool-end
slice_bounds-out_pool-end g c = omega (arith, out_entries_fit c.args.row.now c.requires.fits)

pub slice_bounds-tried_in-end-3 : goal.slice_bounds-tried_in-end-3
slice_bounds-tried_in-end-3 g c = sym (length-take-le (get_or c.args.row.now 4 0) c.pool_room-out_pool.result (omega (arith, out_entries_fit c.args.row.now c.requires.fits)))

pub tried_in-requires : goal.tried_in-requires
tried_in-requires g c =
    let words = out_words_fit c.args.row.now c.requires.fits in
    let entries = out_entries_fit c.args.row.now c.requires.fits in
    let nodes-long = length-take-le (get_or c.args.row.now 3 0) c.node_room-out_nodes.result (omega (arith, words)) in
    let pool-long = length-take-le (get_or c.args.row.now 4 0) c.pool_room-out_pool.result (omega (arith, entries)) in
    record {
      at_in_bounds = c.requires.at_in_bounds;
      markable = (omega (arith, nodes-long, words), omega (arith, pool-long, entries));
    }
