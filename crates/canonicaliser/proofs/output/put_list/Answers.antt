-- `put_list` meets its contract: 19 leaves both outputs; else the list's words are written.
use Rattle.std.proofs.Common.{rules, ◌≡◌, ◌∙◌, sym, ap, List, ℕ, arith, Err}
use Rattle.meaning.specs.Rules.Lent.{written}
use Rattle.meaning.specs.Rules.Canonical.{canonical_nodes, canonical_pool}
use Rattle.list_output.specs.Canonical.{listing_nodes, listing_size}
use Rattle.canonicaliser.specs.Accepted.{put_stops, put_keeps, put_room, put_answers, put_written}
use Rattle.canonicaliser.proofs.output.put_list.Goals as goal

-- ---- 19 refuses
pub returns-in_err-require-clause-value : goal.returns-in_err-require-clause-value
returns-in_err-require-clause-value c =
    let told : c.from_residual.result ≡ Err c.in_err-require.field-0.0 = search rules in
    told ∙ put_stops c.requires.listing _ _ _ _ c.pool_length-entries.ensures c.fits-room.ensures _ (sym c.require.ensures ∙ c.in_err-require.was)

pub returns-in_err-require-clause-out_nodes_after : goal.returns-in_err-require-clause-out_nodes_after
returns-in_err-require-clause-out_nodes_after c =
    put_keeps c.requires.listing _ _ _ _ c.pool_length-entries.ensures c.fits-room.ensures _ (sym c.require.ensures ∙ c.in_err-require.was) _ _

pub returns-in_err-require-clause-out_pool_after : goal.returns-in_err-require-clause-out_pool_after
returns-in_err-require-clause-out_pool_after c =
    put_keeps c.requires.listing _ _ _ _ c.pool_length-entries.ensures c.fits-room.ensures _ (sym c.require.ensures ∙ c.in_err-require.was) _ _

-- ---- the list is written
pub write_nodes-requires-clause-words_per_node_in_bounds : goal.write_nodes-requires-clause-words_per_node_in_bounds
write_nodes-requires-clause-words_per_node_in_bounds c =
    (put_room c.requires.listing _ _ _ _ c.pool_length-entries.ensures c.fits-room.ensures (sym c.require.ensures ∙ c.in_ok-require.was)).nodes

pub write_nodes-requires-clause-count_bound : goal.write_nodes-requires-clause-count_bound
write_nodes-requires-clause-count_bound c =
    let room = put_room c.requires.listing _ _ _ _ c.pool_length-entries.ensures c.fits-room.ensures (sym c.require.ensures ∙ c.in_ok-require.was) in
    omega (arith, c.pool_length-entries.ensures, room.short)

pub write_pool-requires-clause-count_le_most_nodes : goal.write_pool-requires-clause-count_le_most_nodes
write_pool-requires-clause-count_le_most_nodes c =
    (put_room c.requires.listing _ _ _ _ c.pool_length-entries.ensures c.fits-room.ensures (sym c.require.ensures ∙ c.in_ok-require.was)).few

pub write_pool-requires-clause-pool_in_bounds : goal.write_pool-requires-clause-pool_in_bounds
write_pool-requires-clause-pool_in_bounds c =
    let room = put_room c.requires.listing _ _ _ _ c.pool_length-entries.ensures c.fits-room.ensures (sym c.require.ensures ∙ c.in_ok-require.was) in
    omega (arith, c.pool_length-entries.ensures, listing_size c.requires.listing, room.pool)

pub overflow_cast-result-2 : goal.overflow_cast-result-2
overflow_cast-result-2 c =
    let room = put_room c.requires.listing _ _ _ _ c.pool_length-entries.ensures c.fits-room.ensures (sym c.require.ensures ∙ c.in_ok-require.was) in
    omega (arith, room.short)

pub returns-clause-value : goal.returns-clause-value
returns-clause-value c =
    put_answers c.requires.listing _ _ _ _ c.pool_length-entries.ensures c.fits-room.ensures (sym c.require.ensures ∙ c.in_ok-require.was)

pub returns-clause-out_nodes_after : goal.returns-clause-out_nodes_after
returns-clause-out_nodes_after c =
    c.write_nodes.ensures ∙ ap (λ (words : List ℕ). written words c.args.out_nodes.now) (listing_nodes c.requires.listing)
    ∙ put_written c.requires.listing _ _ _ _ c.pool_length-entries.ensures c.fits-room.ensures (sym c.require.ensures ∙ c.in_ok-require.was) (canonical_nodes c.args.nodes.now c.args.pool.now) c.args.out_nodes.now

pub returns-clause-out_pool_after : goal.returns-clause-out_pool_after
returns-clause-out_pool_after c =
    c.write_pool.ensures
    ∙ put_written c.requires.listing _ _ _ _ c.pool_length-entries.ensures c.fits-room.ensures (sym c.require.ensures ∙ c.in_ok-require.was) (canonical_pool c.args.nodes.now c.args.pool.now) c.args.out_pool.now
