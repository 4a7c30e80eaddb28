-- `next_list` meets its contract: the pool's words are read from where the node words end.
use Rattle.std.proofs.Common.{length, sym, ap, ◌∙◌, Err}
use Rattle.std.proofs.lemmas.Result.{err_from_is_err_and}
use Rattle.list_words.specs.EntryLaws.{list_goes, list_breaks, pool_goes, pool_breaks}
use Rattle.list_words.proofs.next_list.Goals as goal

pub returns-in_err-next : goal.returns-in_err-next
returns-in_err-next c =
    let h = sym c.in_err-next.ensures.value in
    let p = err_from_is_err_and c.from_residual.result c.from_residual.ensures.1 in
    record {
      value = p.1 ∙ ap Err p.2 ∙ sym (list_breaks c.args.text.now c.args.at (length c.args.nodes.now) (length c.args.pool.now) _ h);
      nodes_after = c.in_err-next.ensures.places_after;
      pool_after = sym (pool_breaks c.args.text.now c.args.at (length c.args.nodes.now) c.args.pool.now _ h);
    }

pub returns : goal.returns
returns c =
    let h = sym c.in_ok-next.ensures.value in
    record {
      value = c.next_entries-2.ensures.value ∙ sym (list_goes c.args.text.now c.args.at (length c.args.nodes.now) (length c.args.pool.now) _ h);
      nodes_after = c.in_ok-next.ensures.places_after;
      pool_after = c.next_entries-2.ensures.places_after ∙ sym (pool_goes c.args.text.now c.args.at (length c.args.nodes.now) c.args.pool.now _ h);
    }
