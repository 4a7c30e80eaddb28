-- `list_at` meets its contract: the pool is read from where the node words end, and both counts are within what was lent.
use Rattle.std.proofs.Common.{◌≡◌, length, sym, ap, ◌∙◌, subst, Ok, Err}
use Rattle.std.proofs.lemmas.Result.{err_from_is_err_and}
use Rattle.list_texts.specs.Counted.{list_of, list_at, pool_at, filled_pool, Fits}
use Rattle.list_texts.specs.CountedLaws.{list_fits}
use Rattle.list_texts.proofs.list_at.Goals as goal

pub returns-in_err-words : goal.returns-in_err-words
unfolding list_at filled_pool
returns-in_err-words c =
    let h = sym c.in_err-words.ensures.value in
    let p = err_from_is_err_and c.from_residual.result c.from_residual.ensures.1 in
    let e = p.1 ∙ ap Err p.2 in
    record {
      value = e ∙ sym (rw h);
      nodes_after = c.in_err-words.ensures.places_after;
      pool_after = sym (rw h);
      fits = rw e tt;
    }

pub returns-in_err-entries : goal.returns-in_err-entries
unfolding list_at pool_at filled_pool
returns-in_err-entries c =
    let h = sym c.in_ok-words.ensures.value in
    let k = sym c.in_err-entries.ensures.value in
    let p = err_from_is_err_and c.from_residual-in_err-entries.result c.from_residual-in_err-entries.ensures.1 in
    let e = p.1 ∙ ap Err p.2 in
    record {
      value = e ∙ sym (rw (h, k));
      nodes_after = c.in_ok-words.ensures.places_after;
      pool_after = c.in_err-entries.ensures.places_after ∙ sym (rw h);
      fits = rw e tt;
    }

pub returns : goal.returns
unfolding list_at pool_at filled_pool
returns c =
    let h = sym c.in_ok-words.ensures.value in
    let k = sym c.in_ok-entries.ensures.value in
    let e : Ok (list_of c.in_ok-words.words.count c.in_ok-entries.entries.count c.in_ok-entries.entries.next)
    ≡ list_at c.args.text.now c.args.at (length c.args.nodes.now) (length c.args.pool.now) = sym (rw (h, k)) in
    record {
      value = e;
      nodes_after = c.in_ok-words.ensures.places_after;
      pool_after = c.in_ok-entries.ensures.places_after ∙ sym (rw h);
      fits = subst (Fits _ _) (sym e) (list_fits c.args.text.now _ _ c.args.at (length c.args.nodes.now) (length c.args.pool.now)
          (sym c.next_part.auto.places) (sym c.next_part-2.auto.places));
    }
