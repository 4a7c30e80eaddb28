-- `next_part` meets its contract: by the count.
use Rattle.std.proofs.Common.{sym, ap, ◌∙◌, Err}
use Rattle.std.proofs.lemmas.Result.{err_from_is_err_and}
use Rattle.list_texts.specs.Counted.{next_part, filled_part}
use Rattle.list_texts.proofs.next_part.Goals as goal

pub returns-in_err-count : goal.returns-in_err-count
unfolding next_part filled_part
returns-in_err-count c =
    let h = sym c.in_err-count.ensures in
    let p = err_from_is_err_and c.from_residual.result c.from_residual.ensures.1 in
    record {
      value = p.1 ∙ ap Err p.2 ∙ sym (rw h);
      places_after = sym (rw h);
    }

pub returns : goal.returns
unfolding next_part filled_part
returns c =
    let h = sym c.in_ok-count.ensures in
    record {
      value = c.counted_words.ensures.value ∙ sym (rw h);
      places_after = c.counted_words.ensures.places_after ∙ sym (rw h);
    }
