-- `next_row` meets its contract: a word more, no word, or a byte that no word has; and at the end the row is whole.
use Rattle.std.proofs.Common.{length, refl, sym, ap, ◌∙◌, arith, Ok, Err}
use Rattle.std.proofs.lemmas.List.{length-set}
use Rattle.std.proofs.lemmas.Result.{err_from_is_err_and}
use Rattle.decimals.specs.RowLaws.{row_start, row_more, row_end, row_bad, row_whole, filled_end, filled_bad, filled_value, filled_whole}
use Rattle.decimals.specs.Places.{places_more, places_stop, places_kept}
use Rattle.decimals.specs.Rows.{filled}
use Rattle.decimals.proofs.rows.next_row.Goals as goal

pub loop-place-init : goal.loop-place-init
loop-place-init c = record { within = omega arith; as_long = refl; answer = row_start c.args.text.now (length c.args.row.now) c.args.at; row = refl }

pub returns-in_err-word : goal.returns-in_err-word
returns-in_err-word c =
    let h = sym c.in_err-word.ensures in
    let p = err_from_is_err_and c.from_residual.result c.from_residual.ensures.1 in
    record {
      value = p.1 ∙ ap Err p.2
          ∙ sym (row_bad c.args.text.now (length c.args.row.now) c.loop-place.place c.loop-place.next _ (omega arith) h) ∙ c.loop-place.invariant.answer;
      row_after = places_kept (filled c.args.text.now c.loop-place.next) c.loop-place.row c.loop-place.place (filled_bad c.args.text.now _ c.loop-place.next _ h)
          ∙ c.loop-place.invariant.row;
    }

pub returns-in_default : goal.returns-in_default
returns-in_default c =
    let h = sym c.in_ok-word.ensures ∙ ap Ok c.in_default.is in
    record {
      value = c.end_at.ensures
          ∙ sym (row_end c.args.text.now (length c.args.row.now) c.loop-place.place c.loop-place.next (omega arith) h) ∙ c.loop-place.invariant.answer;
      row_after = places_kept (filled c.args.text.now c.loop-place.next) c.loop-place.row c.loop-place.place (filled_end c.args.text.now _ c.loop-place.next h)
          ∙ c.loop-place.invariant.row;
    }

pub loop-place-preserved : goal.loop-place-preserved
loop-place-preserved c =
    let h = sym c.in_ok-word.ensures ∙ ap Ok c.in-Some.is in
    record {
      within = omega arith;
      as_long = simp length-set c.loop-place.invariant.as_long;
      answer = sym (row_more c.args.text.now (length c.args.row.now) c.loop-place.place c.loop-place.next _ _ (omega arith) h) ∙ c.loop-place.invariant.answer;
      row = sym (places_more (filled c.args.text.now c.loop-place.next) c.loop-place.row c.loop-place.place _ _ (omega arith)
          (filled_value c.args.text.now c.loop-place.next _ _ h)) ∙ c.loop-place.invariant.row;
    }

pub returns : goal.returns
returns c =
    record {
      value = sym (row_whole c.args.text.now (length c.args.row.now) c.loop-place.place c.loop-place.next (omega arith)) ∙ c.loop-place.invariant.answer;
      row_after = sym (places_stop (filled c.args.text.now c.loop-place.next) c.loop-place.row c.loop-place.place
          (filled_whole c.args.text.now c.loop-place.row c.loop-place.place c.loop-place.next (omega arith))) ∙ c.loop-place.invariant.row;
    }
