-- `next_entries` meets its contract: a word more, or what is no word; and at the end the words are whole.
use Rattle.std.proofs.Common.{length, refl, sym, ap, ◌∙◌, arith, Err}
use Rattle.std.proofs.lemmas.List.{length-set}
use Rattle.std.proofs.lemmas.Result.{err_from_is_err_and}
use Rattle.decimals.specs.Places.{places_more, places_stop, places_kept}
use Rattle.list_words.specs.EntryLaws.{entries_start, entries_more, entries_bad, entries_whole, filled_bad, filled_value, filled_whole}
use Rattle.list_words.specs.Entries.{filled}
use Rattle.list_words.proofs.next_entries.Goals as goal

pub loop-place-init : goal.loop-place-init
loop-place-init c = record { within = omega arith; as_many = refl; answer = entries_start c.args.text.now (length c.args.places.now) c.args.at; places = refl }

pub returns-in_err-word : goal.returns-in_err-word
returns-in_err-word c =
    let h = sym c.in_err-word.ensures in
    let p = err_from_is_err_and c.from_residual.result c.from_residual.ensures.1 in
    record {
      value = p.1 ∙ ap Err p.2
          ∙ sym (entries_bad c.args.text.now (length c.args.places.now) c.loop-place.place-index c.loop-place.next _ (omega arith) h) ∙ c.loop-place.invariant.answer;
      places_after = places_kept (filled c.args.text.now c.loop-place.next) c.loop-place.places c.loop-place.place-index (filled_bad c.args.text.now _ c.loop-place.next _ h)
          ∙ c.loop-place.invariant.places;
    }

pub loop-place-preserved : goal.loop-place-preserved
loop-place-preserved c =
    let h = sym c.in_ok-word.ensures in
    record {
      within = omega arith;
      as_many = simp length-set c.loop-place.invariant.as_many;
      answer = sym (entries_more c.args.text.now (length c.args.places.now) c.loop-place.place-index c.loop-place.next _ _ (omega arith) h) ∙ c.loop-place.invariant.answer;
      places = sym (places_more (filled c.args.text.now c.loop-place.next) c.loop-place.places c.loop-place.place-index _ _ (omega arith)
          (filled_value c.args.text.now c.loop-place.next _ _ h)) ∙ c.loop-place.invariant.places;
    }

pub returns : goal.returns
returns c =
    record {
      value = sym (entries_whole c.args.text.now (length c.args.places.now) c.loop-place.place-index c.loop-place.next (omega arith)) ∙ c.loop-place.invariant.answer;
      places_after = sym (places_stop (filled c.args.text.now c.loop-place.next) c.loop-place.places c.loop-place.place-index
          (filled_whole c.args.text.now c.loop-place.places c.loop-place.place-index c.loop-place.next (omega arith))) ∙ c.loop-place.invariant.places;
    }
