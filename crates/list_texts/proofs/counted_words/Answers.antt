-- `counted_words` meets its contract: the words are read into the start of the places, where there is room for so many.
use Rattle.std.proofs.Common.{ℕ, List, ◌++◌, ◌≡◌, ◌≤◌, false, leb, length, take, drop, sym, ap, ◌∙◌, Err}
use Rattle.std.proofs.lemmas.Bool.{lt-leb}
use Rattle.std.proofs.lemmas.Result.{err_from_is_err_and}
use Rattle.list_words.specs.Entries.{filled}
use Rattle.list_texts.specs.CountedLaws.{counted_whole, counted_bad, filled_start_lem}
use Rattle.list_texts.specs.Counted.{counted_words, filled_start}
use Rattle.list_texts.proofs.counted_words.Goals as goal

-- the start that was read into, in front of the rest
placed : (text old : List ℕ) (count at : ℕ) (new : List ℕ) → count ≤ length old → new ≡ filled text at (take count old)
    → new ++ drop count old ≡ filled_start text old count at
placed text old count at new l h = ap (λ xs. xs ++ drop count old) h ∙ sym (filled_start_lem text old count at l)

pub returns-then-count-places : goal.returns-then-count-places
unfolding counted_words filled_start
returns-then-count-places c =
    let over : leb c.args.count (length c.args.places.now) ≡ false = lt-leb c.args.count (length c.args.places.now) c.if-count-places.true in
    record {
      value = rw over;
      places_after = rw over;
    }

pub returns-in_err-next : goal.returns-in_err-next
returns-in_err-next c =
    let l : c.args.count ≤ length c.args.places.now = c.if-count-places.false in
    let p = err_from_is_err_and c.from_residual.result c.from_residual.ensures.1 in
    record {
      value = p.1 ∙ ap Err p.2 ∙ sym (counted_bad c.args.text.now c.args.places.now c.args.count c.args.at _ l (sym c.in_err-next.ensures.value));
      places_after = placed c.args.text.now c.args.places.now c.args.count c.args.at _ l c.in_err-next.ensures.places_after;
    }

pub returns : goal.returns
returns c =
    let l : c.args.count ≤ length c.args.places.now = c.if-count-places.false in
    record {
      value = sym (counted_whole c.args.text.now c.args.places.now c.args.count c.args.at _ l (sym c.in_ok-next.ensures.value));
      places_after = placed c.args.text.now c.args.places.now c.args.count c.args.at _ l c.in_ok-next.ensures.places_after;
    }
