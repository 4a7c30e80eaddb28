-- `rest_from` meets its contract: by the word that stands there.
use Rattle.std.proofs.Common.{ℕ, List, ◌≡◌, Bool, true, false, not, Option, Some, None, Ok, Err, sym, ap, ◌∙◌}
use Rattle.std.specs.Option.{is_some}
use Rattle.std.proofs.lemmas.Result.{err_from_is_err_and}
use Rattle.decimals.specs.declared.Word.{Word}
use Rattle.decimals.specs.Words.{next_word}
use Rattle.list_texts.specs.Counted.{rest_from}
use Rattle.list_texts.proofs.rest_from.Goals as goal

blank : (text : List ℕ) (at : ℕ) (o : Option (Word ℕ)) (b : Bool) → Ok o ≡ next_word text at → is_some o ≡ not b → Ok b ≡ rest_from text at
unfolding rest_from
blank text at None true h e = sym (rw (sym h))
blank text at None false h e = absurd cc
blank text at (Some w) true h e = absurd cc
blank text at (Some w) false h e = sym (rw (sym h))

pub returns-in_err-next_word : goal.returns-in_err-next_word
unfolding rest_from
returns-in_err-next_word c =
    let p = err_from_is_err_and c.from_residual.result c.from_residual.ensures.1 in
    p.1 ∙ ap Err p.2 ∙ sym (rw (sym c.in_err-next_word.ensures))

pub returns : goal.returns
returns c = blank c.args.text.now c.args.at _ _ c.in_ok-next_word.ensures c.is_none.ensures
