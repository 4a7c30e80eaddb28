-- `next_entry` meets its contract: by what stands in the text.
use Rattle.std.proofs.Common.{ℕ, List, ◌≡◌, ◌<◌, ◌≤◌, Option, Some, None, Ok, Err, length, refl, sym, ap, ◌∙◌, arith, le-leb}
use Rattle.std.proofs.lemmas.Bool.{lt-leb}
use Rattle.std.specs.Option.{ok_or}
use Rattle.std.proofs.lemmas.Result.{err_from_is_err_and}
use Rattle.decimals.specs.declared.Word.{Word}
use Rattle.decimals.specs.declared.Bad.{Bad}
use Rattle.decimals.specs.Words.{word_of, bad_at, next_word}
use Rattle.list_words.specs.Entries.{largest, next_entry}
use Rattle.list_words.proofs.entry.next_entry.Goals as goal

-- a word is owed
none_there : (text : List ℕ) (at : ℕ) (o : Option (Word ℕ)) (e f : Bad) → Ok o ≡ next_word text at → e ≡ record { offset = length text } → Err f ≡ ok_or o e
    → Err f ≡ next_entry text at
unfolding next_entry
none_there text at None e f h g k = let z : f ≡ e = cc in rw (sym h, z, g)
none_there text at (Some w) e f h g k = absurd cc

word_there : (text : List ℕ) (at : ℕ) (o : Option (Word ℕ)) (e : Bad) (w : Word ℕ) → Ok o ≡ next_word text at → Ok w ≡ ok_or o e
    → next_word text at ≡ Ok (Some w)
word_there text at None e w h k = absurd cc
word_there text at (Some x) e w h k = sym h ∙ ap (λ (y : Word ℕ). Ok (Some y)) cc

fits : (text : List ℕ) (at : ℕ) (w : Word ℕ) (v : ℕ) → next_word text at ≡ Ok (Some w) → w.value ≤ largest → v ≡ w.value
    → Ok (word_of v w.next) ≡ next_entry text at
unfolding next_entry
fits text at w v h l e = rw (h, le-leb w.value largest l, e)

too_large : (text : List ℕ) (at : ℕ) (w : Word ℕ) → next_word text at ≡ Ok (Some w) → largest < w.value → bad_at at ≡ next_entry text at
unfolding next_entry
too_large text at w h l = rw (h, lt-leb w.value largest l)

pub returns-in_err-next_word : goal.returns-in_err-next_word
unfolding next_entry
returns-in_err-next_word c =
    let p = err_from_is_err_and c.from_residual.result c.from_residual.ensures.1 in
    p.1 ∙ ap Err p.2 ∙ sym (rw (sym c.in_err-next_word.ensures))

pub returns-in_err-word : goal.returns-in_err-word
returns-in_err-word c =
    let p = err_from_is_err_and c.from_residual-in_err-word.result c.from_residual-in_err-word.ensures.1 in
    p.1 ∙ ap Err p.2 ∙ none_there c.args.text.now c.args.at _ _ _ c.in_ok-next_word.ensures refl c.in_err-word.ensures.value

pub returns-in-Ok : goal.returns-in-Ok
returns-in-Ok c =
    let e = c.in-Ok.ensures in
    fits c.args.text.now c.args.at c.in_ok-word.word c.in-Ok.value (word_there c.args.text.now c.args.at _ _ _ c.in_ok-next_word.ensures c.in_ok-word.ensures.value)
    (omega (arith, e)) e.1

pub returns-in-Err : goal.returns-in-Err
returns-in-Err c =
    let e = c.in-Err.ensures in
    too_large c.args.text.now c.args.at c.in_ok-word.word (word_there c.args.text.now c.args.at _ _ _ c.in_ok-next_word.ensures c.in_ok-word.ensures.value)
    (omega (arith, e))
