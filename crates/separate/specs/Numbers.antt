-- A number on the command line: the one word of 32 bits in an argument's text, with nothing but blanks around it.
use Rattle.std.specs.Prelude.{ℕ, ◌≡◌, List, true, false, Option, Some, None, Ok, Err}
use Rattle.list_texts.specs.Counted.{Rest, rest_from}
use Rattle.list_words.specs.Entries.{next_entry, on_entry}

abbrev pub alone : ℕ → Rest → Option ℕ
alone v (Ok true) = Some v
alone v (Ok false) = None
alone v (Err bad) = None

unfoldable pub number_in : List ℕ → Option ℕ
number_in text = on_entry (λ v next. alone v (rest_from text next)) (λ i. None) (next_entry text 0)

module _ (text : List ℕ) where
  pub none_in : {e : _} → next_entry text 0 ≡ Err e → number_in text ≡ None
  unfolding number_in
  none_in e = rw e

  pub number_by : {w : _} → next_entry text 0 ≡ Ok w → number_in text ≡ alone w.value (rest_from text w.next)
  unfolding number_in
  number_by e = rw e
