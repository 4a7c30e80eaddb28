-- Whether lent words are what is to stand there after a call, word by word: one more that is, one that is not, and none
-- left.
use Rattle.std.specs.Prelude.{ℕ, ◌+◌, ◌≤◌, ◌<◌, ◌≡◌, Bool, true, false, List, length, get_or, drop}
use Rattle.std.proofs.Common.{add-one, drop_of_length-le}
use Rattle.std.proofs.Math.Seq.{drop-cons}
use borrow.Author.Tests.{eq-eqb, ne_eqb}
use Rattle.lent_words.specs.Lent.{after, left_by, left}

module _ (mark : ℕ) (words : List ℕ) (cleared : Bool) (place : ℕ) where
  pub left_more : place < length words → get_or words place 0 ≡ after mark cleared place
      → left mark cleared place (drop place words) ≡ left mark cleared (place + 1) (drop (place + 1) words)
  unfolding left_by
  left_more l e = rw (add-one place, drop-cons words place 0 l, eq-eqb _ _ e)

  pub left_stop : place < length words → (get_or words place 0 ≡ after mark cleared place → ⊥)
      → left mark cleared place (drop place words) ≡ false
  unfolding left_by
  left_stop l n = rw (drop-cons words place 0 l, ne_eqb _ _ n)

  pub left_whole : length words ≤ place → left mark cleared place (drop place words) ≡ true
  unfolding left_by
  left_whole l = rw (drop_of_length-le words l)
