-- Whether two rows of words are the same, word by word: rows of two lengths, a word more that is the same, one that is not,
-- and none left.
use Rattle.std.specs.Prelude.{ℕ, suc, ◌+◌, ◌≤◌, ◌<◌, ◌≡◌, refl, Bool, true, false, cond, List, [], ◌∷◌, eqb, length, get_or, drop}
use Rattle.std.proofs.Common.{ap, add-one}
use Rattle.std.proofs.Math.ListN.{drop_of_length-le}
use Rattle.std.proofs.Math.Seq.{drop-cons}
use borrow.Author.Tests.{eq-eqb, ne_eqb}
use Rattle.replay_results.specs.Alike.{alike}

rest_unlike : (b : Bool) {rest : Bool} → rest ≡ false → cond b rest false ≡ false
rest_unlike true e = e
rest_unlike false e = refl

pub alike_lengths : (xs ys : List ℕ) → (length xs ≡ length ys → ⊥) → alike xs ys ≡ false
unfolding alike
alike_lengths [] [] n = absurd (n refl)
alike_lengths [] (y ∷ ys) n = refl
alike_lengths (x ∷ xs) [] n = refl
alike_lengths (x ∷ xs) (y ∷ ys) n = rest_unlike (eqb x y) (alike_lengths xs ys (λ e. n (ap suc e)))

module _ (xs ys : List ℕ) (place : ℕ) where
  pub alike_more : place < length xs → place < length ys → get_or xs place 0 ≡ get_or ys place 0
      → alike (drop place xs) (drop place ys) ≡ alike (drop (place + 1) xs) (drop (place + 1) ys)
  unfolding alike
  alike_more l l' e = rw (add-one place, drop-cons xs place 0 l, drop-cons ys place 0 l', eq-eqb _ _ e)

  pub alike_stop : place < length xs → place < length ys → (get_or xs place 0 ≡ get_or ys place 0 → ⊥)
      → alike (drop place xs) (drop place ys) ≡ false
  unfolding alike
  alike_stop l l' n = rw (drop-cons xs place 0 l, drop-cons ys place 0 l', ne_eqb _ _ n)

  pub alike_whole : length xs ≤ place → length ys ≤ place → alike (drop place xs) (drop place ys) ≡ true
  unfolding alike
  alike_whole l l' = rw (drop_of_length-le xs l, drop_of_length-le ys l')
