-- Whether two rows of words are the same.
use Rattle.std.specs.Prelude.{ℕ, ◌≡◌, refl, Bool, true, false, cond, ◌&&◌, List, [], ◌∷◌, eqb}
use lib.Pointwise.{pointwise}

unfoldable pub alike : List ℕ → List ℕ → Bool
alike [] [] = true
alike [] (y ∷ ys) = false
alike (x ∷ xs) [] = false
alike (x ∷ xs) (y ∷ ys) = cond (eqb x y) (alike xs ys) false

-- word by word, as slices are compared
pub alike_pointwise : (xs ys : List ℕ) → pointwise eqb xs ys ≡ alike xs ys
unfolding alike
alike_pointwise [] [] = refl
alike_pointwise [] (y ∷ ys) = refl
alike_pointwise (x ∷ xs) [] = refl
alike_pointwise (x ∷ xs) (y ∷ ys) = so (eqb x y) (alike_pointwise xs ys)
  where
    so : (b : Bool) {rest rest' : Bool} → rest ≡ rest' → b && rest ≡ cond b rest' false
    so true e = e
    so false e = refl

-- ---- examples

pub one_differs : alike (3 ∷ 4 ∷ []) (3 ∷ 5 ∷ []) ≡ false
unfolding alike
one_differs = refl

pub all_the_same : alike (3 ∷ 4 ∷ []) (3 ∷ 4 ∷ []) ≡ true
unfolding alike
all_the_same = refl
