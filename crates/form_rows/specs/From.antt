-- The k numbers f j, f (j + 1), … as a list: how the children of a row are read.
use Rattle.std.specs.Prelude.{ℕ, zero, suc, ◌+◌, ◌<◌, ◌≡◌, refl, List, [], ◌∷◌, length, get_or}
use Rattle.std.proofs.Common.{ap, ap₂, ◌∙◌, arith, add-zero}

unfoldable pub from : (ℕ → ℕ) → ℕ → ℕ → List ℕ
from f j zero = []
from f j (suc k) = f j ∷ from f (suc j) k

pub from_length : (f : ℕ → ℕ) (j k : ℕ) → length (from f j k) ≡ k
unfolding from
from_length f j zero = refl
from_length f j (suc k) = ap suc (from_length f (suc j) k)

pub from_at : (f : ℕ → ℕ) (j k i : ℕ) → i < k → get_or (from f j k) i 0 ≡ f (j + i)
unfolding from
from_at f j zero i h = absurd (omega arith)
from_at f j (suc k) zero h = ap f (omega arith)
from_at f j (suc k) (suc i) h = let e : suc j + i ≡ j + suc i = omega arith in from_at f (suc j) k i (omega arith) ∙ ap f e

pub from_same : (f g : ℕ → ℕ) (j k : ℕ) → ((i : ℕ) → i < k → f (j + i) ≡ g (j + i)) → from f j k ≡ from g j k
unfolding from
from_same f g j zero e = refl
from_same f g j (suc k) e =
    let here : f j ≡ g j = subst_zero e in
    ap₂ (λ (x : ℕ) (xs : List ℕ). x ∷ xs) here (from_same f g (suc j) k (λ i h. shifted i h))
  where
    subst_zero : ((i : ℕ) → i < suc k → f (j + i) ≡ g (j + i)) → f j ≡ g j
    subst_zero e = rw (add-zero j) at (e 0 (omega arith))

    shifted : (i : ℕ) → i < k → f (suc j + i) ≡ g (suc j + i)
    shifted i h = let q : suc j + i ≡ j + suc i = omega arith in rw q (e (suc i) (omega arith))

-- a list is the numbers at its places
pub from_list : (xs : List ℕ) (f : ℕ → ℕ) (j : ℕ) → ((i : ℕ) → i < length xs → f (j + i) ≡ get_or xs i 0) → from f j (length xs) ≡ xs
unfolding from
from_list [] f j e = refl
from_list (x ∷ xs) f j e =
    let here : f j ≡ x = rw (add-zero j) at (e 0 (omega arith)) in
    ap₂ (λ (y : ℕ) (ys : List ℕ). y ∷ ys) here (from_list xs f (suc j) (λ i h. shifted i h))
  where
    shifted : (i : ℕ) → i < length xs → f (suc j + i) ≡ get_or xs i 0
    shifted i h = let q : suc j + i ≡ j + suc i = omega arith in rw q (e (suc i) (omega arith))
