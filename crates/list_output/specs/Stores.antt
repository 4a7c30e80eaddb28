-- Words stored one after another (the kit's `sets`): those behind others, and what the slice holds at the end.
use Rattle.std.specs.Prelude.{ℕ, zero, suc, ◌+◌, ◌≤◌, ◌≡◌, refl, List, [], ◌∷◌, ◌++◌, length, set}
use Rattle.std.proofs.Common.{sym, ap, ◌∙◌, add-zero, zero-add, add-one, arith}
use Rattle.std.proofs.lemmas.List.Edits.{sets, sets-eq}
use Rattle.meaning.specs.Rules.Lent.{written}
use Rattle.form_rows.specs.From.{from, from_length}

pub sets_behind : (xs ys l : List ℕ) (i n : ℕ) → i + length xs ≡ n → sets (sets l i xs) n ys ≡ sets l i (xs ++ ys)
sets_behind [] ys l i n e = let q : n ≡ i = omega arith in ap (λ (m : ℕ). sets l m ys) q
sets_behind (x ∷ xs) ys l i n e = sets_behind xs ys (set l i x) (suc i) n (omega arith)

-- one word more
pub set_behind : (xs l : List ℕ) (i n v : ℕ) → i + length xs ≡ n → set (sets l i xs) n v ≡ sets l i (xs ++ (v ∷ []))
set_behind xs l i n v e = sets_behind xs (v ∷ []) l i n e

pub sets_written : (xs l : List ℕ) → length xs ≤ length l → sets l 0 xs ≡ written xs l
sets_written xs l h =
    let e : 0 + length xs ≤ length l = omega arith in
    sets-eq xs l 0 e ∙ rw (zero-add (length xs))

-- ---- f 0, f 1, … one after another
from_end : (f : ℕ → ℕ) (j n : ℕ) → from f j (suc n) ≡ from f j n ++ (f (j + n) ∷ [])
unfolding from
from_end f j zero = ap (λ (x : ℕ). f x ∷ []) (sym (add-zero j))
from_end f j (suc n) =
    let e : suc j + n ≡ j + suc n = omega arith in
    ap (λ (xs : List ℕ). f j ∷ xs) (from_end f (suc j) n ∙ ap (λ (x : ℕ). from f (suc j) n ++ (f x ∷ [])) e)

pub from_none : (f : ℕ → ℕ) (l : List ℕ) (i : ℕ) → l ≡ sets l i (from f 0 0)
unfolding from
from_none f l i = refl

pub from_stored : (f : ℕ → ℕ) (l : List ℕ) (i j : ℕ) → set (sets l i (from f 0 j)) (i + j) (f j) ≡ sets l i (from f 0 (j + 1))
from_stored f l i j =
    let n : i + length (from f 0 j) ≡ i + j = ap (λ (x : ℕ). i + x) (from_length f 0 j) in
    set_behind (from f 0 j) l i (i + j) (f j) n
    ∙ ap (λ (x : ℕ). sets l i (from f 0 j ++ (f x ∷ []))) (sym (zero-add j))
    ∙ ap (sets l i) (sym (from_end f 0 j) ∙ ap (from f 0) (sym (add-one j)))
