-- Words one by one, as a loop fills them; places and words, as they are looked through; no second outcome; and examples.
use Rattle.std.specs.Prelude.{ℕ, zero, suc, ◌+◌, ◌≤◌, ◌<◌, ◌≡◌, refl, Bool, true, false, ◌&&◌, List, [], ◌∷◌, ◌++◌, length, take, drop, set}
use Rattle.std.specs.List.{list_all, enumerate_from}
use Rattle.std.proofs.Common.{sym, ap, ◌∙◌, add-one, arith, take-append-drop, drop_of_length-le, take-suc-set, drop-set-lt}
use Rattle.std.proofs.Math.Seq.{drop-cons, append_snoc}
use Rattle.lent_words.specs.Lent.{wide, narrow, filled_by, filled, left_by, left}

-- ---- before the call: the places passed with those to come

module _ {A : Type 0} (word : ℕ → A) (words : List A) (place : ℕ) where
  abbrev pub filled_from : List A
  filled_from = take place words ++ filled_by word place (drop place words)

  none_to_come : length words ≤ place → filled_by word place (drop place words) ≡ drop place words
  unfolding filled_by
  none_to_come l = rw (drop_of_length-le words l)

  pub filled_whole : length words ≤ place → filled_from ≡ words
  filled_whole l = ap (λ (xs : List A). take place words ++ xs) (none_to_come l) ∙ take-append-drop place words

pub filled_more : {A : Type 0} (word : ℕ → A) (words : List A) (place : ℕ) → place < length words
    → filled_from word words place ≡ filled_from word (set words place (word place)) (place + 1)
unfolding filled_by
filled_more word words place l =
    let passed = take-suc-set words place (word place) l in
    let to_come = drop-set-lt (suc place) words place (word place) (omega arith) in
    rw (add-one place, passed, to_come, append_snoc, drop-cons words place (word place) l)

-- ---- after it: each word with its place

module _ {A : Type 0} (eq : A → A → Bool) (word : ℕ → A) where
  looked : (n k place : ℕ) (words : List A) → n + k ≡ place
      → list_all (λ p. eq p.1 (word p.0)) (drop k (enumerate_from n words)) ≡ left_by eq word place (drop k words)
  unfolding left_by
  looked n zero place [] e = refl
  looked n (suc k) place [] e = refl
  looked n zero place (x ∷ words) e =
      let here : n ≡ place = omega arith in
      rw here (ap (λ (b : Bool). eq x (word place) && b) (looked (place + 1) zero (suc place) words (omega arith)))
  looked n (suc k) place (x ∷ words) e = looked (n + 1) k place words (omega arith)

  pub looked_through : (from : ℕ) (words : List A)
      → list_all (λ p. eq p.1 (word p.0)) (drop from (enumerate_from 0 words)) ≡ left_by eq word from (drop from words)
  looked_through from words = looked 0 from from words (omega arith)

-- ---- no second outcome

pub fill_only : (mark : ℕ) (old : List ℕ) {new new' : List ℕ} → new ≡ filled mark 0 old
    → new' ≡ filled mark 0 old → new ≡ new'
fill_only mark old p q = p ∙ sym q

pub is_left_only : (mark : ℕ) (words : List ℕ) (from : ℕ) (cleared : Bool) {r r' : Bool}
    → r ≡ left mark cleared from (drop from words) → r' ≡ left mark cleared from (drop from words) → r ≡ r'
is_left_only mark words from cleared p q = p ∙ sym q

-- ---- examples

pub filled_example : filled wide 0 (7 ∷ 0 ∷ []) ≡ 9223372036854775808 ∷ 9223372036854775809 ∷ []
unfolding filled_by
filled_example = refl

pub narrow_example : filled narrow 0 (7 ∷ 0 ∷ []) ≡ 2147483648 ∷ 2147483649 ∷ []
unfolding filled_by
narrow_example = refl

-- what is filled is left alone, and is not cleared; zeros are cleared, and are not left alone
pub left_alone : left wide false 0 (filled wide 0 (7 ∷ 0 ∷ [])) ≡ true
unfolding filled_by left_by
left_alone = refl

pub not_cleared : left wide true 1 (drop 1 (filled wide 0 (7 ∷ 0 ∷ []))) ≡ false
unfolding filled_by left_by
not_cleared = refl

pub zeros_cleared : left wide true 0 (0 ∷ 0 ∷ []) ≡ true
unfolding left_by
zeros_cleared = refl

-- a word of another place
pub one_moved : left wide false 1 (9223372036854775808 ∷ []) ≡ false
unfolding left_by
one_moved = refl
