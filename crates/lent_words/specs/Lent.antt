-- Lent space before and after a call (document 01, "Numbers a call answers with": "unchanged if 1, 2 or 10 refuses, else all
-- zeros after the call; output past the answer is unchanged").
use Rattle.std.specs.Prelude.{ℕ, suc, ◌+◌, Bool, true, cond, ◌&&◌, List, [], ◌∷◌, eqb}

-- the mark of words of 64 bits and of those of 32: their highest bit
abbrev pub wide : ℕ
wide = 9223372036854775808

abbrev pub narrow : ℕ
narrow = 2147483648

-- the word at a place before the call: the mark, or above it
abbrev pub before : ℕ → ℕ → ℕ
before mark place = mark + place

-- what is to stand at a place after it
abbrev pub after : ℕ → Bool → ℕ → ℕ
after mark cleared place = cond cleared 0 (before mark place)

-- words from a place on, each replaced by the word of its place
unfoldable pub filled_by : {A : Type 0} → (ℕ → A) → ℕ → List A → List A
filled_by word place [] = []
filled_by word place (x ∷ old) = word place ∷ filled_by word (suc place) old

-- as they are before the call
abbrev pub filled : ℕ → ℕ → List ℕ → List ℕ
filled mark place old = filled_by (before mark) place old

-- whether words from a place on are those of their places
unfoldable pub left_by : {A : Type 0} → (A → A → Bool) → (ℕ → A) → ℕ → List A → Bool
left_by eq word place [] = true
left_by eq word place (x ∷ rest) = eq x (word place) && left_by eq word (suc place) rest

-- whether they are what is to stand there after the call
abbrev pub left : ℕ → Bool → ℕ → List ℕ → Bool
left mark cleared place words = left_by eqb (after mark cleared) place words
