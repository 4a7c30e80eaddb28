-- The decimal word that stands in a text of bytes from an offset on.
use Rattle.std.specs.Prelude.{ℕ, suc, ◌+◌, ◌-◌, ◌*◌, Bool, cond, ◌&&◌, ◌||◌, List, [], ◌∷◌, drop, leb, eqb, Option, Some, None, Result, Ok, Err}
use Rattle.decimals.specs.declared.Word.{Word}
use Rattle.decimals.specs.declared.Bad.{Bad}

-- the word v, with the offset behind it
abbrev pub word_of : ℕ → ℕ → Word ℕ
word_of v next = record { value = v; next = next }

-- no word, for what stands at offset i
abbrev pub bad_at : {A : Type 0} → ℕ → Result A Bad
bad_at i = Err (record { offset = i })

-- what stands somewhere: a word, or nothing but blanks
abbrev pub Reading : Type 0
Reading = Result (Option (Word ℕ)) Bad

abbrev pub found : Result (Word ℕ) Bad → Reading
found (Ok w) = Ok (Some w)
found (Err e) = Err e

-- a blank is a space, a tab, a carriage return or a line feed
unfoldable pub is_blank : ℕ → Bool
is_blank b = eqb b 32 || eqb b 9 || eqb b 13 || eqb b 10

-- the digits 0 to 9 are the bytes 48 to 57
unfoldable pub is_digit : ℕ → Bool
is_digit b = leb 48 b && leb b 57

-- a number v with the digit b written behind it
abbrev pub with_digit : ℕ → ℕ → ℕ
with_digit v b = v * 10 + (b - 48)

-- the largest number that a word may be, 2^64 - 1
abbrev pub largest : ℕ
largest = 18446744073709551615

-- b is a digit, and with it behind v the number is not too large
unfoldable pub extends : ℕ → ℕ → Bool
extends v b = is_digit b && leb (with_digit v b) largest

-- the number that they are together, if they are one
abbrev pub extended : ℕ → ℕ → Option ℕ
extended v b = cond (extends v b) (Some (with_digit v b)) None

-- at offset i, inside a number that is v so far: a blank or the end of the text ends it
unfoldable pub number : ℕ → ℕ → List ℕ → Result (Word ℕ) Bad
number v i [] = Ok (word_of v i)
number v i (b ∷ rest) =
    cond (is_blank b) (Ok (word_of v i)) (cond (extends v b) (number (with_digit v b) (suc i) rest) (bad_at i))

-- at offset i, in front of a number: blanks are passed over
unfoldable pub word : ℕ → List ℕ → Reading
word i [] = Ok None
word i (b ∷ rest) = cond (is_blank b) (word (suc i) rest) (found (number 0 i (b ∷ rest)))

-- what stands from the offset on; past the end of the text, nothing
unfoldable pub next_word : List ℕ → ℕ → Reading
next_word text at = word at (drop at text)
