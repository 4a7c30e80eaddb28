-- Words one behind the other: as many as a row has places.
use Rattle.std.specs.Prelude.{ℕ, zero, suc, List, [], ◌∷◌, length, Option, Some, None, Result, Ok, Err}
use Rattle.decimals.specs.declared.Bad.{Bad}
use Rattle.decimals.specs.Words.{bad_at, Reading, next_word}

-- by what stands in the text
abbrev pub on_word : {A : Type 0} → (ℕ → ℕ → A) → A → (ℕ → A) → Reading → A
on_word value end bad (Ok (Some w)) = value w.value w.next
on_word value end bad (Ok None) = end
on_word value end bad (Err e) = bad e.offset

-- the offset behind a row, or no row
abbrev pub Row : Type 0
Row = Result (Option ℕ) Bad

-- n words from an offset on: the offset behind the last, or why there are not so many; the text's end is answered by
-- `end` in front of the first word, and behind it is a fault of the text
unfoldable pub row_from : List ℕ → Row → ℕ → ℕ → Row
row_from text end zero at = Ok (Some at)
row_from text end (suc n) at = on_word (λ v next. row_from text (bad_at (length text)) n next) end bad_at (next_word text at)

unfoldable pub next_row : List ℕ → ℕ → ℕ → Row
next_row text at n = row_from text (Ok None) n at

-- what the places hold afterwards: the words, as far as there are any, and behind them what was there
unfoldable pub filled : List ℕ → ℕ → List ℕ → List ℕ
filled text at [] = []
filled text at (x ∷ old) = on_word (λ v next. v ∷ filled text next old) (x ∷ old) (λ i. x ∷ old) (next_word text at)
