-- The verdict (document 002, check.rs): its questions, its decision and its name.
use Rattle.std.specs.Prelude.{ℕ, List, [], ◌∷◌, Bool, true, false, not, Option, Some, None, Result, Ok, Err, length, leb}
use Rattle.meaning.specs.declared.Check.{Check}
use Rattle.meaning.specs.declared.Check.TheVariants.{Equiv, NotEquiv, Inconclusive}
use Rattle.meaning.specs.declared.TooShort.{TooShort}
use Rattle.meaning.specs.Rules.Numbers.{done_number, short_output}
use Rattle.meaning.specs.Rules.Lent.{output_after}

-- the number that stands for each verdict where answers are words
abbrev pub check_number : Check → ℕ
check_number Equiv = 0
check_number NotEquiv = 1
check_number Inconclusive = 2

-- ---- the questions
abbrev pub is_equiv : Check → Bool
is_equiv Equiv = true
is_equiv NotEquiv = false
is_equiv Inconclusive = false

abbrev pub is_not_equiv : Check → Bool
is_not_equiv Equiv = false
is_not_equiv NotEquiv = true
is_not_equiv Inconclusive = false

abbrev pub is_inconclusive : Check → Bool
is_inconclusive Equiv = false
is_inconclusive NotEquiv = false
is_inconclusive Inconclusive = true

abbrev pub is_conclusive : Check → Bool
is_conclusive c = not (is_inconclusive c)

-- ---- "`unwrap` and `expect` become one answer of yes, no or undecided"
abbrev pub decided : Check → Option Bool
decided Equiv = Some true
decided NotEquiv = Some false
decided Inconclusive = None

abbrev pub decision_number : Option Bool → ℕ
decision_number (Some true) = 0
decision_number (Some false) = 1
decision_number None = 2

-- ---- "`Display` writes the verdict's name as bytes"
abbrev pub name_of : Check → List ℕ
name_of Equiv = 69 ∷ 113 ∷ 117 ∷ 105 ∷ 118 ∷ []
name_of NotEquiv = 78 ∷ 111 ∷ 116 ∷ 69 ∷ 113 ∷ 117 ∷ 105 ∷ 118 ∷ []
name_of Inconclusive = 73 ∷ 110 ∷ 99 ∷ 111 ∷ 110 ∷ 99 ∷ 108 ∷ 117 ∷ 115 ∷ 105 ∷ 118 ∷ 101 ∷ []

-- the number that writing answers with, and how many bytes it wrote
abbrev pub written_number : Result ℕ TooShort → ℕ
written_number (Ok n) = done_number
written_number (Err e) = short_output

abbrev pub written_bytes : Result ℕ TooShort → ℕ
written_bytes (Ok n) = n
written_bytes (Err e) = 0

-- the whole outcome of writing a verdict's name into a lent slice
pub record Displayed : Type 0 where
  pub number : ℕ
  pub bytes : ℕ
  pub out : List ℕ

abbrev pub displayed : Result ℕ TooShort → List ℕ → Displayed
displayed r out = record { number = written_number r; bytes = written_bytes r; out = out }

abbrev pub display_of : Bool → List ℕ → List ℕ → Displayed
display_of true name old = record { number = done_number; bytes = length name; out = output_after true name old }
display_of false name old = record { number = short_output; bytes = 0; out = output_after false name old }

-- too short a slice: number 19, and nothing written
unfoldable pub display : Check → List ℕ → Displayed
display c old = display_of (leb (length (name_of c)) (length old)) (name_of c) old
