-- Room for the variables below a root, and for the bytes of an assignment, as a caller has them before the first call.
use Rattle.std.specs.Prelude.{ℕ, zero, suc, ◌≡◌, refl, List, length, replicate}
use Rattle.std.proofs.lemmas.List.{length-replicate}
use Rattle.meaning.specs.Rules.Answers.{undriven_byte}
use Rattle.meaning.specs.Rules.Assignments.{given}
use Rattle.inputs.specs.Driving.{OthersUndriven}

-- so many undriven bytes, and so many zeros, not written out
unfoldable pub undriven_bytes : ℕ → List ℕ
undriven_bytes n = replicate n undriven_byte

unfoldable pub blanks : ℕ → List ℕ
blanks n = replicate n 0

pub undriven_are : (n : ℕ) → replicate n undriven_byte ≡ undriven_bytes n
unfolding undriven_bytes
undriven_are n = refl

pub blanks_are : (n : ℕ) → replicate n 0 ≡ blanks n
unfolding blanks
blanks_are n = refl

pub undriven_length : (n : ℕ) → length (undriven_bytes n) ≡ n
unfolding undriven_bytes
undriven_length n = length-replicate n undriven_byte

pub blanks_length : (n : ℕ) → length (blanks n) ≡ n
unfolding blanks
blanks_length n = length-replicate n 0

-- nothing is driven yet, whatever the variables
all_undriven : (n v : ℕ) → given (replicate n undriven_byte) v ≡ undriven_byte
all_undriven zero v = refl
all_undriven (suc n) zero = refl
all_undriven (suc n) (suc v) = all_undriven n v

pub fresh_undriven : (vs : List ℕ) (n : ℕ) → OthersUndriven vs (undriven_bytes n)
unfolding undriven_bytes
fresh_undriven vs n v other = all_undriven n v
