-- What is said tells the answer: two answers of one type that say the same number and values are the same.
use Rattle.std.specs.Prelude.{ℕ, ◌≡◌, refl, Bool, cond, eqb, true, false, Option, Some, None, Result, Ok, Err}
use Rattle.std.proofs.Common.{sym, ap, ◌∙◌, arith}
use Rattle.meaning.specs.declared.TooShort.{TooShort}
use Rattle.meaning.specs.declared.OutOfRange.{OutOfRange}
use Rattle.meaning.specs.declared.BitVector.{BitVector}
use Rattle.meaning.specs.declared.Cofactors.{Cofactors}
use Rattle.meaning.specs.Rules.Numbers.{done_number}
use Rattle.meaning.specs.Rules.Tables.{TableAnswer, answer_says, bit_says, width_and_value, smaller_says, program_says, high_and_low, lut_bit_says, bit_vector_says, removed_says, table_program_says, cofactors_say}
use Rattle.meaning.specs.Rules.Verdict.{written_number, written_bytes}

-- where what a value says is done, and the value can be read from it, an answer is told by what it says
pub answer_only : {A : Type 0} (f : A → TableAnswer) (read : TableAnswer → A)
    → ((x : A) → (f x).number ≡ done_number) → ((x : A) → read (f x) ≡ x)
    → (r r' : Result A OutOfRange) → answer_says f r ≡ answer_says f r' → r ≡ r'
answer_only f read done back (Ok x) (Ok y) e = ap Ok (sym (back x) ∙ ap read e ∙ back y)
answer_only f read done back (Ok x) (Err b) e = absurd (omega (arith, done x, ap (λ (a : TableAnswer). a.number) e))
answer_only f read done back (Err a) (Ok y) e = absurd (omega (arith, done y, ap (λ (a : TableAnswer). a.number) e))
answer_only f read done back (Err a) (Err b) e = refl

pub lut_bit_only : (r r' : Result Bool OutOfRange) → lut_bit_says r ≡ lut_bit_says r' → r ≡ r'
lut_bit_only = answer_only bit_says (λ a. eqb a.first 1) (λ b. refl) read
  where
    read : (b : Bool) → eqb (cond b 1 0) 1 ≡ b
    read true = refl
    read false = refl

pub bit_vector_only : (r r' : Result BitVector OutOfRange) → bit_vector_says r ≡ bit_vector_says r' → r ≡ r'
bit_vector_only =
    answer_only width_and_value (λ a. record { width = a.first; value = a.second }) (λ v. refl) (λ v. refl)

pub removed_only : (r r' : Result (Option ℕ) OutOfRange) → removed_says r ≡ removed_says r' → r ≡ r'
removed_only = answer_only smaller_says smaller done read
  where
    smaller : TableAnswer → Option ℕ
    smaller a = cond (eqb a.first 1) (Some a.second) None

    done : (o : Option ℕ) → (smaller_says o).number ≡ done_number
    done (Some p) = refl
    done None = refl

    read : (o : Option ℕ) → smaller (smaller_says o) ≡ o
    read (Some p) = refl
    read None = refl

pub table_program_only : (r r' : Result ℕ OutOfRange) → table_program_says r ≡ table_program_says r' → r ≡ r'
table_program_only = answer_only program_says (λ a. a.first) (λ p. refl) (λ p. refl)

pub cofactors_only : (r r' : Result Cofactors OutOfRange) → cofactors_say r ≡ cofactors_say r' → r ≡ r'
cofactors_only = answer_only high_and_low (λ a. record { high = a.first; low = a.second }) (λ c. refl) (λ c. refl)

pub written_only : (r r' : Result ℕ TooShort) → written_number r ≡ written_number r' → written_bytes r ≡ written_bytes r' → r ≡ r'
written_only (Ok n) (Ok m) e f = ap Ok f
written_only (Ok n) (Err b) e f = absurd (omega arith)
written_only (Err a) (Ok m) e f = absurd (omega arith)
written_only (Err a) (Err b) e f = refl
