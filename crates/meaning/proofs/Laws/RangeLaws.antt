-- Number 13 and number 19: a test outside which a routine answers nothing else.
use Rattle.std.specs.Prelude.{ℕ, ◌≤◌, ◌<◌, ◌≡◌, refl, ◌↔◌, List, [], ◌∷◌, Bool, true, false, cond, length, get_or, ltb}
use Rattle.std.proofs.Common.{arith}
use Rattle.meaning.specs.Rules.Refusals.{every}
use Rattle.meaning.specs.Rules.Tables.{TableAnswer, in_range, says, are_bits}
use Rattle.meaning.specs.Rules.Verdict.{display_of}
use Rattle.meaning.proofs.Laws.BoolLaws.{true_false}
use Rattle.meaning.proofs.Laws.TestLaws.{is_from, every_fails}

pub in_range_13 : (test : Bool) (a : TableAnswer) {P : Type 0} → a.number ≡ 0 → ((test ≡ false) ↔ P) → ((in_range test a).number ≡ 13) ↔ P
in_range_13 true a z e = (λ h. absurd (omega arith), λ p. absurd (true_false refl (e.1 p)))
in_range_13 false a z e = (λ h. e.0 refl, λ p. refl)

-- a routine that answers None before its range is asked
pub in_range_or : (early test found : Bool) (x y : ℕ) {P Q : Type 0} → ((early ≡ false) ↔ P) → ((test ≡ false) ↔ Q)
    → ((cond early (says 0 0) (in_range test (cond found (says x y) (says 0 0)))).number ≡ 13) ↔ (P × Q)
in_range_or true test found x y e f = (λ h. absurd (omega arith), λ r. absurd (true_false refl (e.1 r.0)))
in_range_or false true true x y e f = (λ h. absurd (omega arith), λ r. absurd (true_false refl (f.1 r.1)))
in_range_or false true false x y e f = (λ h. absurd (omega arith), λ r. absurd (true_false refl (f.1 r.1)))
in_range_or false false found x y e f = (λ h. (e.0 refl, f.0 refl), λ r. refl)

-- bytes of 0 or 1
bits_every : (bs : List ℕ) → are_bits bs ≡ every (λ b. ltb b 2) bs
bits_every [] = refl
bits_every (b ∷ bs) = rw (bits_every bs)

pub bits_fail : (bs : List ℕ) → (are_bits bs ≡ false) ↔ ((j : ℕ) × (j < length bs) × (2 ≤ get_or bs j 0))
bits_fail bs = rw (bits_every bs) (every_fails (λ b. ltb b 2) (λ b. is_from b 2) bs)

pub display_19 : (test : Bool) (name old : List ℕ) {P : Type 0} → ((test ≡ false) ↔ P) → ((display_of test name old).number ≡ 19) ↔ P
display_19 true name old e = (λ h. absurd (omega arith), λ p. absurd (true_false refl (e.1 p)))
display_19 false name old e = (λ h. e.0 refl, λ p. refl)
