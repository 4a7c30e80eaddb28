-- An answer as three words.
use Rattle.std.specs.Prelude.{◌≡◌, refl, Bool, true, false, ◌&&◌, eqb}
use Rattle.std.proofs.Common.{sym, ◌∙◌}
use Rattle.meaning.specs.declared.Failure.TheVariants.{Undriven, DontCare, Register, Argument}
use Rattle.meaning.specs.declared.Answer.{Answer}
use Rattle.meaning.specs.declared.Answer.TheVariants.{Value, Failed}
use Rattle.meaning.specs.Rules.Answers.{failure_number, state_of, answer_width, value_of}
use Rattle.meaning.specs.Rules.Comparison.{same_answer}
use Rattle.answer_words.specs.declared.Words.{Words}

abbrev pub said : Answer → Words
said a = record { state = state_of a; width = answer_width a; value = value_of a }

-- no second three words are the answer's
pub said_only : (a : Answer) {w w' : Words} → w ≡ said a → w' ≡ said a → w ≡ w'
said_only a p q = p ∙ sym q

-- two answers are the same exactly if their words are: state, width and value
both : (b : Bool) → (b && true && true) ≡ b
both true = refl
both false = refl

pub same_words : (x y : Answer) → (eqb (state_of x) (state_of y) && eqb (answer_width x) (answer_width y) && eqb (value_of x) (value_of y)) ≡ same_answer x y
same_words (Value w x) (Value u y) = refl
same_words (Value w x) (Failed Undriven) = refl
same_words (Value w x) (Failed DontCare) = refl
same_words (Value w x) (Failed Register) = refl
same_words (Value w x) (Failed Argument) = refl
same_words (Failed Undriven) (Value u y) = refl
same_words (Failed DontCare) (Value u y) = refl
same_words (Failed Register) (Value u y) = refl
same_words (Failed Argument) (Value u y) = refl
same_words (Failed f) (Failed g) = both (eqb (failure_number f) (failure_number g))
