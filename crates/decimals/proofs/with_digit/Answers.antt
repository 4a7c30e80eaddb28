-- `with_digit` meets its contract: no digit, a product that is too large, a sum that is, or the digit behind the value.
use Rattle.std.proofs.Common.{ℕ, ◌≡◌, ◌+◌, ◌-◌, ◌*◌, ◌<◌, true, false, Option, Some, None, sym, arith, ◌∙◌}
use Rattle.std.specs.Option.{SomeIff}
use Rattle.std.proofs.lemmas.Bool.{lt-leb}
use Rattle.std.proofs.Math.Bool.{and-false}
use Rattle.decimals.specs.Words.{is_digit, with_digit, largest, extends, extended}
use Rattle.decimals.specs.Laws.{extends_fits}
use Rattle.decimals.proofs.with_digit.Goals as goal

no_digit : (v b : ℕ) → is_digit b ≡ false → extended v b ≡ None
unfolding extends
no_digit v b d = rw d

too_large : (v b : ℕ) → largest < with_digit v b → extended v b ≡ None
unfolding extends
too_large v b l = rw (lt-leb (with_digit v b) largest l, and-false (is_digit b))

of_sum : (v b t d : ℕ) (r : Option ℕ) → is_digit b ≡ true → t ≡ v * 10 → d ≡ b - 48
    → SomeIff r (t + d < 18446744073709551616) (t + d) → r ≡ extended v b
of_sum v b t d None g e f h = sym (too_large v b (omega arith))
of_sum v b t d (Some x) g e f h = rw (extends_fits v b g (omega arith)) (let k : x ≡ with_digit v b = omega arith in cc)

pub returns-then-not-is_ascii_digit : goal.returns-then-not-is_ascii_digit
unfolding is_digit
returns-then-not-is_ascii_digit c = sym (no_digit c.args.value c.args.b (sym c.is_ascii_digit.ensures.value ∙ c.if-not-is_ascii_digit.true))

pub returns-in_err-checked_mul : goal.returns-in_err-checked_mul
returns-in_err-checked_mul c =
    let h = c.in_err-checked_mul.ensures in
    c.from_residual.ensures ∙ sym (too_large c.args.value c.args.b (omega (arith, h)))

pub returns : goal.returns
unfolding is_digit
returns c =
    let h = c.in_ok-checked_mul.ensures in
    of_sum c.args.value c.args.b _ _ _ (sym c.is_ascii_digit.ensures.value ∙ c.if-not-is_ascii_digit.false) (omega (arith, h)) c.from.ensures c.checked_add.ensures
