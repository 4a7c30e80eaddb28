-- `number_from` meets its contract: each byte ends the number, breaks it, or is the next of its digits.
use Rattle.std.proofs.Common.{ℕ, ◌≡◌, Bool, true, false, cond, Option, Some, None, Ok, Err, refl, sym, ap, ◌∙◌}
use Rattle.std.specs.Option.{ok_or}
use Rattle.std.proofs.lemmas.Result.{err_from_is_err_and}
use Rattle.decimals.specs.declared.Bad.{Bad}
use Rattle.decimals.specs.Words.{with_digit, extends, extended}
use Rattle.decimals.specs.Laws.{number_end, number_blank, number_bad, number_more}
use Rattle.decimals.proofs.number_from.Goals as goal

breaks : (v b : ℕ) (o : Option ℕ) (e f : Bad) → o ≡ extended v b → Err f ≡ ok_or o e → (extends v b ≡ false) × (f ≡ e)
breaks v b o e f g h = go (extends v b) refl g
  where
    go : (x : Bool) → extends v b ≡ x → o ≡ cond x (Some (with_digit v b)) None → (extends v b ≡ false) × (f ≡ e)
    go true q p = absurd (let z = rw p at h in cc)
    go false q p = let z = rw p at h in (q, cc)

goes : (v b w : ℕ) (o : Option ℕ) (e : Bad) → o ≡ extended v b → Ok w ≡ ok_or o e → (extends v b ≡ true) × (w ≡ with_digit v b)
goes v b w o e g h = go (extends v b) refl g
  where
    go : (x : Bool) → extends v b ≡ x → o ≡ cond x (Some (with_digit v b)) None → (extends v b ≡ true) × (w ≡ with_digit v b)
    go true q p = let z = rw p at h in (q, cc)
    go false q p = absurd (let z = rw p at h in cc)

pub returns-in_err-word : goal.returns-in_err-word
returns-in_err-word c =
    let b = breaks c.loop-i.word.value _ _ _ _ c.with_digit.ensures c.in_err-word.ensures.value in
    let p = err_from_is_err_and c.from_residual.result c.from_residual.ensures.1 in
    p.1 ∙ ap Err (p.2 ∙ b.1)
    ∙ sym (number_bad c.args.text.now c.loop-i.i c.loop-i.word.value c.loop-i-test.true (sym c.is_blank.ensures ∙ c.if-is_blank.false) b.0)
    ∙ c.loop-i.invariant.left

pub loop-i-preserved : goal.loop-i-preserved
loop-i-preserved c =
    let g = goes c.loop-i.word.value _ _ _ _ c.with_digit.ensures c.in_ok-word.ensures.value in
    record {
      here = refl;
      left = rw g.1
          (sym (number_more c.args.text.now c.loop-i.i c.loop-i.word.value c.loop-i-test.true (sym c.is_blank.ensures ∙ c.if-is_blank.false) g.0)
          ∙ c.loop-i.invariant.left);
    }

pub returns-then-is_blank : goal.returns-then-is_blank
returns-then-is_blank c =
    rw c.loop-i.invariant.here
    (sym (number_blank c.args.text.now c.loop-i.i c.loop-i.word.value c.loop-i-test.true (sym c.is_blank.ensures ∙ c.if-is_blank.true)) ∙ c.loop-i.invariant.left)

pub returns-after-loop-i : goal.returns-after-loop-i
returns-after-loop-i c =
    rw c.loop-i.invariant.here (sym (number_end c.args.text.now c.loop-i.i c.loop-i.word.value c.loop-i-test.false) ∙ c.loop-i.invariant.left)
