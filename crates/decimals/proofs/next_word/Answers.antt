-- `next_word` meets its contract: at a byte that is no blank the word begins, and at the end there is none.
use Rattle.std.proofs.Common.{sym, ap, ◌∙◌}
use Rattle.std.proofs.lemmas.Result.{err_from_is_err_and}
use Rattle.decimals.specs.Laws.{word_end, word_blank, word_number}
use Rattle.decimals.specs.Words.{next_word, found}
use Rattle.decimals.proofs.next_word.Goals as goal

pub returns-in_err-number_from : goal.returns-in_err-number_from
unfolding next_word
returns-in_err-number_from c =
    let p = err_from_is_err_and c.from_residual.result c.from_residual.ensures.1 in
    rw (p.1, p.2)
    (ap found c.in_err-number_from.ensures ∙ sym (word_number c.args.text.now c.loop-i.i c.loop-i-test.true (sym c.is_blank.ensures ∙ c.if-not-is_blank.true)) ∙ c.loop-i.invariant)

pub returns-then-not-is_blank : goal.returns-then-not-is_blank
unfolding next_word
returns-then-not-is_blank c =
    ap found c.in_ok-number_from.ensures ∙ sym (word_number c.args.text.now c.loop-i.i c.loop-i-test.true (sym c.is_blank.ensures ∙ c.if-not-is_blank.true)) ∙ c.loop-i.invariant

pub loop-i-preserved : goal.loop-i-preserved
loop-i-preserved c = sym (word_blank c.args.text.now c.loop-i.i c.loop-i-test.true (sym c.is_blank.ensures ∙ c.if-not-is_blank.false)) ∙ c.loop-i.invariant

pub returns : goal.returns
unfolding next_word
returns c = sym (word_end c.args.text.now c.loop-i.i c.loop-i-test.false) ∙ c.loop-i.invariant
