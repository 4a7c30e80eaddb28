-- `fill` meets its contract. The invariant: the places passed, with those to come filled, are as all are to be.
use Rattle.std.proofs.Common.{sym, ◌∙◌, arith, false}
use Rattle.lent_words.specs.LentLaws.{filled_more, filled_whole}
use Rattle.lent_words.proofs.fill.Goals as goal

pub loop-place-preserved : goal.loop-place-preserved
loop-place-preserved g c =
    rw c.after.ensures (sym (filled_more (g.W.LentWord.after false) c.loop-place.words c.loop-place.place (omega arith)) ∙ c.loop-place.invariant)

pub returns : goal.returns
returns g c = sym (filled_whole (g.W.LentWord.after false) c.loop-place.words c.loop-place.place (omega arith)) ∙ c.loop-place.invariant
