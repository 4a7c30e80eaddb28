-- The invariant: the places passed, with those to come filled, are as all are to be.
use Rattle.std.proofs.Common.{◌≡◌, false}
use Rattle.lent_words.specs.Lent.{filled_by}
use Rattle.lent_words.specs.LentLaws.{filled_from}
use Rattle.lent_words.proofs.fill.Given as goal

abbrev pub invariant-loop-place : goal.invariant-loop-place
invariant-loop-place g l =
    filled_from (g.W.LentWord.after false) l.words l.place ≡ filled_by (g.W.LentWord.after false) 0 l.initial.words
