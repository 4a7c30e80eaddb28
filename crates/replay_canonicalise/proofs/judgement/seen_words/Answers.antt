-- `seen_words` meets its contract: the four words of the answer, and the verdict.
use mathlib.Core.Path.{refl}
use Rattle.replay_canonicalise.proofs.judgement.seen_words.Goals as goal

pub returns : goal.returns
returns c = rw c.four_words-words.ensures refl
