-- The invariant: reading has not gone back, nor past the text's end.
use Rattle.std.proofs.Common.{◌≤◌, length}
use Rattle.replay_canonicalise.proofs.written.next_words.Given as goal

abbrev pub invariant-loop-expected : goal.invariant-loop-expected
invariant-loop-expected l = (l.at ≤ l.next) × (l.next ≤ length l.text)
