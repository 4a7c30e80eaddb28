-- The invariant: reading has not gone back, nor past the text's end.
use Rattle.std.proofs.Common.{◌≤◌, length}
use Rattle.replay_evaluate.proofs.pairs.next_pairs.Given as goal

abbrev pub invariant-loop-expected : goal.invariant-loop-expected
invariant-loop-expected l = (l.at ≤ l.next) × (l.next ≤ length l.text)
