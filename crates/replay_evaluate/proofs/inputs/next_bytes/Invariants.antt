-- The invariant: reading has not gone back, nor past the text's end.
use Rattle.std.proofs.Common.{◌≤◌, length}
use Rattle.replay_evaluate.proofs.inputs.next_bytes.Given as goal

abbrev pub invariant-loop-place : goal.invariant-loop-place
invariant-loop-place l = (l.at ≤ l.next) × (l.next ≤ length l.text)
