-- `next_word` meets its contract. The invariant: the blanks passed over change nothing.
use Rattle.std.proofs.Common.{◌≡◌, drop}
use Rattle.decimals.specs.Words.{word}
use Rattle.decimals.proofs.next_word.Given as goal

abbrev pub invariant-loop-i : goal.invariant-loop-i
invariant-loop-i l = word l.i (drop l.i l.text) ≡ word l.at (drop l.at l.text)
