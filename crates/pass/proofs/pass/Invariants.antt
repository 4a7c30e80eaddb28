-- `pass` meets its contract: the loop has written the pairs below it (`with_pairs_to`), and nothing else.
use Rattle.std.proofs.Common.{◌≡◌}
use Rattle.meaning.specs.Rules.Assignments.{given}
use Rattle.pass.specs.Written.{with_pairs_to}
use Rattle.pass.proofs.pass.Given as goal

abbrev pub invariant-loop-i : goal.invariant-loop-i
invariant-loop-i l = l.work ≡ with_pairs_to l.nodes l.pool (given l.bytes) l.base l.i l.initial.work
