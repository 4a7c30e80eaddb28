-- `write_pairs` meets its contract: the loop has written the pairs below it, and left what is behind them.
use Rattle.std.proofs.Common.{◌≡◌, ◌++◌, ◌*◌, drop}
use Rattle.evaluator.specs.Output.{row_pairs}
use Rattle.evaluator.proofs.output.write_pairs.Given as goal

abbrev pub invariant-loop-i : goal.invariant-loop-i
invariant-loop-i l = l.out ≡ row_pairs l.work l.i ++ drop (2 * l.i) l.initial.out
