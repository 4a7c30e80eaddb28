-- `write_pairs` meets its contract: the loop has written the pairs below it, and left what is behind them.
use Rattle.std.proofs.Common.{ℕ, ◌≡◌, ◌++◌, ◌*◌, drop, ap, ◌∙◌, arith, length-set}
use Rattle.evaluator.specs.Output.{row_pairs, rows_next, rows_written}
use Rattle.evaluator.proofs.output.write_pairs.Goals as goal

pub loop-i-preserved : goal.loop-i-preserved
loop-i-preserved c = rw c.loop-i.invariant (rows_next c.args.work.now c.args.out.now c.loop-i.i c.get.result c.get-in-loop-i.result c.get.ensures c.get-in-loop-i.ensures (omega (arith, c.requires.n_in_bounds_2)))

pub returns : goal.returns
returns c = let end : c.loop-i.i ≡ c.args.n = omega arith in c.loop-i.invariant ∙ ap (λ (m : ℕ). row_pairs c.args.work.now m ++ drop (2 * m) c.args.out.now) end ∙ rows_written c.args.work.now c.args.out.now c.args.n
