-- `dropping::next_rule` meets its contract: the first constant goes before the first ignored operand.
use Rattle.folding.specs.FoldedLaws.{next_constant, next_ignored, next_stay}
use Rattle.folding.proofs.dropping.next_rule.Goals as goal

pub returns-in-Some : goal.returns-in-Some
returns-in-Some c = let e = next_constant c.args.work.now c.args.program c.args.operands.now c.in-Some.at c.in-Some.ensures in cc

pub returns-in_err-at : goal.returns-in_err-at
returns-in_err-at c = let e = next_stay c.args.work.now c.args.program c.args.operands.now c.in_default.ensures c.in_err-at.ensures in cc

pub returns : goal.returns
returns c = let e = next_ignored c.args.work.now c.args.program c.args.operands.now c.in_ok-at.at c.in_default.ensures c.in_ok-at.ensures in cc
