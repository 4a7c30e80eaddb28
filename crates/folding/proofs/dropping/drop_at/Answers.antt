-- `dropping::drop_at` meets its contract: those behind the operand are moved down (`Moved`).
use Rattle.folding.specs.Moved.{moved_all}
use Rattle.folding.proofs.dropping.drop_at.Goals as goal

pub returns : goal.returns
returns c = let e = moved_all c.args.operands.now c.args.at c.args.count c.requires.0 c.requires.1 in cc
