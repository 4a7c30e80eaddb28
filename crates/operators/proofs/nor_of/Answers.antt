-- `nor_of` meets its contract: the And of the complements, by De Morgan (`nor_is`).
use Rattle.operators.specs.Widths.{nor_is}
use Rattle.operators.proofs.nor_of.Goals as goal

pub returns : goal.returns
returns c = cc (nor_is c.args.x c.args.y c.requires)
