-- `operand` meets its contract: the child is there, since it is an operand (`child_of`).
use Rattle.accepted.proofs.Operands.{child_of}
use Rattle.accepted.proofs.operand.Goals as goal

pub returns : goal.returns
returns c = child_of c.args.nodes.now c.args.pool.now c.requires.sound c.args.n c.requires.logic c.args.i c.wide.result c.requires.operand (rw (← c.children_of-children.ensures) c.wide.ensures.0)
