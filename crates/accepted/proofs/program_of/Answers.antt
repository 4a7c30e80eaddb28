-- `program_of` meets its contract: a Lut that was accepted has a first child, and it is a Program.
use Rattle.accepted.specs.Operands.{lut_children}
use Rattle.accepted.proofs.program_of.Goals as goal

pub bounds-children-0 : goal.bounds-children-0
bounds-children-0 c = rw c.children_of-children.ensures (lut_children c.args.nodes.now c.args.pool.now c.requires.sound c.args.n c.requires.logic c.requires.n_value).some
