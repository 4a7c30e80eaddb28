-- `put_input_set` meets its contract: all numbers are tried (`all_tried`).
use Rattle.std.proofs.Common.{◌∙◌, arith}
use Rattle.meaning.specs.Rules.Trees.{root_of}
use Rattle.inputs.specs.Inputs.{all_tried}
use Rattle.inputs.proofs.put_input_set.Goals as goal

pub returns-clause-variables_after : goal.returns-clause-variables_after
returns-clause-variables_after c = c.loop-v.invariant.kept ∙ all_tried (root_of c.args.nodes.now c.args.pool.now) c.loop-v.v (omega arith)
