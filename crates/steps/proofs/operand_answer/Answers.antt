-- `operand_answer` meets its contract: the row of a lower node that has an answer shows it.
use Rattle.rows.specs.Rows.{row_shape, row_wide, row_answer}
use Rattle.meaning.specs.Rules.Evaluable.{shape}
use Rattle.meaning.specs.Rules.Trees.{tree_of}
use Rattle.meaning.specs.Rules.Assignments.{given}
use mathlib.Core.Path.{◌∙◌}
use Rattle.steps.proofs.operand_answer.Goals as goal

pub answer_at-requires-clause-wide : goal.answer_at-requires-clause-wide
answer_at-requires-clause-wide c = row_wide c.args.nodes.now c.args.pool.now (given c.args.bytes.now) c.args.base c.args.work.now c.args.n c.requires.filled c.operand.result c.operand.ensures.below c.operand.ensures.logic c.operand.ensures.shaped

pub returns : goal.returns
returns c =
    let α = given c.args.bytes.now in
    c.answer_at.ensures (shape (tree_of c.args.nodes.now c.args.pool.now c.operand.result)) (row_shape c.args.nodes.now c.args.pool.now α c.args.base c.args.work.now c.args.n c.requires.filled c.operand.result c.operand.ensures.below c.operand.ensures.logic c.operand.ensures.shaped) ∙ row_answer c.args.nodes.now c.args.pool.now α c.args.base c.args.work.now c.args.n c.requires.filled c.operand.result c.operand.ensures.below c.operand.ensures.logic c.operand.ensures.shaped ∙ c.operand.ensures.read α
