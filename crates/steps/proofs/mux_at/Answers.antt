-- `mux_at` meets its contract: the selector's failure, or the arm that it chooses.
use Rattle.accepted.proofs.Gathered.{mux_selector, mux_takes, mux_fails, mux_chooses}
use Rattle.steps.proofs.mux_at.Goals as goal

pub operand_answer-selector-requires-clause-operand : goal.operand_answer-selector-requires-clause-operand
operand_answer-selector-requires-clause-operand c = mux_selector c.requires.filled.ready.sound c.requires.logic c.args.bytes.now c.requires.n_value

pub returns-in_default : goal.returns-in_default
returns-in_default c = mux_fails c.requires.filled.ready.sound c.requires.logic c.args.bytes.now c.requires.n_value _ _ c.operand_answer-selector.ensures c.in_default.is

pub operand_answer-requires-clause-operand : goal.operand_answer-requires-clause-operand
operand_answer-requires-clause-operand c = mux_takes c.requires.filled.ready.sound c.requires.logic c.args.bytes.now c.requires.n_value _ _ c.arm_of.ensures

pub returns : goal.returns
returns c = mux_chooses c.requires.filled.ready.sound c.requires.logic c.args.bytes.now c.requires.n_value _ _ _ _ _ c.operand_answer-selector.ensures c.in-Value.is c.arm_of.ensures c.operand_answer.ensures
