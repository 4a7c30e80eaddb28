-- `answer_of` meets its contract: arm by arm, each its clause of `step` over the operands' answers.
use Rattle.std.proofs.Common.{refl, sym, ap, ◌∙◌, arith}
use mathlib.Core.Path.{ap₂}
use Rattle.meaning.specs.declared.kinds.Kind.TheVariants.{Nor, And, Xor, Not, Reg, Arg, Cycle}
use Rattle.meaning.specs.Rules.Assignments.{given}
use Rattle.meaning.specs.Rules.Answers.{and_of, nor_of, xor_of, not_of}
use Rattle.accepted.specs.Nodes.{answers_at}
use Rattle.accepted.specs.Operands.{fixed, nor_operands}
use Rattle.accepted.proofs.Operands.{held_operand}
use Rattle.accepted.proofs.Gathered.{answered}
use Rattle.steps.proofs.answer_of.Goals as goal

pub operand_answer-x-requires-clause-operand : goal.operand_answer-x-requires-clause-operand
operand_answer-x-requires-clause-operand c = fixed _ _ c.requires.filled.ready.sound _ c.requires.logic.inside Nor 2 0 (sym c.in-Nor.ensures) (λ c. refl) refl (omega arith)

pub operand_answer-y-requires-clause-operand : goal.operand_answer-y-requires-clause-operand
operand_answer-y-requires-clause-operand c = fixed _ _ c.requires.filled.ready.sound _ c.requires.logic.inside Nor 2 1 (sym c.in-Nor.ensures) (λ c. refl) refl (omega arith)

pub nor_of-requires : goal.nor_of-requires
nor_of-requires c = rw (c.operand_answer-x.ensures, c.operand_answer-y.ensures) (nor_operands _ _ c.requires.filled.ready.sound _ c.requires.logic (given c.args.bytes.now) (sym c.in-Nor.ensures))

pub operand_answer-x-requires-in-And-clause-operand : goal.operand_answer-x-requires-in-And-clause-operand
operand_answer-x-requires-in-And-clause-operand c = fixed _ _ c.requires.filled.ready.sound _ c.requires.logic.inside And 2 0 (sym c.in-And.ensures) (λ c. refl) refl (omega arith)

pub operand_answer-y-requires-in-And-clause-operand : goal.operand_answer-y-requires-in-And-clause-operand
operand_answer-y-requires-in-And-clause-operand c = fixed _ _ c.requires.filled.ready.sound _ c.requires.logic.inside And 2 1 (sym c.in-And.ensures) (λ c. refl) refl (omega arith)

pub operand_answer-x-requires-in-Xor-clause-operand : goal.operand_answer-x-requires-in-Xor-clause-operand
operand_answer-x-requires-in-Xor-clause-operand c = fixed _ _ c.requires.filled.ready.sound _ c.requires.logic.inside Xor 2 0 (sym c.in-Xor.ensures) (λ c. refl) refl (omega arith)

pub operand_answer-y-requires-in-Xor-clause-operand : goal.operand_answer-y-requires-in-Xor-clause-operand
operand_answer-y-requires-in-Xor-clause-operand c = fixed _ _ c.requires.filled.ready.sound _ c.requires.logic.inside Xor 2 1 (sym c.in-Xor.ensures) (λ c. refl) refl (omega arith)

pub operand_answer-requires-clause-operand : goal.operand_answer-requires-clause-operand
operand_answer-requires-clause-operand c = fixed _ _ c.requires.filled.ready.sound _ c.requires.logic.inside Not 1 0 (sym c.in-Not.ensures) (λ c. refl) refl (omega arith)

pub not_of-requires : goal.not_of-requires
not_of-requires c = rw c.operand_answer.ensures (held_operand _ _ c.requires.filled.ready.sound _ c.requires.logic (given c.args.bytes.now) 0 (fixed c.args.nodes.now c.args.pool.now c.requires.filled.ready.sound c.args.n c.requires.logic.inside Not 1 0 (sym c.in-Not.ensures) (λ c. refl) refl (omega arith)))

pub operand_answer-requires-in-Cycle-clause-operand : goal.operand_answer-requires-in-Cycle-clause-operand
operand_answer-requires-in-Cycle-clause-operand c = fixed _ _ c.requires.filled.ready.sound _ c.requires.logic.inside Cycle 1 0 (sym c.in-Cycle.ensures) (λ c. refl) refl (omega arith)

pub returns-in-Const : goal.returns-in-Const
returns-in-Const c = answered c.requires.filled.ready.sound c.requires.logic c.args.bytes.now _ _ refl (c.leaf_of.ensures (answers_at c.args.nodes.now c.args.pool.now (given c.args.bytes.now) c.args.n))

pub returns-in-Nor : goal.returns-in-Nor
returns-in-Nor c = answered c.requires.filled.ready.sound c.requires.logic c.args.bytes.now Nor _ (sym c.in-Nor.ensures) (c.nor_of.ensures ∙ ap₂ nor_of c.operand_answer-x.ensures c.operand_answer-y.ensures)

pub returns-in-And : goal.returns-in-And
returns-in-And c = answered c.requires.filled.ready.sound c.requires.logic c.args.bytes.now And _ (sym c.in-And.ensures) (c.and_of.ensures ∙ ap₂ and_of c.operand_answer-x-in-And.ensures c.operand_answer-y-in-And.ensures)

pub returns-in-Xor : goal.returns-in-Xor
returns-in-Xor c = answered c.requires.filled.ready.sound c.requires.logic c.args.bytes.now Xor _ (sym c.in-Xor.ensures) (c.xor_of.ensures ∙ ap₂ xor_of c.operand_answer-x-in-Xor.ensures c.operand_answer-y-in-Xor.ensures)

pub returns-in-Not : goal.returns-in-Not
returns-in-Not c = answered c.requires.filled.ready.sound c.requires.logic c.args.bytes.now Not _ (sym c.in-Not.ensures) (c.not_of.ensures ∙ ap not_of c.operand_answer.ensures)

pub returns-in-Reg : goal.returns-in-Reg
returns-in-Reg c = answered c.requires.filled.ready.sound c.requires.logic c.args.bytes.now Reg _ (sym c.in-Reg.ensures) refl

pub returns-in-Arg : goal.returns-in-Arg
returns-in-Arg c = answered c.requires.filled.ready.sound c.requires.logic c.args.bytes.now Arg _ (sym c.in-Arg.ensures) refl

pub returns-in-Cycle : goal.returns-in-Cycle
returns-in-Cycle c = answered c.requires.filled.ready.sound c.requires.logic c.args.bytes.now Cycle _ (sym c.in-Cycle.ensures) c.operand_answer-in-Cycle.ensures
