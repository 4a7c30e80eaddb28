-- `lut_at` meets its contract: the loop has gathered the row before it (`LutTo`); a failing operand ends it.
use Rattle.std.proofs.Common.{arith}
use Rattle.accepted.proofs.Gathered.{lut_starts, row_small, row_fits, lut_more, lut_fails, lut_done}
use Rattle.steps.proofs.lut_at.Goals as goal

pub loop-i-init : goal.loop-i-init
loop-i-init c = lut_starts c.requires.filled.ready.sound c.requires.logic _ c.requires.n_value _ c.count_of-count.ensures.0

pub returns-in_default : goal.returns-in_default
returns-in_default c = lut_fails c.requires.filled.ready.sound c.requires.logic c.args.bytes.now c.requires.n_value _ _ _ c.loop-i.invariant _ c.loop-i-test.true c.operand_answer-x.ensures _ c.in_default.is

pub overflow_mul-row : goal.overflow_mul-row
overflow_mul-row c = omega (arith, row_small c.requires.filled.ready.sound c.requires.logic c.args.bytes.now c.requires.n_value _ _ _ c.loop-i.invariant)

pub overflow_add-row : goal.overflow_add-row
overflow_add-row c = omega (arith, row_fits c.requires.filled.ready.sound c.requires.logic c.args.bytes.now c.requires.n_value _ _ _ c.loop-i.invariant _ c.loop-i-test.true c.operand_answer-x.ensures _ _ c.in-Value.is)

pub loop-i-preserved : goal.loop-i-preserved
loop-i-preserved c = lut_more c.requires.filled.ready.sound c.requires.logic c.args.bytes.now c.requires.n_value _ _ _ c.loop-i.invariant _ c.loop-i-test.true c.operand_answer-x.ensures _ _ c.in-Value.is

pub row_bit-requires : goal.row_bit-requires
row_bit-requires c = row_small c.requires.filled.ready.sound c.requires.logic c.args.bytes.now c.requires.n_value _ _ _ c.loop-i.invariant

pub returns : goal.returns
returns c = lut_done c.requires.filled.ready.sound c.requires.logic c.args.bytes.now c.requires.n_value _ _ _ c.loop-i.invariant _ _ c.loop-i-test.false c.program_of.ensures c.row_bit.ensures
