-- `eval_rec` and the four functions beside it meet their contracts: each descends to a lower number, and each arm is its clause
-- of `step`.
use Rattle.std.proofs.Common.{refl, sym, ap, ◌∙◌, arith, ⊎_elim}
use mathlib.Core.Path.{ap₂}
use Rattle.meaning.specs.declared.kinds.Kind.TheVariants.{Nor, And, Xor, Not, Reg, Arg, Cycle}
use Rattle.meaning.specs.Rules.Answers.{and_of, nor_of, xor_of, not_of}
use Rattle.meaning.specs.Rules.Assignments.{given}
use Rattle.accepted.specs.Nodes.{answers_at}
use Rattle.accepted.specs.Operands.{fixed, two_takes, nor_operands}
use Rattle.accepted.proofs.Operands.{held_operand}
use Rattle.accepted.proofs.Gathered.{answered, mux_selector, mux_takes, mux_fails, mux_chooses, lut_starts, row_small, row_fits, lut_more, lut_fails, lut_done, bus_starts, member_bit, members_more, bus_ends}
use Rattle.plain.proofs.+eval.Goals as goal

-- ---- Bus: member by member
pub eval_bus-loop-i-init : goal.eval_bus-loop-i-init
eval_bus-loop-i-init t c = bus_starts c.requires.sound c.requires.logic _ c.requires.n_value _ c.count_of-count.ensures.0

pub eval_bus-bus_step-bus-requires-clause-held_2 : goal.eval_bus-bus_step-bus-requires-clause-held_2
eval_bus-bus_step-bus-requires-clause-held_2 t c =
    member_bit c.requires.sound c.requires.logic c.args.bytes.now c.requires.n_value _ _ _ c.loop-i.invariant _ c.loop-i-test.true
    (c.eval_rec-x.ensures ∙ c.operand.ensures.read (given c.args.bytes.now))

pub eval_bus-loop-i-preserved : goal.eval_bus-loop-i-preserved
eval_bus-loop-i-preserved t c =
    members_more c.requires.sound c.requires.logic c.args.bytes.now c.requires.n_value _ _ _ c.loop-i.invariant _ c.loop-i-test.true
    (c.eval_rec-x.ensures ∙ c.operand.ensures.read (given c.args.bytes.now)) _ c.bus_step-bus.ensures

pub eval_bus-returns : goal.eval_bus-returns
eval_bus-returns t c = bus_ends c.requires.sound c.requires.logic c.args.bytes.now c.requires.n_value _ _ _ c.loop-i.invariant c.loop-i-test.false

-- ---- Nor, And and Xor: two operands
pub eval_gate-operand-requires-clause-operand : goal.eval_gate-operand-requires-clause-operand
eval_gate-operand-requires-clause-operand t c = two_takes _ _ c.requires.sound _ c.requires.logic.inside c.requires.two_operands 0 (omega arith)

pub eval_gate-operand-requires-2-clause-operand : goal.eval_gate-operand-requires-2-clause-operand
eval_gate-operand-requires-2-clause-operand t c = two_takes _ _ c.requires.sound _ c.requires.logic.inside c.requires.two_operands 1 (omega arith)

pub eval_gate-nor_of-requires : goal.eval_gate-nor_of-requires
eval_gate-nor_of-requires t c =
    let α = given c.args.bytes.now in
    rw (c.eval_rec-x.ensures ∙ c.operand.ensures.read α, c.eval_rec-y.ensures ∙ c.operand-2.ensures.read α)
    (nor_operands _ _ c.requires.sound _ c.requires.logic α (sym c.in-Nor.ensures))

pub eval_gate-returns-in-Nor : goal.eval_gate-returns-in-Nor
eval_gate-returns-in-Nor t c =
    let α = given c.args.bytes.now in
    answered c.requires.sound c.requires.logic c.args.bytes.now Nor _ (sym c.in-Nor.ensures)
    (c.nor_of.ensures ∙ ap₂ nor_of (c.eval_rec-x.ensures ∙ c.operand.ensures.read α) (c.eval_rec-y.ensures ∙ c.operand-2.ensures.read α))

pub eval_gate-returns-in-And : goal.eval_gate-returns-in-And
eval_gate-returns-in-And t c =
    let α = given c.args.bytes.now in
    answered c.requires.sound c.requires.logic c.args.bytes.now And _ (sym c.in-And.ensures)
    (c.and_of.ensures ∙ ap₂ and_of (c.eval_rec-x.ensures ∙ c.operand.ensures.read α) (c.eval_rec-y.ensures ∙ c.operand-2.ensures.read α))

pub eval_gate-returns-in_default : goal.eval_gate-returns-in_default
eval_gate-returns-in_default t c =
    let α = given c.args.bytes.now in
    let kind = ⊎_elim (λ e. absurd (c.in_default.not-Nor (c.kind_of.ensures ∙ e))) (⊎_elim (λ e. absurd (c.in_default.not-And (c.kind_of.ensures ∙ e))) (λ e. e)) c.requires.two_operands in
    answered c.requires.sound c.requires.logic c.args.bytes.now Xor _ kind
    (c.xor_of.ensures ∙ ap₂ xor_of (c.eval_rec-x.ensures ∙ c.operand.ensures.read α) (c.eval_rec-y.ensures ∙ c.operand-2.ensures.read α))

-- ---- Lut: operand by operand, then a row of its program
pub eval_lut-loop-i-init : goal.eval_lut-loop-i-init
eval_lut-loop-i-init t c = lut_starts c.requires.sound c.requires.logic _ c.requires.n_value _ c.count_of-count.ensures.0

pub eval_lut-returns-in_default : goal.eval_lut-returns-in_default
eval_lut-returns-in_default t c =
    lut_fails c.requires.sound c.requires.logic c.args.bytes.now c.requires.n_value _ _ _ c.loop-i.invariant _ c.loop-i-test.true
    (c.eval_rec-x.ensures ∙ c.operand.ensures.read (given c.args.bytes.now)) _ c.in_default.is

pub eval_lut-overflow_mul-row : goal.eval_lut-overflow_mul-row
eval_lut-overflow_mul-row t c = omega (arith, row_small c.requires.sound c.requires.logic c.args.bytes.now c.requires.n_value _ _ _ c.loop-i.invariant)

pub eval_lut-overflow_add-row : goal.eval_lut-overflow_add-row
eval_lut-overflow_add-row t c =
    omega (
      arith,
      row_fits c.requires.sound c.requires.logic c.args.bytes.now c.requires.n_value _ _ _ c.loop-i.invariant _ c.loop-i-test.true
          (c.eval_rec-x.ensures ∙ c.operand.ensures.read (given c.args.bytes.now)) _ _ c.in-Value.is,
    )

pub eval_lut-loop-i-preserved : goal.eval_lut-loop-i-preserved
eval_lut-loop-i-preserved t c =
    lut_more c.requires.sound c.requires.logic c.args.bytes.now c.requires.n_value _ _ _ c.loop-i.invariant _ c.loop-i-test.true
    (c.eval_rec-x.ensures ∙ c.operand.ensures.read (given c.args.bytes.now)) _ _ c.in-Value.is

pub eval_lut-row_bit-requires : goal.eval_lut-row_bit-requires
eval_lut-row_bit-requires t c = row_small c.requires.sound c.requires.logic c.args.bytes.now c.requires.n_value _ _ _ c.loop-i.invariant

pub eval_lut-returns : goal.eval_lut-returns
eval_lut-returns t c =
    lut_done c.requires.sound c.requires.logic c.args.bytes.now c.requires.n_value _ _ _ c.loop-i.invariant _ _ c.loop-i-test.false
    c.program_of.ensures c.row_bit.ensures

-- ---- Mux: the selector, then one arm
pub eval_mux-operand-requires-clause-operand : goal.eval_mux-operand-requires-clause-operand
eval_mux-operand-requires-clause-operand t c = mux_selector c.requires.sound c.requires.logic c.args.bytes.now c.requires.n_value

pub eval_mux-returns-in_default : goal.eval_mux-returns-in_default
eval_mux-returns-in_default t c =
    mux_fails c.requires.sound c.requires.logic c.args.bytes.now c.requires.n_value _ _
    (c.eval_rec-selector.ensures ∙ c.operand.ensures.read (given c.args.bytes.now)) c.in_default.is

pub eval_mux-operand-requires-2-clause-operand : goal.eval_mux-operand-requires-2-clause-operand
eval_mux-operand-requires-2-clause-operand t c = mux_takes c.requires.sound c.requires.logic c.args.bytes.now c.requires.n_value _ _ c.arm_of.ensures

pub eval_mux-returns : goal.eval_mux-returns
eval_mux-returns t c =
    let α = given c.args.bytes.now in
    mux_chooses c.requires.sound c.requires.logic c.args.bytes.now c.requires.n_value _ _ _ _ _ (c.eval_rec-selector.ensures ∙ c.operand.ensures.read α)
    c.in-Value.is c.arm_of.ensures (c.eval_rec.ensures ∙ c.operand-2.ensures.read α)

-- ---- every kind
pub eval_rec-operand-requires-clause-operand : goal.eval_rec-operand-requires-clause-operand
eval_rec-operand-requires-clause-operand t c = fixed _ _ c.requires.sound _ c.requires.logic.inside Not 1 0 (sym c.in-Not.ensures) (λ c. refl) refl (omega arith)

pub eval_rec-not_of-requires : goal.eval_rec-not_of-requires
eval_rec-not_of-requires t c =
    let α = given c.args.bytes.now in
    let taken = fixed c.args.nodes.now c.args.pool.now c.requires.sound c.args.n c.requires.logic.inside Not 1 0 (sym c.in-Not.ensures) (λ c. refl) refl (omega arith) in
    rw (c.eval_rec.ensures ∙ c.operand.ensures.read α) (held_operand _ _ c.requires.sound _ c.requires.logic α 0 taken)

pub eval_rec-operand-requires-in-Cycle-clause-operand : goal.eval_rec-operand-requires-in-Cycle-clause-operand
eval_rec-operand-requires-in-Cycle-clause-operand t c =
    fixed _ _ c.requires.sound _ c.requires.logic.inside Cycle 1 0 (sym c.in-Cycle.ensures) (λ c. refl) refl (omega arith)

pub eval_rec-returns-in-Const : goal.eval_rec-returns-in-Const
eval_rec-returns-in-Const t c =
    answered c.requires.sound c.requires.logic c.args.bytes.now _ _ refl
    (c.leaf_of.ensures (answers_at c.args.nodes.now c.args.pool.now (given c.args.bytes.now) c.args.n))

pub eval_rec-returns-in-Not : goal.eval_rec-returns-in-Not
eval_rec-returns-in-Not t c =
    answered c.requires.sound c.requires.logic c.args.bytes.now Not _ (sym c.in-Not.ensures)
    (c.not_of.ensures ∙ ap not_of (c.eval_rec.ensures ∙ c.operand.ensures.read (given c.args.bytes.now)))

pub eval_rec-returns-in-Reg : goal.eval_rec-returns-in-Reg
eval_rec-returns-in-Reg t c = answered c.requires.sound c.requires.logic c.args.bytes.now Reg _ (sym c.in-Reg.ensures) refl

pub eval_rec-returns-in-Arg : goal.eval_rec-returns-in-Arg
eval_rec-returns-in-Arg t c = answered c.requires.sound c.requires.logic c.args.bytes.now Arg _ (sym c.in-Arg.ensures) refl

pub eval_rec-returns-in-Cycle : goal.eval_rec-returns-in-Cycle
eval_rec-returns-in-Cycle t c =
    answered c.requires.sound c.requires.logic c.args.bytes.now Cycle _ (sym c.in-Cycle.ensures)
    (c.eval_rec-in-Cycle.ensures ∙ c.operand-in-Cycle.ensures.read (given c.args.bytes.now))
