-- `write_program` meets its contract: a Lut's Program has one number.
use Rattle.std.proofs.Common.{sym, ap, ◌∙◌, set, arith}
use borrow.Author.Tests.{eq-eqb, ne_eqb}
use Rattle.meaning.specs.Rules.Kinds.{lut_word}
use Rattle.columns.specs.Columns.{cell, kind_column}
use Rattle.list_output.specs.Sizes.{program_lut}
use Rattle.list_output.specs.Words.{program_part}
use Rattle.list_output.proofs.part.write_program.Goals as goal

pub bounds-out-at : goal.bounds-out-at
bounds-out-at c = omega (arith, program_lut c.args.work.now c.args.h (sym c.kind_in.ensures ∙ c.if-kind_in-eq-LUT.true))

pub returns-then-kind_in-eq-LUT : goal.returns-then-kind_in-eq-LUT
unfolding program_part
returns-then-kind_in-eq-LUT c =
    rw (eq-eqb (cell c.args.work.now kind_column c.args.h) lut_word (sym c.kind_in.ensures ∙ c.if-kind_in-eq-LUT.true)) (ap (set c.args.out.now c.args.at) c.get.ensures)

pub returns-else-kind_in-eq-LUT : goal.returns-else-kind_in-eq-LUT
unfolding program_part
returns-else-kind_in-eq-LUT c =
    sym (rw (ne_eqb (cell c.args.work.now kind_column c.args.h) lut_word (λ e. c.if-kind_in-eq-LUT.false (c.kind_in.ensures ∙ e))))
