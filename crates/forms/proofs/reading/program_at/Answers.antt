-- `reading::program_at` meets its contract: a Lut brings its program, a gate has that of its kind.
use Rattle.std.proofs.Common.{sym, ap, ◌∙◌}
use borrow.Author.Tests.{eq-eqb, ne_eqb}
use Rattle.meaning.specs.Rules.Trees.{kind_at}
use Rattle.meaning.specs.Rules.Kinds.{lut_word}
use Rattle.forms.specs.Operands.{program_at, gate_program, lut_kind, no_lut_kind}
use Rattle.forms.proofs.reading.program_at.Goals as goal

pub returns-in-Lut : goal.returns-in-Lut
unfolding program_at
returns-in-Lut c = rw (eq-eqb (kind_at c.args.nodes.now c.args.i) lut_word (lut_kind _ (sym c.kind_of.ensures ∙ c.in-Lut.is))) c.program_of.ensures

pub returns-in_default : goal.returns-in_default
unfolding program_at
returns-in_default c =
    rw (ne_eqb (kind_at c.args.nodes.now c.args.i) lut_word (no_lut_kind _ (λ e. c.in_default.not-Lut (c.kind_of.ensures ∙ e))))
    (c.gate_program.ensures ∙ ap gate_program c.kind_of.ensures)
