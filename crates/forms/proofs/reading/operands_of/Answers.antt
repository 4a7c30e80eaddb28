-- `reading::operands_of` meets its contract: a Lut that was accepted has a first child.
use Rattle.std.proofs.Common.{ℕ, List, ◌-◌, ◌<◌, ◌≡◌, sym, ap, ◌∙◌, length, drop, arith, length-drop}
use lib.Seq.{take_all}
use borrow.Author.Tests.{eq-eqb, ne_eqb}
use Rattle.meaning.specs.Rules.Trees.{node_count, kind_at, children_at}
use Rattle.meaning.specs.Rules.Kinds.{lut_word}
use Rattle.meaning.specs.Rules.Reach.{mark_of}
use Rattle.meaning.specs.Claims.Column.{Sound}
use Rattle.accepted.specs.Operands.{lut_children}
use Rattle.forms.specs.Operands.{operands_at, lut_logic, lut_kind, no_lut_kind}
use Rattle.forms.proofs.reading.operands_of.Goals as goal

some : (ns ps : List ℕ) (i : ℕ) → Sound ns ps → i < node_count ns → 0 < mark_of ns ps i → kind_at ns i ≡ lut_word → 0 < length (children_at ns ps i)
some ns ps i s inside marked is = (lut_children ns ps s i (lut_logic ns ps i inside marked is) is).some

pub slice_bounds-result-count : goal.slice_bounds-result-count
slice_bounds-result-count c =
    let more = some c.args.nodes.now c.args.pool.now c.args.i c.requires.sound c.requires.i_bound c.requires.i_nonzero (lut_kind _ (sym c.kind_of.ensures ∙ c.in-Lut.is)) in
    omega (arith, more, ap length c.children_of-children.ensures)

pub slice_bounds-result-start : goal.slice_bounds-result-start
slice_bounds-result-start c =
    let more = some c.args.nodes.now c.args.pool.now c.args.i c.requires.sound c.requires.i_bound c.requires.i_nonzero (lut_kind _ (sym c.kind_of.ensures ∙ c.in-Lut.is)) in
    omega (arith, more, ap length c.children_of-children.ensures)

pub returns-in-Lut : goal.returns-in-Lut
unfolding operands_at
returns-in-Lut c =
    let cs : List ℕ = c.children_of-children.result.now in
    rw (eq-eqb (kind_at c.args.nodes.now c.args.i) lut_word (lut_kind _ (sym c.kind_of.ensures ∙ c.in-Lut.is)))
    (take_all (length cs - 1) (drop 1 cs) (omega (arith, length-drop 1 cs)) ∙ ap (drop 1) c.children_of-children.ensures)

pub returns-in_default : goal.returns-in_default
unfolding operands_at
returns-in_default c =
    rw (ne_eqb (kind_at c.args.nodes.now c.args.i) lut_word (no_lut_kind _ (λ e. c.in_default.not-Lut (c.kind_of.ensures ∙ e)))) c.children_of-children.ensures
