-- `kid` meets its contract: a Lut's operand from its column, any other child's home by the given list.
use Rattle.std.proofs.Common.{ℕ, ◌+◌, ◌*◌, ◌<◌, ◌≤◌, ◌≢◌, List, length, get_or, sym, ◌∙◌, arith}
use borrow.Author.Tests.{eq-eqb, ne_eqb}
use Rattle.meaning.specs.Rules.Limits.{work_per_node}
use Rattle.meaning.specs.Rules.Kinds.{lut_word}
use Rattle.meaning.specs.Rules.Trees.{node_count, children_at}
use Rattle.columns.specs.Columns.{cell, kind_column, count_column}
use Rattle.form_rows.specs.Forms.{Home, FormAt, Formed, kid_at}
use Rattle.lists.specs.Laid.{part_fits}
use Rattle.form_rows.proofs.kid.Goals as goal

module _ {ns ps work : List ℕ} {h : ℕ} (formed : Formed ns ps work (node_count ns)) (home : Home ns ps work h) where
  form : FormAt ns ps work h
  form = formed.forms h home.inside home

  -- child j is one that the given list has, and has a row
  there : (j : ℕ) → cell work kind_column h ≢ lut_word → j < cell work count_column h → j < length (children_at ns ps h)
  there j k l = omega (arith, form.given k)

  row : (j : ℕ) → j < length (children_at ns ps h) → work_per_node * get_or (children_at ns ps h) j 0 + work_per_node ≤ length work
  row j l = omega (arith, (formed.sound.0 h home.inside).2 j l, formed.room, home.inside)

pub returns-then-kind_in-eq-LUT : goal.returns-then-kind_in-eq-LUT
unfolding kid_at
returns-then-kind_in-eq-LUT c = rw (eq-eqb (cell c.args.work.now kind_column c.args.h) lut_word (sym c.kind_in.ensures ∙ c.if-kind_in-eq-LUT.true)) c.get.ensures

pub children_of-children-requires-clause-part_fits : goal.children_of-children-requires-clause-part_fits
children_of-children-requires-clause-part_fits c = part_fits c.args.nodes.now c.args.pool.now c.args.h (c.requires.formed.sound.0 c.args.h c.requires.home.inside)

pub home_of-requires : goal.home_of-requires
home_of-requires c =
    let lt = there c.requires.formed c.requires.home c.args.j (λ e. c.if-kind_in-eq-LUT.false (c.kind_in.ensures ∙ e)) c.requires.j_bound in
    rw (c.wide.ensures.0, c.children_of-children.ensures) (row c.requires.formed c.requires.home c.args.j lt)

pub returns : goal.returns
unfolding kid_at
returns c =
    rw (ne_eqb (cell c.args.work.now kind_column c.args.h) lut_word (λ e. c.if-kind_in-eq-LUT.false (c.kind_in.ensures ∙ e)), ← c.children_of-children.ensures, ← c.wide.ensures.0)
    c.home_of.ensures
