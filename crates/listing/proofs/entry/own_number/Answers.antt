-- `own_number` meets its contract: a Program is looked for as one, any other form by its row.
use Rattle.listing.specs.Steps.{own_number}
use Rattle.listed.specs.Likeness.{is_program, is_form}
use Rattle.listed.specs.Entries.{listable_reads}
use Rattle.meaning.proofs.Laws.SearchLaws.{lowest_is}
use Rattle.meaning.specs.Rules.Search.{lowest}
use Rattle.meaning.specs.Rules.Kinds.{program_word}
use Rattle.columns.specs.Columns.{cell, kind_column, datum_column}
use borrow.Author.Tests.{eq-eqb, ne_eqb}
use Prim.Native.Nat.{ℕ}
use mathlib.Core.List.{List}
use mathlib.Core.Path.{◌≡◌, sym, ap, ◌∙◌}
use native.Mathlib.Omega.{arith}
use Rattle.listing.proofs.entry.own_number.Goals as goal

pub lowest_program-requires : goal.lowest_program-requires
lowest_program-requires c = listable_reads c.requires.listable

pub returns-then-kind_in-eq-PROGRAM : goal.returns-then-kind_in-eq-PROGRAM
unfolding own_number
returns-then-kind_in-eq-PROGRAM c =
    let w : List ℕ = c.args.work.now in
    let h : ℕ = c.args.h in
    let n : ℕ = c.args.count in
    let is : c.lowest_program.result ≡ lowest (is_program w (cell w datum_column h)) n = c.lowest_program.ensures ∙ ap (λ (p : ℕ). lowest (is_program w p) n) c.datum_in.ensures in
    record {
      value = is ∙ sym (rw (eq-eqb (cell w kind_column h) program_word (sym c.kind_in.ensures ∙ c.if-kind_in-eq-PROGRAM.true)));
      upper_bound = omega (arith, is, (lowest_is (is_program w (cell w datum_column h)) n).within);
    }

pub returns : goal.returns
unfolding own_number
returns c =
    let w : List ℕ = c.args.work.now in
    let h : ℕ = c.args.h in
    let n : ℕ = c.args.count in
    let ns : List ℕ = c.args.nodes.now in
    let ps : List ℕ = c.args.pool.now in
    record {
      value = c.lowest_form.ensures ∙ sym (rw (ne_eqb (cell w kind_column h) program_word (λ e. c.if-kind_in-eq-PROGRAM.false (c.kind_in.ensures ∙ e))));
      upper_bound = omega (arith, c.lowest_form.ensures, (lowest_is (is_form ns ps w h) n).within);
    }
