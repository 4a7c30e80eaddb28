-- `list_program` meets its contract: the Program of a Lut is listed and its number kept.
use Rattle.listing.specs.Steps.{lut_work, lut_count, program_number}
use Rattle.listing.specs.More.{kept_work, kept_count}
use Rattle.listed.specs.Likeness.{is_program}
use lib.ListN.{set}
use Rattle.columns.specs.Columns.{program_column, cell, place, kind_column}
use Rattle.meaning.specs.Rules.Search.{lowest}
use Rattle.meaning.specs.Rules.Kinds.{lut_word}
use borrow.Author.Tests.{eq-eqb, ne_eqb}
use Prim.Native.Nat.{ℕ, ◌+◌, ◌*◌}
use mathlib.Core.List.{List}
use mathlib.Core.Path.{◌≡◌, sym, ap, ◌∙◌}
use Rattle.listing.proofs.entry.list_program.Goals as goal

pub returns-then-kind_in-ne-LUT : goal.returns-then-kind_in-ne-LUT
unfolding lut_work lut_count
returns-then-kind_in-ne-LUT c =
    let w : List ℕ = c.args.work.now in
    let h : ℕ = c.args.h in
    let n : ℕ = c.args.count in
    let e = ne_eqb (cell w kind_column h) lut_word (λ q. c.if-kind_in-ne-LUT.true (c.kind_in.ensures ∙ q)) in
    record {
      value = sym (rw e);
      work_after = sym (rw e);
    }

pub returns : goal.returns
unfolding lut_work lut_count
returns c =
    let w : List ℕ = c.args.work.now in
    let h : ℕ = c.args.h in
    let n : ℕ = c.args.count in
    let e = eq-eqb (cell w kind_column h) lut_word (sym c.kind_in.ensures ∙ c.if-kind_in-ne-LUT.false) in
    let is : c.lowest_program-number.result ≡ program_number w n h = c.lowest_program-number.ensures ∙ ap (λ (p : ℕ). lowest (is_program w p) n) c.datum_in.ensures in
    record {
      value = c.list_entry-listed.ensures.value ∙ ap (λ (k : ℕ). kept_count k n) is ∙ sym (rw e);
      work_after = c.put.ensures ∙ ap (λ (l : List ℕ). set l (place program_column h) c.lowest_program-number.result) c.list_entry-listed.ensures.work_after ∙ ap (λ (k : ℕ). set (kept_work w k n (2 * h + 1)) (place program_column h) k) is ∙ sym (rw e);
    }
