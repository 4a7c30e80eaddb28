-- `next_case_row` meets its contract: what `next_row` reads, and a row that is whole looked through.
use Rattle.std.proofs.Common.{rules, ◌≡◌, length, sym, ◌∙◌, true, false, None, Some, Ok, Err}
use Rattle.decimals.specs.RowLaws.{row_ahead}
use Rattle.case_rows.specs.CaseRows.{case_row_is, case_row_bad, case_row_whole, within}
use Rattle.case_rows.proofs.next_case_row.Goals as goal

pub returns-in_err-next-clause-value : goal.returns-in_err-next-clause-value
returns-in_err-next-clause-value c =
    let failed : c.from_residual.result ≡ Err c.in_err-next.field-0.0 = search rules in
    let w : c.next_row.result ≡ Err c.in_err-next.field-0.0 = cc in
    failed ∙ sym (case_row_is c.args.text.now c.args.at c.args.row.now c.args.largest.now (Err c.in_err-next.field-0.0) (sym c.next_row.ensures.value ∙ w))

pub returns-in_default-clause-value : goal.returns-in_default-clause-value
returns-in_default-clause-value c =
    let none : c.in_ok-next.field-0 ≡ None = search rules in
    let w : c.next_row.result ≡ Ok None = cc in
    sym (case_row_is c.args.text.now c.args.at c.args.row.now c.args.largest.now (Ok None) (sym c.next_row.ensures.value ∙ w))

pub returns-then-not-is_within-clause-value : goal.returns-then-not-is_within-clause-value
returns-then-not-is_within-clause-value c =
    let e : within c.next_row.new.row c.args.largest.now ≡ false = search rules in
    let w : c.next_row.result ≡ Ok (Some c.in-Some.next) = cc in
    sym (case_row_bad c.args.text.now c.args.at c.args.row.now c.args.largest.now c.next_row.new.row c.in-Some.next (sym c.next_row.ensures.value ∙ w) c.next_row.ensures.row_after e)

pub returns-clause-value : goal.returns-clause-value
returns-clause-value c =
    let e : within c.next_row.new.row c.args.largest.now ≡ true = search rules in
    let w : c.next_row.result ≡ Ok (Some c.in-Some.next) = cc in
    sym (case_row_whole c.args.text.now c.args.at c.args.row.now c.args.largest.now c.next_row.new.row c.in-Some.next (sym c.next_row.ensures.value ∙ w) c.next_row.ensures.row_after e)

pub returns-clause-gets_on : goal.returns-clause-gets_on
returns-clause-gets_on c l =
    let w : c.next_row.result ≡ Ok (Some c.in-Some.next) = cc in
    row_ahead c.args.text.now c.args.at (length c.args.row.now) c.in-Some.next l (sym c.next_row.ensures.value ∙ w)
