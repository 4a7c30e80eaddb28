-- `lowest_form` meets its contract: no entry before the one found is the form.
use Rattle.std.proofs.Common.{rules, true, false, ◌≡◌, ◌∙◌}
use Rattle.std.proofs.lemmas.Iterator.{first_from_Range}
use borrow.Author.Tests.{tests}
use Rattle.form_rows.specs.First.{lowest_in_range}
use Rattle.listed.specs.Likeness.{is_form}
use Rattle.listed.proofs.lowest_form.Goals as goal

pub returns : goal.returns
returns c =
    let p = is_form c.args.nodes.now c.args.pool.now c.args.work.now c.args.h in
    c.unwrap_or.ensures ∙ lowest_in_range p c.args.count c.find.result
    (first_from_Range _ _ _ c.find.result (λ k. p k ≡ true) (λ k. p k ≡ false) c.find.ensures.ran (λ x q k. search (rules, tests)) (λ x q k. search (rules, tests)))
