use Rattle.std.proofs.Common.{rules, true, false, ◌≡◌}
use Rattle.std.proofs.lemmas.Iterator.{first_from_Range}
use borrow.Author.Tests.{tests}
use Rattle.form_rows.specs.First.{first_in_range}
use Rattle.folding.specs.Folded.{ignored_at}
use Rattle.folding.proofs.dropping.first_ignored.Goals as goal

pub returns : goal.returns
returns c =
    let p = ignored_at c.args.program c.args.count in
    first_in_range p c.args.count c.find.result
    (first_from_Range _ _ _ c.find.result (λ i. p i ≡ true) (λ i. p i ≡ false) c.find.ensures.ran (λ x q k. search (rules, tests)) (λ x q k. search (rules, tests)))
