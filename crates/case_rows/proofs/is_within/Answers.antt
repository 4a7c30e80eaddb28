-- `is_within` meets its contract: the words side by side with the largest.
use Rattle.std.proofs.Common.{rules, ◌∙◌}
use Rattle.std.specs.Prelude.{leb}
use Rattle.std.proofs.lemmas.Iterator.{YieldsList-from_slice, YieldsList-from_zip}
use Rattle.std.proofs.lemmas.Iterator.Search.{all_from_yields_List}
use Rattle.case_rows.specs.CaseRows.{within_zip}
use Rattle.case_rows.proofs.is_within.Goals as goal

pub returns : goal.returns
returns c =
    let words = YieldsList-from_slice {s = c.zip.result.a} c.args.row.now (cc) in
    let most = YieldsList-from_slice {s = c.zip.result.b} c.args.largest.now (cc) in
    all_from_yields_List (λ p. leb p.0 p.1) c.all.new.self _ _ c.all.ensures.ran (YieldsList-from_zip {s = c.zip.result} words most) (λ x b q k. search rules)
    ∙ within_zip c.args.row.now c.args.largest.now c.requires
