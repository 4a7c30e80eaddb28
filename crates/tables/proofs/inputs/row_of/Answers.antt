-- `tables::inputs::row_of` meets its contract: the bytes, folded in the order of reading, are the row.
use Rattle.std.proofs.Common.{◌≡◌, ◌∙◌, rules, reverse, true, false}
use Rattle.std.specs.List.{fold}
use Rattle.tables.specs.Inputs.{shifted_in, row_read}
use Rattle.tables.proofs.inputs.row_of.Goals as goal

pub returns-then-forward : goal.returns-then-forward
returns-then-forward c =
    let folded : c.fold.result ≡ fold shifted_in 0 c.args.inputs.now = search rules in
    rw c.if-forward.true (folded ∙ row_read true c.args.inputs.now c.requires)

pub returns-else-forward : goal.returns-else-forward
returns-else-forward c =
    let folded : c.fold-else-forward.result ≡ fold shifted_in 0 (reverse c.args.inputs.now) = search rules in
    rw c.if-forward.false (folded ∙ row_read false c.args.inputs.now c.requires)
