-- `table_rows::table_fits` meets its contract: at most six operands have at most 64 rows, so the width test decides.
use Rattle.std.proofs.Common.{◌∙◌}
use Rattle.table_rows.specs.RowLaws.{fits_rows}
use Rattle.table_rows.proofs.table_fits.Goals as goal

pub returns-then-k : goal.returns-then-k
returns-then-k c = c.word_fits.ensures ∙ rw c.power_of_two.ensures (fits_rows c.args.p c.args.k c.if-k.true)
