-- `table_rows::ignores` meets its contract: both cofactors are the same exactly when no pair differs.
use Rattle.table_rows.specs.RowLaws.{ignores_is}
use Rattle.table_rows.proofs.ignores.Goals as goal

pub returns : goal.returns
returns c = rw (c.cofactor.ensures, c.cofactor-2.ensures) (ignores_is c.args.p c.args.k c.args.q)
