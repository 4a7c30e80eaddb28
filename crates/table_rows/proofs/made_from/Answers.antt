-- `table_rows::made_from` meets its contract: the loop has made the table of the rows below i, and it has i bits.
use Rattle.std.proofs.Common.{◌≡◌, ◌∙◌, arith}
use Rattle.table_rows.specs.RowLaws.{row_lt, row_added}
use Rattle.table_rows.proofs.made_from.Goals as goal

pub loop-i-preserved : goal.loop-i-preserved
loop-i-preserved t c = (
  rw c.join-made.ensures (row_lt c.args.p c.source.result c.loop-i.i c.bit_at.ensures c.loop-i.invariant.0),
  λ g h. c.join-made.ensures ∙ row_added c.args.p c.source.result c.loop-i.i c.bit_at.ensures
      g (h c.loop-i.i c.source.result (omega arith) c.source.ensures) (c.loop-i.invariant.1 g h),
)

pub returns : goal.returns
returns t c g h =
    let all : c.loop-i.i ≡ c.args.rows = omega arith in
    rw (← all) (c.loop-i.invariant.1 g h)
