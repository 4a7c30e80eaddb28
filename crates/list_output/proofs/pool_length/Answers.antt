-- `pool_length` meets its contract: the loop has counted the children of the entries below it.
use Rattle.std.proofs.Common.{sym, arith}
use Rattle.listed.specs.Entries.{listed_at}
use Rattle.list_output.specs.Sizes.{child_few, size_none, size_next, size_small}
use Rattle.list_output.proofs.pool_length.Goals as goal

pub loop-k-init : goal.loop-k-init
loop-k-init c = sym (size_none c.args.work.now)

pub overflow_add-at : goal.overflow_add-at
overflow_add-at c =
    let few = rw (← c.listed_at.ensures) at (child_few c.args.work.now (listed_at c.args.work.now c.loop-k.k) (c.requires.rows.few c.loop-k.k (omega arith))) in
    record { fits = omega (arith, few, size_small c.args.work.now c.requires.rows c.loop-k.k (omega arith)) }

pub loop-k-preserved : goal.loop-k-preserved
loop-k-preserved c = let next = size_next c.args.work.now c.loop-k.k in cc
