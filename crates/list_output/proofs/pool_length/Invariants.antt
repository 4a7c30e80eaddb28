-- `pool_length` meets its contract: the loop has counted the children of the entries below it.
use Rattle.std.proofs.Common.{◌≡◌}
use Rattle.list_output.specs.Words.{pool_size}
use Rattle.list_output.proofs.pool_length.Given as goal

abbrev pub invariant-loop-k : goal.invariant-loop-k
invariant-loop-k l = l.at ≡ pool_size l.work l.k
