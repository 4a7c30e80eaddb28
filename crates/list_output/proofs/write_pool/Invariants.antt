-- `write_pool` meets its contract: the loop has stored the parts of the entries below it.
use Rattle.std.proofs.Common.{◌≡◌, length}
use Rattle.std.proofs.lemmas.List.Edits.{sets}
use Rattle.list_output.specs.Words.{pool_size, row_pool}
use Rattle.list_output.proofs.write_pool.Given as goal

abbrev pub invariant-loop-k : goal.invariant-loop-k
invariant-loop-k l = (l.at ≡ pool_size l.work l.k) × (length l.out ≡ length l.initial.out) × (l.out ≡ sets l.initial.out 0 (row_pool l.nodes l.pool l.work l.k))
