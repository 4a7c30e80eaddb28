-- no node that is passed has a fault
use Rattle.std.proofs.Common.{ℕ, ◌<◌, Ok}
use Rattle.search.proofs.lowest_fault.Given as goal

abbrev pub invariant-loop-i : goal.invariant-loop-i
invariant-loop-i g l = (j : ℕ) → j < l.i → goal.F-post g l.fault j (Ok tt)
