use Rattle.std.proofs.Common.{arith}
use Rattle.search.specs.Search.{none_found, first_found}
use Rattle.search.proofs.lowest_fault.Goals as goal

pub returns-in-Err : goal.returns-in-Err
returns-in-Err g c = λ faults tests. first_found _ _ faults tests c.loop-i.i (omega arith) c.loop-i.invariant _ c.in-Err.ensures

pub returns : goal.returns
returns g c = λ faults tests. none_found _ _ faults tests (λ j l. c.loop-i.invariant j (omega arith))
