use mathlib.Core.Path.{◌≡◌}
use lib.ListN.{length, drop}
use Rattle.marks.specs.Handing.{lowered}
use Rattle.marks.proofs.lower_all.Given as goal

abbrev pub invariant-loop-child : goal.invariant-loop-child
invariant-loop-child l = (length l.work ≡ length l.initial.work) × (lowered l.base l.mark (drop l.child-index l.children) l.work ≡ lowered l.base l.mark l.children l.initial.work)
