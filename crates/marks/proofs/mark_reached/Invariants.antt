use mathlib.Core.Path.{◌≡◌}
use Prim.Native.Nat.{◌≤◌, ◌-◌}
use Rattle.meaning.specs.Rules.Trees.{node_count}
use Rattle.marks.specs.Passing.{marked}
use Rattle.marks.proofs.mark_reached.Given as goal

abbrev pub invariant-loop-p : goal.invariant-loop-p
invariant-loop-p l = (l.p ≤ node_count l.nodes) × (l.work ≡ marked l.nodes l.pool l.base l.initial.work (l.p - 1))
