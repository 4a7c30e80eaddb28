use mathlib.Core.Path.{◌≡◌}
use Prim.Native.Nat.{◌≤◌, ◌-◌}
use Rattle.meaning.specs.Rules.Trees.{node_count}
use Rattle.columns.specs.Columns.{shape_column, with_column}
use Rattle.shapes.specs.Shapes.{shape_at}
use Rattle.shapes.proofs.step.write_shapes.Given as goal

abbrev pub invariant-loop-i : goal.invariant-loop-i
invariant-loop-i l = (l.i ≤ l.n) × (l.n ≡ node_count l.nodes) × (l.work ≡ with_column shape_column l.base l.i (shape_at l.nodes l.pool) l.initial.work)

abbrev pub decreases-loop-i : goal.decreases-loop-i
decreases-loop-i l = l.n - l.i
