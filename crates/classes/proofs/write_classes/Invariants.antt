-- `write_classes` meets its contract: the loop has written the classes below it (`with_column`), and nothing else.
use Rattle.classes.specs.Classes.{class_at}
use Rattle.columns.specs.Columns.{class_column, with_column}
use Rattle.meaning.specs.Rules.Trees.{node_count}
use Prim.Native.Nat.{◌≤◌, ◌-◌}
use mathlib.Core.Path.{◌≡◌}
use Rattle.classes.proofs.write_classes.Given as goal

abbrev pub invariant-loop-j : goal.invariant-loop-j
invariant-loop-j l = (l.j ≤ l.n) × (l.n ≡ node_count l.nodes) × (l.work ≡ with_column class_column l.base l.j (class_at l.first_nodes l.first_pool l.nodes l.pool) l.initial.work)

abbrev pub decreases-loop-j : goal.decreases-loop-j
decreases-loop-j l = l.n - l.j
