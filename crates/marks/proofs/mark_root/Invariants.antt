use mathlib.Core.Path.{◌≡◌}
use Rattle.columns.specs.Columns.{mark_column, with_column}
use Rattle.marks.specs.Handing.{only_root}
use Rattle.marks.proofs.mark_root.Given as goal

abbrev pub invariant-loop-i : goal.invariant-loop-i
invariant-loop-i l = l.work ≡ with_column mark_column l.base l.i (only_root l.n) l.initial.work
