-- `same_classes` meets its contract: of the pairs of children before the loop each has one class (`same_classes` of the rest).
use Rattle.classes.specs.Alike.{same_classes}
use lib.ListN.{length, drop}
use Prim.Native.Nat.{◌≤◌, ◌-◌}
use mathlib.Core.Path.{◌≡◌}
use Rattle.classes.proofs.alike.same_classes.Given as goal

abbrev pub invariant-loop-at : goal.invariant-loop-at
invariant-loop-at l = (l.at ≤ l.at-end) × (l.at-end ≡ length l.children) × (length l.children ≡ length l.others) × (same_classes l.work l.base (drop l.at l.children) (drop l.at l.others) ≡ same_classes l.work l.base l.children l.others)

abbrev pub decreases-loop-at : goal.decreases-loop-at
decreases-loop-at l = l.at-end - l.at
