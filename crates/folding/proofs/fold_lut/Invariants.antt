-- `fold_lut` meets its contract: each turn leaves a Lut that folds to the same tree (`Folding`).
use Rattle.folding.specs.FoldedLaws.{Folding}
use Rattle.folding.proofs.fold_lut.Given as goal

abbrev pub invariant-loop-count : goal.invariant-loop-count
invariant-loop-count l = Folding l.work l.initial.operands l.program l.operands l.left l.count

abbrev pub decreases-loop-count : goal.decreases-loop-count
decreases-loop-count l = l.count
