-- `lowest_deciding` meets its contract: no assignment below the index decides, so the first that does is the lowest.
use mathlib.Core.Path.{◌≡◌}
use Prim.Native.Nat.{◌-◌, ◌^◌, ◌≤◌}
use lib.ListN.{length}
use Rattle.meaning.specs.Rules.Trees.{root_of}
use Rattle.meaning.specs.Rules.Assignments.{inputs}
use Rattle.meaning.specs.Rules.Comparison.{decides}
use Rattle.meaning.proofs.Laws.SearchLaws.{NoneBelow}
use Rattle.inputs.specs.Driving.{OthersUndriven}
use Rattle.trials.specs.Trial.{BothPrepared}
use Rattle.comparer.proofs.lowest.lowest_deciding.Given as goal

abbrev pub invariant-loop-index : goal.invariant-loop-index
invariant-loop-index l = (l.index ≤ l.total)
    × (l.total ≡ 2 ^ length l.variables)
    × (length l.bytes ≡ length l.initial.bytes)
    × (length l.work ≡ length l.initial.work)
    × BothPrepared l.nodes l.pool l.second_nodes l.second_pool l.work
    × OthersUndriven l.variables l.bytes
    × NoneBelow (decides (inputs (root_of l.nodes l.pool)) (root_of l.nodes l.pool) (root_of l.second_nodes l.second_pool)) l.index

abbrev pub decreases-loop-index : goal.decreases-loop-index
decreases-loop-index l = l.total - l.index
