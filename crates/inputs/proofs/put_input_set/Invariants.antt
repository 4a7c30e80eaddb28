-- `put_input_set` meets its contract: the variables tried so far that occur are kept, in order.
use Rattle.std.proofs.Common.{◌≡◌, ◌≤◌, take}
use Rattle.meaning.specs.Rules.Assignments.{occurs, select}
use Rattle.meaning.specs.Rules.Trees.{root_of}
use Rattle.inputs.proofs.put_input_set.Given as goal

abbrev pub invariant-loop-v : goal.invariant-loop-v
invariant-loop-v l = record {
  few : l.count ≤ l.v;
  kept : take l.count l.variables ≡ select (λ u. occurs u (root_of l.nodes l.pool)) l.v;
}
