-- `name_variables` meets its contract: the first v places hold the numbers below v.
use Rattle.std.proofs.Common.{◌≡◌, take}
use Rattle.meaning.specs.Rules.Assignments.{upto}
use Rattle.separator.proofs.numbered.name_variables.Given as goal

abbrev pub invariant-loop-v : goal.invariant-loop-v
invariant-loop-v l = take l.v l.named ≡ upto l.v
