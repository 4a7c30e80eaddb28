-- `storing::put_operands` meets its contract: the operands below the loop stand in the row (`Placed`).
use Rattle.forms.specs.Stores.{Placed}
use Rattle.forms.proofs.storing.put_operands.Given as goal

abbrev pub invariant-loop-j : goal.invariant-loop-j
invariant-loop-j l = Placed l.initial.work l.work l.i l.homes l.j
