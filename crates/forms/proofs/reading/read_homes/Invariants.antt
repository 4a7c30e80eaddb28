-- `reading::read_homes` meets its contract: the homes below the loop are read (`Read`).
use Rattle.std.proofs.Common.{length, ◌≡◌}
use Rattle.forms.specs.Operands.{Read}
use Rattle.forms.proofs.reading.read_homes.Given as goal

abbrev pub invariant-loop-j : goal.invariant-loop-j
invariant-loop-j l = (length l.homes ≡ length l.initial.homes) × Read l.work l.operands l.homes l.j
