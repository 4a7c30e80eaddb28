-- `write_kids` meets its contract: the loop has stored the numbers of the children below it.
use Rattle.std.proofs.Common.{◌≡◌, length}
use Rattle.std.proofs.lemmas.List.Edits.{sets}
use Rattle.form_rows.specs.From.{from}
use Rattle.list_output.specs.Words.{kid_number}
use Rattle.list_output.proofs.part.write_kids.Given as goal

abbrev pub invariant-loop-j : goal.invariant-loop-j
invariant-loop-j l = (length l.out ≡ length l.initial.out) × (l.out ≡ sets l.initial.out l.at (from (kid_number l.nodes l.pool l.work l.h) 0 l.j))
