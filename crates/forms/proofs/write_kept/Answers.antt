-- `write_kept` meets its contract: the row holds the node as it is, over its children's homes.
use Rattle.forms.specs.Stores.{kept_done}
use Rattle.forms.proofs.write_kept.Goals as goal

pub returns-clause-done : goal.returns-clause-done
returns-clause-done c =
    kept_done c.requires.turn c.requires.i_nonzero c.requires.i_value (rw (← c.kind_word-kind.ensures, ← c.datum_of-datum.ensures, ← c.children_of-count.ensures) c.put_row.ensures)
