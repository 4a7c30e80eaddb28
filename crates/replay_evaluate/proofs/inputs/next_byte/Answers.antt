-- `next_byte` meets its contract: a word ends past where reading began.
use Rattle.std.proofs.Common.{◌≡◌, sym, ◌∙◌, Ok}
use Rattle.list_words.specs.EntryLaws.{entry_ahead}
use Rattle.replay_evaluate.proofs.inputs.next_byte.Goals as goal

pub returns-in-Ok : goal.returns-in-Ok
returns-in-Ok c =
    let w : c.next_entry.result ≡ Ok c.in_ok-word.word = cc in
    entry_ahead c.args.text.now c.args.at c.in_ok-word.word.value c.in_ok-word.word.next (sym c.next_entry.ensures ∙ w)
