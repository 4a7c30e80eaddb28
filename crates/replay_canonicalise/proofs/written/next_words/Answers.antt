-- `next_words` meets its contract: a word ends past where reading began.
use Rattle.std.proofs.Common.{◌≡◌, sym, ◌∙◌, Ok, arith}
use Rattle.list_words.specs.EntryLaws.{entry_ahead}
use Rattle.replay_canonicalise.proofs.written.next_words.Goals as goal

pub loop-expected-preserved : goal.loop-expected-preserved
loop-expected-preserved c =
    let w : c.next_entry.result ≡ Ok c.in_ok-word.word = cc in
    let a = entry_ahead c.args.text.now c.loop-expected.next c.in_ok-word.word.value c.in_ok-word.word.next (sym c.next_entry.ensures ∙ w) in
    (omega (arith, a.past), a.within)
