-- `next_pairs` meets its contract: a word ends past where reading began.
use Rattle.std.proofs.Common.{◌≡◌, sym, ◌∙◌, Some, Ok, arith}
use Rattle.decimals.specs.Claims.{value_ahead}
use Rattle.replay_evaluate.proofs.pairs.next_pairs.Goals as goal

pub loop-expected-preserved : goal.loop-expected-preserved
loop-expected-preserved c =
    let w : c.next_word.result ≡ Ok (Some c.in-Some.word) = cc in
    let a = value_ahead c.args.text.now c.loop-expected.next c.in-Some.word.value c.in-Some.word.next (sym c.next_word.ensures ∙ w) in
    (omega (arith, a.past), a.within)
