-- `next_inputs` meets its contract: neither the list nor the bytes go back, nor past the text's end.
use Rattle.std.proofs.Common.{◌≡◌, length, sym, ◌∙◌, Ok}
use Rattle.list_words.specs.EntryLaws.{list_ahead}
use Rattle.replay_evaluate.specs.Inputs.{reaches_from}
use Rattle.replay_evaluate.proofs.inputs.next_inputs.Goals as goal

pub next_bytes-requires : goal.next_bytes-requires
next_bytes-requires c =
    let w : c.next_list.result ≡ Ok c.in_ok-next.next = cc in
    let on = list_ahead c.args.text.now c.args.at (length c.args.nodes.now) (length c.args.pool.now) c.in_ok-next.next c.requires (sym c.next_list.ensures.value ∙ w) in
    on.1

pub returns : goal.returns
returns c =
    let w : c.next_list.result ≡ Ok c.in_ok-next.next = cc in
    let on = list_ahead c.args.text.now c.args.at (length c.args.nodes.now) (length c.args.pool.now) c.in_ok-next.next c.requires (sym c.next_list.ensures.value ∙ w) in
    reaches_from (length c.args.text.now) c.in_ok-next.next c.args.at c.next_bytes.result on.0 c.next_bytes.ensures
