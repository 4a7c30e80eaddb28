-- `tried` meets its contract: reading the list does not go back, nor past the text's end.
use Rattle.std.proofs.Common.{◌≡◌, length, sym, ◌∙◌, Ok}
use Rattle.list_words.specs.EntryLaws.{list_ahead}
use Rattle.replay_separate.proofs.tried.Goals as goal

pub returns : goal.returns
returns g c =
    let w : c.next_list.result ≡ Ok c.in_ok-next.next = cc in
    list_ahead c.args.text.now c.args.at (length c.args.nodes.now) (length c.args.pool.now) c.in_ok-next.next c.requires.at_in_bounds (sym c.next_list.ensures.value ∙ w)
