-- `next_lists` meets its contract: neither list goes back, nor past the text's end.
use Rattle.std.proofs.Common.{◌≡◌, Ok}
use Rattle.replay_compare.specs.Lists.{lists_reach}
use Rattle.replay_compare.proofs.two_lists.next_lists.Goals as goal

pub returns : goal.returns
returns c =
    let w : c.next_list.result ≡ Ok c.in_ok-next.next = cc in
    lists_reach c.args.text.now c.args.at _ _ _ _ _ c.requires c.next_list.ensures.value w c.next_list-2.ensures.value
