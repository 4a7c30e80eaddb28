-- `tried` meets its contract: reading what is lent does not go back, nor past the text's end.
use Rattle.std.proofs.Common.{length, arith}
use Rattle.replay_report.specs.Turns.{ok_from}
use Rattle.replay_evaluate.proofs.tried.Goals as goal

pub returns : goal.returns
returns g c =
    ok_from (length c.args.text.now) c.in_ok-next.next c.args.at c.with_space.result (omega (arith, c.in_ok-next.ensures.0)) c.with_space.ensures
