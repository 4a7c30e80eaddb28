-- `alike` meets its contract: slices are compared word by word.
use Rattle.std.proofs.Common.{◌∙◌}
use Rattle.replay_results.specs.Alike.{alike_pointwise}
use Rattle.replay_results.proofs.alike.Goals as goal

pub returns : goal.returns
returns c = c.eq.ensures ∙ alike_pointwise c.args.one.now c.args.other.now
