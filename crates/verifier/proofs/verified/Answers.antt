use Rattle.std.proofs.Common.{sym, ◌∙◌}
use Rattle.verifier.specs.Answered.{laid_out}
use Rattle.verifier.proofs.verified.Goals as goal

pub mark_reached-requires-clause-laid : goal.mark_reached-requires-clause-laid
mark_reached-requires-clause-laid c = laid_out c.args.nodes.now c.args.pool.now (sym c.laid.ensures ∙ c.in_ok-laid.was)
