use Rattle.std.proofs.Common.{sym, ◌∙◌}
use Rattle.verifier.specs.Answered.{six_laid_out}
use Rattle.verifier.proofs.sound.Goals as goal

pub write_shapes-requires-clause-laid : goal.write_shapes-requires-clause-laid
write_shapes-requires-clause-laid c = six_laid_out c.args.nodes.now c.args.pool.now (sym c.verified.ensures.value ∙ c.in_ok-verified.was)
