-- `pass` meets its contract: the loop has written the pairs below it (`with_pairs_to`), and nothing else.
use Rattle.std.proofs.Common.{sym, ap, ◌∙◌, arith, length}
use Rattle.meaning.specs.Rules.Assignments.{given}
use Rattle.pass.specs.Written.{pairs_none, pairs_next, pairs_length, filled_to}
use Rattle.pass.proofs.pass.Goals as goal

pub loop-i-init : goal.loop-i-init
loop-i-init c = sym (pairs_none c.args.nodes.now c.args.pool.now (given c.args.bytes.now) c.args.base c.args.work.now)

pub pair_of-pair-requires : goal.pair_of-pair-requires
pair_of-pair-requires c =
    record {
      filled = rw c.loop-i.invariant (filled_to _ _ _ _ _ c.requires c.loop-i.i (omega arith));
      n_bound = omega arith;
    }

pub put-requires : goal.put-requires
put-requires c = omega (arith, ap length c.loop-i.invariant ∙ pairs_length c.args.nodes.now c.args.pool.now (given c.args.bytes.now) c.args.base c.loop-i.i c.args.work.now, c.requires.room)

pub put-requires-in-loop-i : goal.put-requires-in-loop-i
put-requires-in-loop-i c = omega (arith, c.put.auto.work, ap length c.loop-i.invariant ∙ pairs_length c.args.nodes.now c.args.pool.now (given c.args.bytes.now) c.args.base c.loop-i.i c.args.work.now, c.requires.room)

pub loop-i-preserved : goal.loop-i-preserved
loop-i-preserved c =
    c.put-in-loop-i.ensures
    ∙ rw (c.put.ensures, c.loop-i.invariant)
    (pairs_next c.args.nodes.now c.args.pool.now (given c.args.bytes.now) c.args.base c.loop-i.i c.args.work.now c.pair_of-pair.result.state c.pair_of-pair.result.value c.pair_of-pair.ensures.state_value c.pair_of-pair.ensures.value_value)
