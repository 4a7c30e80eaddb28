-- `occurs` meets its contract: every node is asked (`any_input`).
use Rattle.std.proofs.Common.{refl, rules, arith, ◌∙◌}
use Rattle.std.proofs.lemmas.Iterator.{YieldsList-from_range}
use Rattle.std.proofs.lemmas.Iterator.Search.{any_from_yields_List}
use Rattle.inputs.specs.Inputs.{is_input, any_input}
use Rattle.inputs.proofs.occurs.Goals as goal

pub returns : goal.returns
returns c =
    any_from_yields_List (is_input c.args.nodes.now c.args.pool.now c.args.v) _ _ _ c.any.ensures.ran (YieldsList-from_range 0 c.node_count.result c.node_count.result refl (omega arith)) (λ x b q k. search rules)
    ∙ rw c.node_count.ensures (any_input c.args.nodes.now c.args.pool.now c.requires.sound c.args.v)
