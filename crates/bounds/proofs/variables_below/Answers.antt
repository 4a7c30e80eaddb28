-- `variables_below` meets its contract: every node is asked (`all_inside`).
use Rattle.std.proofs.Common.{not, refl, rules, arith, ◌∙◌}
use Rattle.std.proofs.lemmas.Iterator.{YieldsList-from_range}
use Rattle.std.proofs.lemmas.Iterator.Search.{all_from_yields_List}
use Rattle.meaning.specs.Rules.Separation.{outside}
use Rattle.bounds.specs.Bounds.{all_inside}
use Rattle.bounds.proofs.variables_below.Goals as goal

pub returns : goal.returns
returns c =
    all_from_yields_List (λ i. not (outside c.args.nodes.now c.args.n i)) _ _ _ c.all.ensures.ran (YieldsList-from_range 0 c.node_count.result c.node_count.result refl (omega arith)) (λ x b q k. search rules)
    ∙ rw c.node_count.ensures (all_inside c.args.nodes.now c.args.n)
