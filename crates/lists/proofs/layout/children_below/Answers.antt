use Rattle.std.proofs.Common.{rules, tests, ltb, ◌∙◌}
use Rattle.std.proofs.lemmas.Iterator.Search.{all_from_yields_List}
use Rattle.std.proofs.lemmas.Iterator.{YieldsList-from_slice}
use Rattle.meaning.specs.Rules.Trees.{children_at}
use Rattle.lists.specs.Scan.{all_every}
use Rattle.lists.proofs.layout.children_below.Goals as goal

pub returns : goal.returns
returns c =
    all_from_yields_List (λ k. ltb k c.args.i) _ _ c.all.result c.all.ensures.ran (YieldsList-from_slice (children_at c.args.nodes.now c.args.pool.now c.args.i) cc) (λ x b q k. search (rules, tests))
    ∙ all_every (λ k. ltb k c.args.i) (children_at c.args.nodes.now c.args.pool.now c.args.i)
