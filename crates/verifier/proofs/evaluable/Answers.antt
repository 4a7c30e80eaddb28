-- each node is asked, and the search says the rest
use Rattle.std.proofs.Common.{rules, arith, ap, ◌∙◌, ℕ}
use Rattle.meaning.specs.Rules.Refusals.{answered, at_lowest}
use Rattle.meaning.specs.Rules.Evaluable.{shape_fault}
use Rattle.verifier.specs.Outcome.{evaluability_search}
use Rattle.verifier.proofs.evaluable.Goals as goal

pub returns : goal.returns
returns c =
    c.lowest_fault.ensures (shape_fault c.args.nodes.now c.args.pool.now) (λ i r l p. search rules)
    ∙ ap (λ (n : ℕ). answered (at_lowest n (shape_fault c.args.nodes.now c.args.pool.now))) c.node_count.ensures
    ∙ ap answered (evaluability_search c.args.nodes.now c.args.pool.now)
