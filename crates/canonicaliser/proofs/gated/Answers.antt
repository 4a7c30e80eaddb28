-- each node is asked, and the search says the rest
use Rattle.std.proofs.Common.{rules, arith, ap, ◌∙◌, ℕ}
use Rattle.meaning.specs.Rules.Refusals.{answered, at_lowest}
use Rattle.meaning.specs.Rules.Canonical.{gate_fault, gates}
use Rattle.canonicaliser.proofs.gated.Goals as goal

pub returns : goal.returns
unfolding gates
returns c =
    c.lowest_fault.ensures (gate_fault c.args.nodes.now c.args.pool.now) (λ i r l p. search rules)
    ∙ ap (λ (n : ℕ). answered (at_lowest n (gate_fault c.args.nodes.now c.args.pool.now))) c.node_count.ensures
