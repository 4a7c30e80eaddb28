-- `write_nodes` meets its contract: the loop has stored the nodes of the entries below it.
use Rattle.std.proofs.Common.{ℕ, List, ◌*◌, refl, sym, ap, ap₂, ◌∙◌, arith}
use Rattle.std.proofs.lemmas.List.Edits.{sets}
use Rattle.meaning.specs.Rules.Limits.{words_per_node}
use Rattle.list_output.specs.Sizes.{size_none, size_next, size_within}
use Rattle.list_output.specs.Words.{entry_node, row_nodes}
use Rattle.list_output.specs.Writing.{nodes_begin, nodes_more, nodes_end}
use Rattle.list_output.proofs.write_nodes.Goals as goal

pub loop-k-init : goal.loop-k-init
loop-k-init c = (sym (size_none c.args.work.now), refl, nodes_begin c.args.work.now c.args.out.now)

pub write_node-requires-clause-at_le_most_pool : goal.write_node-requires-clause-at_le_most_pool
write_node-requires-clause-at_le_most_pool c = omega (arith, size_within c.args.work.now c.loop-k.k c.args.count (omega arith))

pub overflow_add-at : goal.overflow_add-at
overflow_add-at c =
    let within = rw (← c.listed_at-entry.ensures) at (size_within c.args.work.now c.loop-k.k c.args.count (omega arith)) in
    record { fits = omega (arith, within) }

pub loop-k-preserved : goal.loop-k-preserved
loop-k-preserved c =
    let w : List ℕ = c.args.work.now in
    let o : List ℕ = c.args.out.now in
    let k : ℕ = c.loop-k.k in
    let next = size_next w k in
    let stored = c.write_node.ensures
    ∙ ap (λ (x : List ℕ). sets x (k * words_per_node) (entry_node w c.loop-k.at c.listed_at-entry.result)) c.loop-k.invariant.2
    ∙ ap₂ (λ (a e : ℕ). sets (sets o 0 (row_nodes w k)) (k * words_per_node) (entry_node w a e)) c.loop-k.invariant.0 c.listed_at-entry.ensures
    ∙ nodes_more w o k in
    (cc, c.write_node.auto.out ∙ c.loop-k.invariant.1, stored)

pub returns : goal.returns
returns c =
    c.loop-k.invariant.2 ∙ ap (λ (n : ℕ). sets c.args.out.now 0 (row_nodes c.args.work.now n)) (omega arith)
    ∙ nodes_end c.args.work.now c.args.out.now c.args.count c.requires.words_per_node_in_bounds
