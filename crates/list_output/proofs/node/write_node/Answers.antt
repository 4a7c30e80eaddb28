-- `write_node` meets its contract: the start and the count of a part, or the halves of the datum.
use Rattle.std.proofs.Common.{ap, ◌∙◌, ◌*◌, arith}
use Rattle.std.proofs.lemmas.List.Edits.{sets}
use Rattle.meaning.specs.Rules.Limits.{words_per_node}
use Rattle.list_output.specs.Sizes.{child_few}
use Rattle.list_output.specs.Entry.{inner_node, leaf_node}
use Rattle.list_output.proofs.node.write_node.Goals as goal

pub overflow_cast-child_count : goal.overflow_cast-child_count
overflow_cast-child_count c = record { fits = omega (arith, child_few c.args.work.now c.args.entry c.requires.bound_2) }

pub returns-then-kind-gt-VARIABLE : goal.returns-then-kind-gt-VARIABLE
returns-then-kind-gt-VARIABLE c =
    c.put_node.ensures
    ∙ ap (sets c.args.out.now (c.args.k * words_per_node))
    (inner_node c.args.work.now c.args.entry c.args.at c.entry_kind-kind.result c.child_count.result c.entry_kind-kind.ensures c.child_count.ensures c.if-kind-gt-VARIABLE.true)

pub returns-else-kind-gt-VARIABLE : goal.returns-else-kind-gt-VARIABLE
returns-else-kind-gt-VARIABLE c =
    c.put_node-else-kind-gt-VARIABLE.ensures
    ∙ ap (sets c.args.out.now (c.args.k * words_per_node))
    (leaf_node c.args.work.now c.args.entry c.args.at c.entry_kind-kind.result c.datum_in-datum.result c.entry_kind-kind.ensures c.datum_in-datum.ensures c.if-kind-gt-VARIABLE.false)
