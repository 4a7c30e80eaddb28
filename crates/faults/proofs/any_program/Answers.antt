use Rattle.std.proofs.Common.{rules, tests, ◌∙◌, sym, ◌<◌}
use Rattle.std.proofs.lemmas.Iterator.Search.{any_from_yields_List}
use Rattle.std.proofs.lemmas.Iterator.{YieldsList-from_slice}
use Rattle.std.proofs.lemmas.Iterator.Adapters.{serves_from_places}
use Rattle.meaning.specs.Rules.Verification.{is_program}
use Rattle.meaning.specs.Rules.Trees.{node_count}
use Rattle.lists.specs.Scan.{any_some}
use Rattle.faults.specs.Leaves.{leaf_of, some_leaves, is_node}
use Rattle.faults.proofs.any_program.Goals as goal

pub any-requires-clause-callable : goal.any-requires-clause-callable
any-requires-clause-callable c =
    serves_from_places (YieldsList-from_slice c.args.children.now cc) (λ x q k. search rules)
    (λ x k l e. let inside : x.now < node_count c.args.nodes.now = is_node c.args.nodes.now c.args.children.now c.requires x.now k l e in search (rules, inside))

pub returns : goal.returns
returns c =
    any_from_yields_List (λ k. is_program (leaf_of c.args.nodes.now k)) _ _ c.any.result c.any.ensures.ran (YieldsList-from_slice c.args.children.now cc) (λ x b q k. search (rules, tests))
    ∙ any_some (λ k. is_program (leaf_of c.args.nodes.now k)) c.args.children.now ∙ sym (some_leaves c.args.nodes.now is_program c.args.children.now)
