-- past number 9 the variables are few enough to be driven
use Rattle.std.proofs.Common.{◌≡◌, ◌∙◌, sym, ap, Ok}
use Rattle.meaning.specs.Rules.Trees.{Tree, root_of}
use Rattle.meaning.specs.Rules.Assignments.{inputs}
use Rattle.meaning.specs.Rules.Limits.{most_inputs}
use Rattle.meaning.specs.Rules.Numbers.{many_inputs}
use Rattle.meaning.specs.Rules.Refusals.{asked}
use Rattle.std.specs.Prelude.{length, leb, List, ℕ}
use Rattle.comparer.specs.Outcome.{to_drive}
use Rattle.comparer.proofs.other_trees.Goals as goal

pub lowest_deciding-requires-clause-drivable : goal.lowest_deciding-requires-clause-drivable
lowest_deciding-requires-clause-drivable c =
    let t : Tree = root_of c.args.nodes.now c.args.pool.now in
    let named : c.get_input_set-variables.result.now ≡ inputs t = c.get_input_set-variables.ensures.value in
    let few : asked (leb (length (inputs t)) most_inputs) many_inputs ≡ Ok tt =
    ap (λ (vs : List ℕ). asked (leb (length vs) most_inputs) many_inputs) (sym named) ∙ sym c.require.ensures ∙ c.in_ok-require.was in
    to_drive t (root_of c.args.second_nodes.now c.args.second_pool.now) few _ _ named c.undriven-bytes.ensures
