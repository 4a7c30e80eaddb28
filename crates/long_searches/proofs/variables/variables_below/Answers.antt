-- `variables_below` meets its contract: a list past number 8 has its marks in the work space.
use mathlib.Core.Path.{◌≡◌, refl, sym, ◌∙◌, subst}
use mathlib.Core.List.{List}
use Prim.Native.Nat.{ℕ, ◌≤◌, ◌*◌, ◌+◌}
use native.Mathlib.Omega.{arith}
use lib.ListN.{length}
use lib.Seq.{length-take-le}
use Rattle.meaning.specs.Rules.Limits.{work_per_node}
use Rattle.meaning.specs.Rules.Trees.{node_count}
use Rattle.rows.specs.Rows.{Prepared}
use Rattle.long_searches.specs.Accepted.{work_left, accepted_prepares}
use Rattle.long_searches.specs.Shown.{none_shown, all_shown}
use Rattle.long_searches.proofs.variables.variables_below.Goals as goal

pub put_input_set-requires : goal.put_input_set-requires
put_input_set-requires c =
    let ns : List ℕ = c.args.nodes.now in
    let ps : List ℕ = c.args.pool.now in
    let work : List ℕ = c.args.work.now in
    let room : work_per_node * (0 + node_count ns) ≤ length work = omega (arith, c.requires.taken.0, c.requires.work_room_in_bounds) in
    let left : c.is_accepted.new.work ≡ work_left ns ps work = c.is_accepted.ensures.work_after in
    record {
      prepared = subst (Prepared ns ps 0) (sym left) (accepted_prepares ns ps work room (sym c.is_accepted.ensures.value ∙ c.if-is_accepted.true));
      variables_len = c.requires.variables_len;
    }

pub returns-then-is_accepted : goal.returns-then-is_accepted
returns-then-is_accepted c =
    let ns : List ℕ = c.args.nodes.now in
    let ps : List ℕ = c.args.pool.now in
    let few : c.put_input_set.result ≤ length c.put_input_set.new.variables = omega (arith, c.put_input_set.ensures.upper_bound, c.put_input_set.auto.variables, c.requires.variables_len) in
    record {
      starts = (few, sym (length-take-le c.put_input_set.result c.put_input_set.new.variables few));
      variables_after = c.put_input_set.ensures.variables_after ∙ sym (all_shown ns ps (sym c.is_accepted.ensures.value ∙ c.if-is_accepted.true));
    }

pub returns-else-is_accepted : goal.returns-else-is_accepted
returns-else-is_accepted c =
    let ns : List ℕ = c.args.nodes.now in
    let ps : List ℕ = c.args.pool.now in
    record {
      starts = (omega arith, refl);
      variables_after = sym (none_shown ns ps (sym c.is_accepted.ensures.value ∙ c.if-is_accepted.false));
    }
