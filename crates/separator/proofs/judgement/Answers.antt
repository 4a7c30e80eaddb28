-- `judgement` meets its contract: what number 11 leaves is what the search asks.
use Rattle.separator.specs.Judged.{named_length, searchable, drivable}
use Rattle.meaning.proofs.Laws.RefusalLaws.{bounds_few, bounds_variables, marks_below}
use Rattle.inputs.specs.Room.{blanks_length}
use Rattle.meaning.specs.Rules.Separation.{in_bounds, separate_tree, found}
use Rattle.meaning.specs.Rules.Assignments.{upto}
use Rattle.meaning.specs.Rules.Trees.{root_of}
use Rattle.meaning.specs.Rules.Limits.{most_inputs, variable_count}
use lib.ListN.{length, take}
use native.Mathlib.Omega.{arith}
use mathlib.Core.Bool.{true}
use mathlib.Core.List.{List}
use mathlib.Core.Path.{◌≡◌, sym, ap, ◌∙◌}
use Prim.Native.Nat.{ℕ, ◌≤◌}
use Rattle.separator.proofs.judgement.Goals as goal

pub name_variables-requires : goal.name_variables-requires
name_variables-requires c =
    let ns : List ℕ = c.args.nodes.now in
    let ps : List ℕ = c.args.pool.now in
    let n : ℕ = c.args.n in
    let marks : ℕ = c.args.marks in
    let bounds : in_bounds ns n marks ≡ true = c.requires.marks_value in
    let few : n ≤ most_inputs = bounds_few ns n marks bounds in
    let size : length c.no_variables-variables.result ≡ variable_count = ap length c.no_variables-variables.ensures ∙ blanks_length variable_count in
    omega (arith, size, few)

pub input_mask-inputs-requires : goal.input_mask-inputs-requires
input_mask-inputs-requires c =
    let ns : List ℕ = c.args.nodes.now in
    let ps : List ℕ = c.args.pool.now in
    let n : ℕ = c.args.n in
    let marks : ℕ = c.args.marks in
    let bounds : in_bounds ns n marks ≡ true = c.requires.marks_value in
    let few : n ≤ most_inputs = bounds_few ns n marks bounds in
    let size : length c.no_variables-variables.result ≡ variable_count = ap length c.no_variables-variables.ensures ∙ blanks_length variable_count in
    record {
      prepared = c.requires.prepared;
      n_le_most_inputs = few;
      n_value = bounds_variables ns n marks bounds;
    }

pub slice_bounds-variables-end : goal.slice_bounds-variables-end
slice_bounds-variables-end c =
    let ns : List ℕ = c.args.nodes.now in
    let ps : List ℕ = c.args.pool.now in
    let n : ℕ = c.args.n in
    let marks : ℕ = c.args.marks in
    let bounds : in_bounds ns n marks ≡ true = c.requires.marks_value in
    let few : n ≤ most_inputs = bounds_few ns n marks bounds in
    let size : length c.no_variables-variables.result ≡ variable_count = ap length c.no_variables-variables.ensures ∙ blanks_length variable_count in
    omega (arith, few)

pub slice_bounds-searched-end : goal.slice_bounds-searched-end
slice_bounds-searched-end c =
    let ns : List ℕ = c.args.nodes.now in
    let ps : List ℕ = c.args.pool.now in
    let n : ℕ = c.args.n in
    let marks : ℕ = c.args.marks in
    let bounds : in_bounds ns n marks ≡ true = c.requires.marks_value in
    let few : n ≤ most_inputs = bounds_few ns n marks bounds in
    let size : length c.no_variables-variables.result ≡ variable_count = ap length c.no_variables-variables.ensures ∙ blanks_length variable_count in
    let vs : List ℕ = c.name_variables.new.variables in
    let held : n ≤ length vs = omega (arith, c.name_variables.auto.variables, size, few) in
    let named : take n vs ≡ upto n = c.name_variables.ensures in
    sym (named_length ns ps vs n 0 marks held named)

pub searched-requires : goal.searched-requires
searched-requires c =
    let ns : List ℕ = c.args.nodes.now in
    let ps : List ℕ = c.args.pool.now in
    let n : ℕ = c.args.n in
    let marks : ℕ = c.args.marks in
    let bounds : in_bounds ns n marks ≡ true = c.requires.marks_value in
    let few : n ≤ most_inputs = bounds_few ns n marks bounds in
    let size : length c.no_variables-variables.result ≡ variable_count = ap length c.no_variables-variables.ensures ∙ blanks_length variable_count in
    let vs : List ℕ = c.name_variables.new.variables in
    let held : n ≤ length vs = omega (arith, c.name_variables.auto.variables, size, few) in
    let named : take n vs ≡ upto n = c.name_variables.ensures in
    record {
      searchable = searchable ns ps vs n c.input_mask-inputs.result marks held named (omega (arith, few)) c.input_mask-inputs.ensures.upper_bound c.input_mask-inputs.ensures.mask (marks_below ns n marks bounds);
      prepared = c.requires.prepared;
      drivable = drivable ns ps vs n c.input_mask-inputs.result marks held named few c.undriven-bytes.result c.undriven-bytes.ensures;
    }

pub returns : goal.returns
returns c =
    let ns : List ℕ = c.args.nodes.now in
    let ps : List ℕ = c.args.pool.now in
    let n : ℕ = c.args.n in
    let marks : ℕ = c.args.marks in
    let bounds : in_bounds ns n marks ≡ true = c.requires.marks_value in
    let few : n ≤ most_inputs = bounds_few ns n marks bounds in
    let size : length c.no_variables-variables.result ≡ variable_count = ap length c.no_variables-variables.ensures ∙ blanks_length variable_count in
    let vs : List ℕ = c.name_variables.new.variables in
    let held : n ≤ length vs = omega (arith, c.name_variables.auto.variables, size, few) in
    let named : take n vs ≡ upto n = c.name_variables.ensures in
    c.searched.ensures ∙ ap (λ (k : ℕ). found (separate_tree (root_of ns ps) k marks)) (named_length ns ps vs n 0 marks held named)
