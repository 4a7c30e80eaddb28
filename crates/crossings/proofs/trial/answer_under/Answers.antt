-- `answer_under` meets its contract: the bytes are the assignment, and the root is answered under them.
use Rattle.inputs.specs.Driving.{Drivable, still_drivable}
use Rattle.pass.specs.Written.{with_pairs, still_prepared}
use Rattle.rows.specs.Rows.{Prepared}
use Rattle.meaning.specs.Rules.Assignments.{given, drive}
use Rattle.meaning.specs.Rules.Answers.{Assignment, answer}
use Rattle.meaning.specs.Rules.Trees.{node_count, root_of}
use lib.ListN.{length}
use mathlib.Core.List.{List}
use mathlib.Core.Path.{◌≡◌, sym, ap, subst, ◌∙◌}
use Prim.Native.Nat.{ℕ}
use Rattle.crossings.proofs.trial.answer_under.Goals as goal

pub drive-requires : goal.drive-requires
drive-requires c =
    let ns : List ℕ = c.args.nodes.now in
    let ps : List ℕ = c.args.pool.now in
    let vs : List ℕ = c.args.variables.now in
    let i : ℕ = c.args.index in
    let work : List ℕ = c.args.work.now in
    let ready : Prepared ns ps 0 work = c.requires.prepared in
    let drivable : Drivable vs c.args.bytes.now = c.requires.drivable in
    record {
      variables_len_bound = drivable.few;
      all_below = drivable.within;
      others_undriven = drivable.others;
    }

pub root_under-requires : goal.root_under-requires
root_under-requires c =
    let ns : List ℕ = c.args.nodes.now in
    let ps : List ℕ = c.args.pool.now in
    let vs : List ℕ = c.args.variables.now in
    let i : ℕ = c.args.index in
    let work : List ℕ = c.args.work.now in
    let ready : Prepared ns ps 0 work = c.requires.prepared in
    let drivable : Drivable vs c.args.bytes.now = c.requires.drivable in
    ready

pub returns : goal.returns
returns c =
    let ns : List ℕ = c.args.nodes.now in
    let ps : List ℕ = c.args.pool.now in
    let vs : List ℕ = c.args.variables.now in
    let i : ℕ = c.args.index in
    let work : List ℕ = c.args.work.now in
    let ready : Prepared ns ps 0 work = c.requires.prepared in
    let drivable : Drivable vs c.args.bytes.now = c.requires.drivable in
    let left : List ℕ = c.drive.new.bytes in
    let driven : given left ≡ drive vs i = c.drive.ensures in
    let size : length left ≡ length c.args.bytes.now = c.drive.auto.bytes in
    let written : c.root_under.new.work ≡ with_pairs ns ps (given left) 0 work = c.root_under.ensures.work_after in
    record {
      value = c.root_under.ensures.value ∙ ap (λ (α : Assignment). answer α (root_of ns ps)) (driven ∙ ap (λ (xs : List ℕ). drive xs i) c.requires.variables_value);
      prepared_2 = subst (Prepared ns ps 0) (sym written) (still_prepared ns ps (given left) 0 work ready (node_count ns));
      drivable_2 = still_drivable vs c.args.bytes.now left i drivable size driven;
    }
