-- `answers_at` meets its contract: the bytes are the assignment, and each root is answered under them.
use Rattle.trials.specs.Trial.{first_work, tried_work, second_prepared}
use Rattle.pass.specs.Written.{with_pairs}
use Rattle.meaning.specs.Rules.Assignments.{given, drive}
use Rattle.meaning.specs.Rules.Answers.{Assignment, answer}
use Rattle.meaning.specs.Rules.Trees.{node_count, root_of}
use Rattle.meaning.specs.declared.Answer.{Answer}
use mathlib.Core.List.{List}
use mathlib.Core.Path.{◌≡◌, ap, ap₂, ◌∙◌}
use Prim.Native.Nat.{ℕ}
use Rattle.trials.proofs.answers_at.Goals as goal

pub drive-requires : goal.drive-requires
drive-requires c =
    record {
      variables_len_bound = c.requires.drivable.few;
      all_below = c.requires.drivable.within;
      others_undriven = c.requires.drivable.others;
    }

pub root_under-requires : goal.root_under-requires
root_under-requires c = c.requires.both_prepared.first

pub root_under-requires-2 : goal.root_under-requires-2
unfolding first_work
root_under-requires-2 c =
    let ns : List ℕ = c.args.nodes.now in
    let ps : List ℕ = c.args.pool.now in
    let ms : List ℕ = c.args.second_nodes.now in
    let qs : List ℕ = c.args.second_pool.now in
    let vs : List ℕ = c.args.variables.now in
    let work : List ℕ = c.args.work.now in
    let α : Assignment = drive vs c.args.index in
    let driven : given c.drive.new.bytes ≡ α = c.drive.ensures in
    let count : c.node_count.result ≡ node_count ns = c.node_count.ensures in
    let one : c.root_under.new.work ≡ first_work ns ps ms qs α work = c.root_under.ensures.work_after ∙ ap (λ (β : Assignment). with_pairs ns ps β 0 work) driven in
    rw (count, one) (second_prepared ns ps ms qs α work c.requires.both_prepared)

pub returns : goal.returns
unfolding first_work tried_work
returns c =
    let ns : List ℕ = c.args.nodes.now in
    let ps : List ℕ = c.args.pool.now in
    let ms : List ℕ = c.args.second_nodes.now in
    let qs : List ℕ = c.args.second_pool.now in
    let vs : List ℕ = c.args.variables.now in
    let work : List ℕ = c.args.work.now in
    let α : Assignment = drive vs c.args.index in
    let driven : given c.drive.new.bytes ≡ α = c.drive.ensures in
    let count : c.node_count.result ≡ node_count ns = c.node_count.ensures in
    let one : c.root_under.new.work ≡ first_work ns ps ms qs α work = c.root_under.ensures.work_after ∙ ap (λ (β : Assignment). with_pairs ns ps β 0 work) driven in
    let first : c.root_under.result ≡ answer α (root_of ns ps) = c.root_under.ensures.value ∙ ap (λ (β : Assignment). answer β (root_of ns ps)) driven in
    let second : c.root_under-2.result ≡ answer α (root_of ms qs) = c.root_under-2.ensures.value ∙ ap (λ (β : Assignment). answer β (root_of ms qs)) driven in
    let two : c.root_under-2.new.work ≡ tried_work ns ps ms qs α work =
    c.root_under-2.ensures.work_after ∙ ap (λ (β : Assignment). with_pairs ms qs β c.node_count.result c.root_under.new.work) driven
    ∙ ap (λ (k : ℕ). with_pairs ms qs α k c.root_under.new.work) count ∙ ap (with_pairs ms qs α (node_count ns)) one in
    record {
      value = ap₂ (λ (x y : Answer). record { first = x; second = y }) first second;
      work_after = two;
      bytes_after = driven;
    }
