-- `lowest_deciding` meets its contract: no assignment below the index decides, so the first that does is the lowest.
use mathlib.Core.Path.{◌≡◌, refl, sym, ap, ap₂, subst, ◌∙◌}
use mathlib.Core.List.{List}
use mathlib.Core.Bool.{true, false, not}
use Prim.Native.Nat.{ℕ, ◌-◌, ◌^◌, ◌≤◌, ◌<◌}
use lib.ListN.{length}
use native.Mathlib.Omega.{arith}
use Rattle.meaning.specs.Rules.Limits.{most_inputs}
use Rattle.meaning.specs.Rules.Trees.{Tree, root_of}
use Rattle.meaning.specs.Rules.Assignments.{inputs, drive}
use Rattle.meaning.specs.Rules.Answers.{Assignment, answer}
use Rattle.meaning.specs.declared.Answer.{Answer}
use Rattle.meaning.specs.Rules.Comparison.{agree, decides, assignments, decided_at, found}
use Rattle.meaning.proofs.Laws.BoolLaws.{not_is_true, not_is_false}
use Rattle.meaning.proofs.Laws.SearchLaws.{none_yet, none_next}
use Rattle.inputs.specs.Driving.{still_undriven}
use Rattle.trials.specs.declared.Roots.{Roots}
use Rattle.trials.specs.Trial.{BothPrepared, tried_work, still_both}
use Rattle.comparer.specs.Searched.{searched_through, searched_to, first_answer, second_answer}
use Rattle.comparer.proofs.lowest.lowest_deciding.Goals as goal

pub power_of_two-total-requires : goal.power_of_two-total-requires
power_of_two-total-requires c =
    let few : length c.args.variables.now ≤ most_inputs = c.requires.drivable.few in
    omega (arith, few)

pub loop-index-init : goal.loop-index-init
loop-index-init c =
    let ns : List ℕ = c.args.nodes.now in
    let ps : List ℕ = c.args.pool.now in
    let ms : List ℕ = c.args.second_nodes.now in
    let qs : List ℕ = c.args.second_pool.now in
    let vs : List ℕ = c.args.variables.now in
    let t : Tree = root_of ns ps in
    let u : Tree = root_of ms qs in
    let named : vs ≡ inputs t = c.requires.variables_value in
    (omega arith, c.power_of_two-total.ensures, refl, refl, c.requires.both_prepared, c.requires.drivable.others, none_yet (decides (inputs t) t u))

pub answers_at-roots-requires : goal.answers_at-roots-requires
answers_at-roots-requires c =
    let ns : List ℕ = c.args.nodes.now in
    let ps : List ℕ = c.args.pool.now in
    let ms : List ℕ = c.args.second_nodes.now in
    let qs : List ℕ = c.args.second_pool.now in
    let vs : List ℕ = c.args.variables.now in
    let t : Tree = root_of ns ps in
    let u : Tree = root_of ms qs in
    let named : vs ≡ inputs t = c.requires.variables_value in
    let size : length c.loop-index.bytes ≡ length c.args.bytes.now = c.loop-index.invariant.2 in
    record {
      both_prepared = c.loop-index.invariant.4;
      drivable = record { few = c.requires.drivable.few; within = rw size c.requires.drivable.within; others = c.loop-index.invariant.5 };
    }

pub shape_of-bytes-then-not-agree : goal.shape_of-bytes-then-not-agree
shape_of-bytes-then-not-agree c = c.answers_at-roots.auto.bytes ∙ c.loop-index.invariant.2

pub shape_of-work-then-not-agree : goal.shape_of-work-then-not-agree
shape_of-work-then-not-agree c = c.answers_at-roots.auto.work ∙ c.loop-index.invariant.3

pub returns-then-not-agree : goal.returns-then-not-agree
returns-then-not-agree c =
    let ns : List ℕ = c.args.nodes.now in
    let ps : List ℕ = c.args.pool.now in
    let ms : List ℕ = c.args.second_nodes.now in
    let qs : List ℕ = c.args.second_pool.now in
    let vs : List ℕ = c.args.variables.now in
    let t : Tree = root_of ns ps in
    let u : Tree = root_of ms qs in
    let named : vs ≡ inputs t = c.requires.variables_value in
    let i : ℕ = c.loop-index.index in
    let α : Assignment = drive vs i in
    let first : c.answers_at-roots.result.first ≡ first_answer t u i = ap (λ (r : Roots). r.first) c.answers_at-roots.ensures.value ∙ ap (λ (xs : List ℕ). answer (drive xs i) t) named in
    let second : c.answers_at-roots.result.second ≡ second_answer t u i = ap (λ (r : Roots). r.second) c.answers_at-roots.ensures.value ∙ ap (λ (xs : List ℕ). answer (drive xs i) u) named in
    let agreed : c.agree.result ≡ agree (first_answer t u i) (second_answer t u i) = c.agree.ensures ∙ ap₂ agree first second in
    let below : i < assignments t = omega (arith, c.loop-index-test.true, c.loop-index.invariant.1, ap (λ (xs : List ℕ). 2 ^ length xs) named) in
    let differ : agree (first_answer t u i) (second_answer t u i) ≡ false = sym agreed ∙ not_is_true c.agree.result c.if-not-agree.true-raw in
    c.decided_at.ensures ∙ ap₂ (λ (x y : Answer). found (decided_at i x y)) first second ∙ ap found (searched_to t u i below c.loop-index.invariant.6 differ)

pub overflow_step-index : goal.overflow_step-index
overflow_step-index c = omega (arith, c.loop-index-test.true, c.loop-index.invariant.1)

pub loop-index-smaller : goal.loop-index-smaller
loop-index-smaller c = omega (arith, c.loop-index-test.true)

pub loop-index-preserved : goal.loop-index-preserved
loop-index-preserved c =
    let ns : List ℕ = c.args.nodes.now in
    let ps : List ℕ = c.args.pool.now in
    let ms : List ℕ = c.args.second_nodes.now in
    let qs : List ℕ = c.args.second_pool.now in
    let vs : List ℕ = c.args.variables.now in
    let t : Tree = root_of ns ps in
    let u : Tree = root_of ms qs in
    let named : vs ≡ inputs t = c.requires.variables_value in
    let i : ℕ = c.loop-index.index in
    let α : Assignment = drive vs i in
    let first : c.answers_at-roots.result.first ≡ first_answer t u i = ap (λ (r : Roots). r.first) c.answers_at-roots.ensures.value ∙ ap (λ (xs : List ℕ). answer (drive xs i) t) named in
    let second : c.answers_at-roots.result.second ≡ second_answer t u i = ap (λ (r : Roots). r.second) c.answers_at-roots.ensures.value ∙ ap (λ (xs : List ℕ). answer (drive xs i) u) named in
    let agreed : c.agree.result ≡ agree (first_answer t u i) (second_answer t u i) = c.agree.ensures ∙ ap₂ agree first second in
    let work : List ℕ = c.loop-index.work in
    let left : c.answers_at-roots.new.work ≡ tried_work ns ps ms qs α work = c.answers_at-roots.ensures.work_after in
    let same : agree (first_answer t u i) (second_answer t u i) ≡ true = sym agreed ∙ not_is_false c.agree.result c.if-not-agree.false-raw in (
      omega (arith, c.loop-index-test.true),
      c.loop-index.invariant.1,
      c.answers_at-roots.auto.bytes ∙ c.loop-index.invariant.2,
      c.answers_at-roots.auto.work ∙ c.loop-index.invariant.3,
      subst (BothPrepared ns ps ms qs) (sym left) (still_both ns ps ms qs α work c.loop-index.invariant.4),
      still_undriven vs c.answers_at-roots.new.bytes i c.answers_at-roots.ensures.bytes_after,
      none_next (decides (inputs t) t u) i c.loop-index.invariant.6 (ap not same),
    )

pub shape_of-bytes : goal.shape_of-bytes
shape_of-bytes c = c.loop-index.invariant.2

pub shape_of-work : goal.shape_of-work
shape_of-work c = c.loop-index.invariant.3

pub returns : goal.returns
returns c =
    let ns : List ℕ = c.args.nodes.now in
    let ps : List ℕ = c.args.pool.now in
    let ms : List ℕ = c.args.second_nodes.now in
    let qs : List ℕ = c.args.second_pool.now in
    let vs : List ℕ = c.args.variables.now in
    let t : Tree = root_of ns ps in
    let u : Tree = root_of ms qs in
    let named : vs ≡ inputs t = c.requires.variables_value in
    let whole : c.loop-index.index ≡ assignments t = omega (arith, c.loop-index-test.false, c.loop-index.invariant.0, c.loop-index.invariant.1, ap (λ (xs : List ℕ). 2 ^ length xs) named) in
    c.equivalent.ensures ∙ ap found (searched_through t u c.loop-index.index whole c.loop-index.invariant.6)
