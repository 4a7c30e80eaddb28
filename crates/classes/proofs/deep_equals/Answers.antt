-- `deep_equals` meets its contract: both lists' classes are written, and the roots' tell (`roots_told`).
use Rattle.classes.specs.Both.{both_classes, ready_first, ready_second, roots_told}
use Rattle.classes.specs.Ready.{Ready}
use Rattle.classes.specs.Classes.{class_at}
use Rattle.columns.specs.Columns.{cell, class_column, with_column}
use Rattle.meaning.specs.Rules.Trees.{node_count}
use lib.Dec.{eqb}
use lib.ListN.{length}
use native.Mathlib.Omega.{arith}
use Prim.Native.Nat.{ℕ, ◌+◌, ◌-◌}
use mathlib.Core.List.{List}
use mathlib.Core.Path.{◌≡◌, sym, ap, ap₂, subst, ◌∙◌}
use Rattle.classes.proofs.deep_equals.Goals as goal

pub write_classes-requires : goal.write_classes-requires
write_classes-requires c = ready_first c.requires.listed

pub write_classes-requires-2 : goal.write_classes-requires-2
write_classes-requires-2 c =
    let ns : List ℕ = c.args.first_nodes.now in
    let ps : List ℕ = c.args.first_pool.now in
    let ms : List ℕ = c.args.nodes.now in
    let qs : List ℕ = c.args.pool.now in
    let ready : Ready ns ps ms qs (node_count ns) c.write_classes.new.work =
    subst (λ (w : List ℕ). Ready ns ps ms qs (node_count ns) w) (sym c.write_classes.ensures) (ready_second c.requires.listed c.requires.listed_2) in
    subst (λ (b : ℕ). Ready ns ps ms qs b c.write_classes.new.work) (sym c.node_count-base.ensures) ready

pub overflow_sub-last : goal.overflow_sub-last
overflow_sub-last c = omega (arith, c.node_count-last.ensures, c.requires.listed_2.sound.1.1.0)

pub overflow_sub-base : goal.overflow_sub-base
overflow_sub-base c = omega (arith, c.node_count-base.ensures, c.requires.listed.sound.1.1.0)

pub get-requires : goal.get-requires
get-requires c =
    let work : List ℕ = c.args.work.now in
    let kept : length c.write_classes-2.new.work ≡ length work = c.write_classes-2.auto.work ∙ c.write_classes.auto.work in
    omega (arith, kept, c.node_count-base.ensures, c.requires.listed.sound.1.1.0, c.requires.listed.room)

pub overflow_add-base : goal.overflow_add-base
overflow_add-base c = omega (arith, c.node_count-base.ensures, c.node_count-last.ensures, c.requires.listed_2.sound.1.1.0, c.requires.listed_2.room)

pub get-requires-2 : goal.get-requires-2
get-requires-2 c =
    let work : List ℕ = c.args.work.now in
    let kept : length c.write_classes-2.new.work ≡ length work = c.write_classes-2.auto.work ∙ c.write_classes.auto.work in
    omega (arith, kept, c.node_count-base.ensures, c.node_count-last.ensures, c.requires.listed_2.sound.1.1.0, c.requires.listed_2.room)

pub shape_of-work : goal.shape_of-work
shape_of-work c =
    let work : List ℕ = c.args.work.now in
    let kept : length c.write_classes-2.new.work ≡ length work = c.write_classes-2.auto.work ∙ c.write_classes.auto.work in
    kept

pub returns : goal.returns
unfolding both_classes
returns c =
    let ns : List ℕ = c.args.first_nodes.now in
    let ps : List ℕ = c.args.first_pool.now in
    let ms : List ℕ = c.args.nodes.now in
    let qs : List ℕ = c.args.pool.now in
    let work : List ℕ = c.args.work.now in
    let after : c.write_classes-2.new.work ≡ both_classes ns ps ms qs work =
    c.write_classes-2.ensures ∙ ap₂ (λ (b : ℕ) (w : List ℕ). with_column class_column b (node_count ms) (class_at ns ps ms qs) w) c.node_count-base.ensures c.write_classes.ensures in
    let one : c.get.result ≡ cell (both_classes ns ps ms qs work) class_column (node_count ns - 1) =
    c.get.ensures ∙ ap₂ (λ (w : List ℕ) (b : ℕ). cell w class_column (b - 1)) after c.node_count-base.ensures in
    let two : c.get-2.result ≡ cell (both_classes ns ps ms qs work) class_column (node_count ns + (node_count ms - 1)) =
    c.get-2.ensures ∙ ap₂ (λ (w : List ℕ) (b : ℕ). cell w class_column (b + (c.node_count-last.result - 1))) after c.node_count-base.ensures
    ∙ ap (λ (m : ℕ). cell (both_classes ns ps ms qs work) class_column (node_count ns + (m - 1))) c.node_count-last.ensures in
    record {
      value = ap₂ eqb one two ∙ roots_told c.requires.listed c.requires.listed_2;
      work_after = after;
    }
