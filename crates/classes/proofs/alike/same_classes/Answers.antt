-- `same_classes` meets its contract: of the pairs of children before the loop each has one class (`same_classes` of the rest).
use Rattle.classes.specs.Alike.{classes_count, classes_more, classes_stop, classes_done}
use Rattle.columns.specs.Columns.{cell, class_column}
use borrow.Author.Tests.{eq-eqb, ne_eqb}
use lib.Dec.{eqb}
use lib.ListN.{length, get_or}
use native.Mathlib.Omega.{arith}
use Prim.Native.Nat.{ℕ, ◌<◌, ◌-◌, ◌+◌}
use mathlib.Core.List.{List}
use mathlib.Core.Path.{◌≡◌, refl, sym, ap, ap₂, ◌∙◌}
use Rattle.classes.proofs.alike.same_classes.Goals as goal

pub returns-then-children-others : goal.returns-then-children-others
returns-then-children-others c =
    let cs : List ℕ = c.args.children.now in
    let ds : List ℕ = c.args.others.now in
    let work : List ℕ = c.args.work.now in
    let base : ℕ = c.args.base in
    sym (classes_count work base cs ds c.if-children-others.true)

pub loop-at-init : goal.loop-at-init
loop-at-init c = (omega arith, refl, c.if-children-others.false, refl)

pub get-class-requires : goal.get-class-requires
get-class-requires c = omega (arith, c.requires.rows c.loop-at.at (omega (arith, c.loop-at.invariant.1)), c.wide.ensures.0)

pub overflow_add-base : goal.overflow_add-base
overflow_add-base c = omega (arith, c.requires.rows_2 c.loop-at.at (omega (arith, c.loop-at.invariant.1, c.loop-at.invariant.2)), c.wide-in-loop-at.ensures.0)

pub get-requires : goal.get-requires
get-requires c = omega (arith, c.requires.rows_2 c.loop-at.at (omega (arith, c.loop-at.invariant.1, c.loop-at.invariant.2)), c.wide-in-loop-at.ensures.0)

pub returns-then-class-get : goal.returns-then-class-get
returns-then-class-get c =
    let cs : List ℕ = c.args.children.now in
    let ds : List ℕ = c.args.others.now in
    let work : List ℕ = c.args.work.now in
    let base : ℕ = c.args.base in
    let i : ℕ = c.loop-at.at in
    let here : i < length cs = omega (arith, c.loop-at.invariant.1) in
    let there : i < length ds = omega (arith, c.loop-at.invariant.1, c.loop-at.invariant.2) in
    let one : c.get-class.result ≡ cell work class_column (get_or cs i 0) = c.get-class.ensures ∙ ap (cell work class_column) c.wide.ensures.0 in
    let two : c.get.result ≡ cell work class_column (base + get_or ds i 0) = c.get.ensures ∙ ap (λ (k : ℕ). cell work class_column (base + k)) c.wide-in-loop-at.ensures.0 in
    sym (sym c.loop-at.invariant.3 ∙ classes_stop work base cs ds i here there (ap₂ eqb (sym one) (sym two) ∙ ne_eqb _ _ c.if-class-get.true))

pub loop-at-preserved : goal.loop-at-preserved
loop-at-preserved c =
    let cs : List ℕ = c.args.children.now in
    let ds : List ℕ = c.args.others.now in
    let work : List ℕ = c.args.work.now in
    let base : ℕ = c.args.base in
    let i : ℕ = c.loop-at.at in
    let here : i < length cs = omega (arith, c.loop-at.invariant.1) in
    let there : i < length ds = omega (arith, c.loop-at.invariant.1, c.loop-at.invariant.2) in
    let one : c.get-class.result ≡ cell work class_column (get_or cs i 0) = c.get-class.ensures ∙ ap (cell work class_column) c.wide.ensures.0 in
    let two : c.get.result ≡ cell work class_column (base + get_or ds i 0) = c.get.ensures ∙ ap (λ (k : ℕ). cell work class_column (base + k)) c.wide-in-loop-at.ensures.0 in
    (omega arith, c.loop-at.invariant.1, c.loop-at.invariant.2, classes_more work base cs ds i here there (ap₂ eqb (sym one) (sym two) ∙ eq-eqb _ _ c.if-class-get.false) ∙ c.loop-at.invariant.3)

pub returns : goal.returns
returns c =
    let cs : List ℕ = c.args.children.now in
    let ds : List ℕ = c.args.others.now in
    let work : List ℕ = c.args.work.now in
    let base : ℕ = c.args.base in
    sym (sym c.loop-at.invariant.3 ∙ classes_done work base cs ds c.loop-at.at (omega (arith, c.loop-at.invariant.1)) (omega (arith, c.loop-at.invariant.1, c.loop-at.invariant.2)))
