-- `alike` meets its contract: two trees differ in a word, or in a child, and the children's classes tell (`children_tell`).
use Rattle.classes.specs.Alike.{Rows, same_classes, child_rows, other_rows, kinds_differ, data_differ, not_reached, children_tell}
use Rattle.columns.specs.Columns.{cell, mark_column}
use Rattle.lists.specs.Laid.{part_fits}
use Rattle.meaning.specs.Rules.Reach.{mark_of}
use Rattle.meaning.specs.Rules.Trees.{kind_at, datum_at, children_at}
use native.Mathlib.Nat.{zero-add}
use native.Mathlib.Omega.{arith}
use Prim.Native.Nat.{ℕ, ◌<◌}
use mathlib.Core.List.{List}
use mathlib.Core.Path.{◌≡◌, sym, ap, ap₂, ◌∙◌}
use Rattle.classes.proofs.alike.alike.Goals as goal

pub kind_word-requires : goal.kind_word-requires
kind_word-requires c = c.requires.i_bound

pub kind_word-requires-2 : goal.kind_word-requires-2
kind_word-requires-2 c = c.requires.filled.inside

pub returns-then-kind_word : goal.returns-then-kind_word
returns-then-kind_word c = sym (kinds_differ c.requires.filled c.requires.i_bound (λ e. c.if-kind_word.true (c.kind_word.ensures ∙ e ∙ sym c.kind_word-2.ensures)))

pub datum_of-requires : goal.datum_of-requires
datum_of-requires c = c.requires.i_bound

pub datum_of-requires-2 : goal.datum_of-requires-2
datum_of-requires-2 c = c.requires.filled.inside

pub returns-then-datum_of : goal.returns-then-datum_of
returns-then-datum_of c = sym (data_differ c.requires.filled c.requires.i_bound (λ e. c.if-datum_of.true (c.datum_of.ensures ∙ e ∙ sym c.datum_of-2.ensures)))

pub get-requires : goal.get-requires
get-requires c = omega (arith, c.requires.i_bound, c.requires.filled.first.room)

pub returns-then-get-eq0 : goal.returns-then-get-eq0
returns-then-get-eq0 c =
    let ns : List ℕ = c.args.first_nodes.now in
    let ps : List ℕ = c.args.first_pool.now in
    let i : ℕ = c.args.i in
    let work : List ℕ = c.args.work.now in
    let mark : c.get.result ≡ mark_of ns ps i = c.get.ensures ∙ ap (cell work mark_column) (sym (zero-add i)) ∙ c.requires.filled.first.marks i c.requires.i_bound in
    sym (not_reached c.requires.filled c.requires.i_bound (sym mark ∙ c.if-get-eq0.true))

pub children_of-children-requires : goal.children_of-children-requires
children_of-children-requires c =
    let ns : List ℕ = c.args.first_nodes.now in
    let ps : List ℕ = c.args.first_pool.now in
    let i : ℕ = c.args.i in
    record {
      i_bound = c.requires.i_bound;
      part_fits = part_fits ns ps i (c.requires.filled.first.sound.0 i c.requires.i_bound);
    }

pub children_of-others-requires : goal.children_of-others-requires
children_of-others-requires c =
    let ms : List ℕ = c.args.nodes.now in
    let qs : List ℕ = c.args.pool.now in
    let j : ℕ = c.args.j in
    record {
      i_bound = c.requires.filled.inside;
      part_fits = part_fits ms qs j (c.requires.filled.list.sound.0 j c.requires.filled.inside);
    }

pub same_classes-requires : goal.same_classes-requires
same_classes-requires c =
    let ns : List ℕ = c.args.first_nodes.now in
    let ps : List ℕ = c.args.first_pool.now in
    let i : ℕ = c.args.i in
    let ms : List ℕ = c.args.nodes.now in
    let qs : List ℕ = c.args.pool.now in
    let base : ℕ = c.args.base in
    let j : ℕ = c.args.j in
    let work : List ℕ = c.args.work.now in
    let first : Rows work 0 (children_at ns ps i) = child_rows c.requires.filled c.requires.i_bound in
    let second : Rows work base (children_at ms qs j) = other_rows c.requires.filled c.requires.i_bound in
    record {
      rows = rw c.children_of-children.ensures first;
      rows_2 = rw c.children_of-others.ensures second;
    }

pub returns : goal.returns
returns c =
    let ns : List ℕ = c.args.first_nodes.now in
    let ps : List ℕ = c.args.first_pool.now in
    let i : ℕ = c.args.i in
    let ms : List ℕ = c.args.nodes.now in
    let base : ℕ = c.args.base in
    let j : ℕ = c.args.j in
    let work : List ℕ = c.args.work.now in
    let mark : c.get.result ≡ mark_of ns ps i = c.get.ensures ∙ ap (cell work mark_column) (sym (zero-add i)) ∙ c.requires.filled.first.marks i c.requires.i_bound in
    let marked : 0 < mark_of ns ps i = omega (arith, mark, c.if-get-eq0.false) in
    let kinds : kind_at ns i ≡ kind_at ms j = sym c.kind_word.ensures ∙ c.if-kind_word.false ∙ c.kind_word-2.ensures in
    let datum : datum_at ns i ≡ datum_at ms j = sym c.datum_of.ensures ∙ c.if-datum_of.false ∙ c.datum_of-2.ensures in
    c.same_classes.ensures
    ∙ ap₂ (same_classes work base) c.children_of-children.ensures c.children_of-others.ensures
    ∙ children_tell c.requires.filled c.requires.i_bound marked c.requires.j_nonzero kinds datum
