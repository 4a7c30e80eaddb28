-- `write_classes` meets its contract: the loop has written the classes below it (`with_column`), and nothing else.
use Rattle.classes.specs.Ready.{Turn, ready_turn}
use Rattle.classes.specs.Classes.{class_at}
use Rattle.columns.specs.ColumnLaws.{with_none, with_next, with_length}
use Rattle.columns.specs.Columns.{place, class_column, with_column}
use Rattle.meaning.specs.Rules.Trees.{node_count}
use lib.ListN.{length, set}
use native.Mathlib.Omega.{arith}
use Prim.Native.Nat.{ℕ, ◌+◌, ◌-◌}
use mathlib.Core.List.{List}
use mathlib.Core.Path.{◌≡◌, sym, ap, ap₂, subst, ◌∙◌}
use Rattle.classes.proofs.write_classes.Goals as goal

pub loop-j-init : goal.loop-j-init
loop-j-init c =
    let ns : List ℕ = c.args.first_nodes.now in
    let ps : List ℕ = c.args.first_pool.now in
    let ms : List ℕ = c.args.nodes.now in
    let qs : List ℕ = c.args.pool.now in
    let base : ℕ = c.args.base in
    let work : List ℕ = c.args.work.now in
    let class : ℕ → ℕ = class_at ns ps ms qs in
    (omega arith, c.node_count-n.ensures, sym (with_none class_column base class work))

pub class_of_node-class-requires : goal.class_of_node-class-requires
class_of_node-class-requires c =
    let ns : List ℕ = c.args.first_nodes.now in
    let ps : List ℕ = c.args.first_pool.now in
    let ms : List ℕ = c.args.nodes.now in
    let qs : List ℕ = c.args.pool.now in
    let base : ℕ = c.args.base in
    let work : List ℕ = c.args.work.now in
    let class : ℕ → ℕ = class_at ns ps ms qs in
    let j : ℕ = c.loop-j.j in
    let turn : Turn ns ps ms qs base j (with_column class_column base j class work) = ready_turn c.requires j (omega (arith, c.loop-j.invariant.1)) in
    subst (λ (w : List ℕ). Turn ns ps ms qs base j w) (sym c.loop-j.invariant.2) turn

pub overflow_add-base : goal.overflow_add-base
overflow_add-base c = omega (arith, c.loop-j.invariant.1, c.requires.list.room)

pub put-requires : goal.put-requires
put-requires c =
    let ns : List ℕ = c.args.first_nodes.now in
    let ps : List ℕ = c.args.first_pool.now in
    let ms : List ℕ = c.args.nodes.now in
    let qs : List ℕ = c.args.pool.now in
    let base : ℕ = c.args.base in
    let work : List ℕ = c.args.work.now in
    let class : ℕ → ℕ = class_at ns ps ms qs in
    let j : ℕ = c.loop-j.j in
    let size : length c.loop-j.work ≡ length work = ap length c.loop-j.invariant.2 ∙ with_length class_column base j class work in
    omega (arith, size, c.loop-j.invariant.1, c.requires.list.room)

pub loop-j-preserved : goal.loop-j-preserved
loop-j-preserved c =
    let ns : List ℕ = c.args.first_nodes.now in
    let ps : List ℕ = c.args.first_pool.now in
    let ms : List ℕ = c.args.nodes.now in
    let qs : List ℕ = c.args.pool.now in
    let base : ℕ = c.args.base in
    let work : List ℕ = c.args.work.now in
    let class : ℕ → ℕ = class_at ns ps ms qs in
    let j : ℕ = c.loop-j.j in
    let stored : c.put.new.work ≡ with_column class_column base (j + 1) class work =
    c.put.ensures ∙ ap₂ (λ (w : List ℕ) (x : ℕ). set w (place class_column (base + j)) x) c.loop-j.invariant.2 c.class_of_node-class.ensures ∙ sym (with_next class_column base j class work) in
    (omega arith, c.loop-j.invariant.1, stored)

pub shape_of-work : goal.shape_of-work
shape_of-work c =
    let ns : List ℕ = c.args.first_nodes.now in
    let ps : List ℕ = c.args.first_pool.now in
    let ms : List ℕ = c.args.nodes.now in
    let qs : List ℕ = c.args.pool.now in
    let base : ℕ = c.args.base in
    let work : List ℕ = c.args.work.now in
    let class : ℕ → ℕ = class_at ns ps ms qs in
    let j : ℕ = c.loop-j.j in
    ap length c.loop-j.invariant.2 ∙ with_length class_column base j class work

pub returns : goal.returns
returns c =
    let ns : List ℕ = c.args.first_nodes.now in
    let ps : List ℕ = c.args.first_pool.now in
    let ms : List ℕ = c.args.nodes.now in
    let qs : List ℕ = c.args.pool.now in
    let base : ℕ = c.args.base in
    let work : List ℕ = c.args.work.now in
    let class : ℕ → ℕ = class_at ns ps ms qs in
    let j : ℕ = c.loop-j.j in
    let all : j ≡ node_count ms = omega (arith, c.loop-j.invariant.1) in
    c.loop-j.invariant.2 ∙ ap (λ (m : ℕ). with_column class_column base m class work) all
