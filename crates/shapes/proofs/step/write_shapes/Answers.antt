use mathlib.Core.Path.{◌≡◌, sym, ap, ap₂, ◌∙◌}
use mathlib.Core.List.{List}
use Prim.Native.Nat.{ℕ, ◌≤◌, ◌<◌, ◌+◌, ◌*◌}
use lib.ListN.{length, set}
use native.Mathlib.Omega.{arith}
use Rattle.meaning.specs.Claims.Column.{WellLaid}
use Rattle.meaning.specs.Rules.Evaluable.{shape_code, shape_step}
use Rattle.meaning.specs.Rules.Trees.{node_count}
use Rattle.meaning.specs.declared.kinds.Kind.{Kind}
use Rattle.meaning.specs.Rules.Limits.{work_per_node}
use Rattle.columns.specs.ColumnLaws.{with_none, with_next, with_length, with_column_lem}
use Rattle.columns.specs.Columns.{place, shape_column, Column, with_column}
use Rattle.shapes.specs.Shapes.{shape_at, child_shapes, shape_step_lem, children_hold, child_rows}
use Rattle.shapes.proofs.step.write_shapes.Goals as goal

pub loop-i-init : goal.loop-i-init
loop-i-init c = (omega arith, c.node_count-n.ensures, sym (with_none shape_column c.args.base (shape_at c.args.nodes.now c.args.pool.now) c.args.work.now))

pub shape_step-shape-requires : goal.shape_step-shape-requires
shape_step-shape-requires c =
    let ns : List ℕ = c.args.nodes.now in
    let ps : List ℕ = c.args.pool.now in
    let base : ℕ = c.args.base in
    let work : List ℕ = c.args.work.now in
    let i : ℕ = c.loop-i.i in
    let room : work_per_node * (base + node_count ns) ≤ length work = c.requires.nodes_in_bounds in
    let kept : length c.loop-i.work ≡ length work = ap length c.loop-i.invariant.2 ∙ with_length shape_column base i (shape_at ns ps) work in
    let inside : i < node_count ns = omega arith in
    let well : WellLaid ns ps i = c.requires.laid i inside in
    rw c.children_of.ensures (child_rows ns ps c.loop-i.work base i well inside (omega (arith, room, kept)))

pub overflow_add-base : goal.overflow_add-base
overflow_add-base c =
    let ns : List ℕ = c.args.nodes.now in
    let ps : List ℕ = c.args.pool.now in
    let base : ℕ = c.args.base in
    let work : List ℕ = c.args.work.now in
    let i : ℕ = c.loop-i.i in
    let room : work_per_node * (base + node_count ns) ≤ length work = c.requires.nodes_in_bounds in
    let kept : length c.loop-i.work ≡ length work = ap length c.loop-i.invariant.2 ∙ with_length shape_column base i (shape_at ns ps) work in
    let inside : i < node_count ns = omega arith in
    let well : WellLaid ns ps i = c.requires.laid i inside in omega (arith, room, kept, inside)

pub put-requires : goal.put-requires
put-requires c =
    let ns : List ℕ = c.args.nodes.now in
    let ps : List ℕ = c.args.pool.now in
    let base : ℕ = c.args.base in
    let work : List ℕ = c.args.work.now in
    let i : ℕ = c.loop-i.i in
    let room : work_per_node * (base + node_count ns) ≤ length work = c.requires.nodes_in_bounds in
    let kept : length c.loop-i.work ≡ length work = ap length c.loop-i.invariant.2 ∙ with_length shape_column base i (shape_at ns ps) work in
    let inside : i < node_count ns = omega arith in
    let well : WellLaid ns ps i = c.requires.laid i inside in omega (arith, room, kept, inside)

pub loop-i-preserved : goal.loop-i-preserved
loop-i-preserved c =
    let ns : List ℕ = c.args.nodes.now in
    let ps : List ℕ = c.args.pool.now in
    let base : ℕ = c.args.base in
    let work : List ℕ = c.args.work.now in
    let i : ℕ = c.loop-i.i in
    let room : work_per_node * (base + node_count ns) ≤ length work = c.requires.nodes_in_bounds in
    let kept : length c.loop-i.work ≡ length work = ap length c.loop-i.invariant.2 ∙ with_length shape_column base i (shape_at ns ps) work in
    let inside : i < node_count ns = omega arith in
    let well : WellLaid ns ps i = c.requires.laid i inside in
    let below : Column c.loop-i.work shape_column base i (shape_at ns ps) =
    rw c.loop-i.invariant.2 (with_column_lem shape_column base i (shape_at ns ps) work (omega arith) (omega (arith, room, inside))) in
    let shape : c.shape_step-shape.result ≡ shape_at ns ps i =
    c.shape_step-shape.ensures (child_shapes ns ps i) (rw c.children_of.ensures (children_hold ns ps c.loop-i.work base i well below))
    ∙ ap (λ (k : Kind). shape_code (shape_step k (child_shapes ns ps i))) c.kind_of.ensures ∙ sym (shape_step_lem ns ps i well) in (
      omega arith,
      c.loop-i.invariant.1,
      c.put.ensures ∙ ap₂ (λ (w : List ℕ) (v : ℕ). set w (place shape_column (base + i)) v) c.loop-i.invariant.2 shape
          ∙ sym (with_next shape_column base i (shape_at ns ps) work),
    )

pub shape_of-work : goal.shape_of-work
shape_of-work c =
    let ns : List ℕ = c.args.nodes.now in
    let ps : List ℕ = c.args.pool.now in
    let base : ℕ = c.args.base in
    let work : List ℕ = c.args.work.now in
    let i : ℕ = c.loop-i.i in
    let room : work_per_node * (base + node_count ns) ≤ length work = c.requires.nodes_in_bounds in
    let kept : length c.loop-i.work ≡ length work = ap length c.loop-i.invariant.2 ∙ with_length shape_column base i (shape_at ns ps) work in kept

pub returns : goal.returns
returns c =
    let ns : List ℕ = c.args.nodes.now in
    let ps : List ℕ = c.args.pool.now in
    let base : ℕ = c.args.base in
    let work : List ℕ = c.args.work.now in
    let i : ℕ = c.loop-i.i in
    let room : work_per_node * (base + node_count ns) ≤ length work = c.requires.nodes_in_bounds in
    let kept : length c.loop-i.work ≡ length work = ap length c.loop-i.invariant.2 ∙ with_length shape_column base i (shape_at ns ps) work in
    let all : i ≡ node_count ns = omega arith in
    c.loop-i.invariant.2 ∙ ap (λ (n : ℕ). with_column shape_column base n (shape_at ns ps) work) all
