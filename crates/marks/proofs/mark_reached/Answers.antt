use mathlib.Core.Path.{◌≡◌, sym, ap, ap₂, ◌∙◌}
use mathlib.Core.List.{List}
use Prim.Native.Nat.{ℕ, suc, ◌≤◌, ◌<◌, ◌+◌, ◌-◌, ◌*◌}
use lib.ListN.{length}
use native.Mathlib.Omega.{arith}
use Rattle.meaning.specs.Rules.Reach.{mark_of}
use Rattle.meaning.specs.Rules.Trees.{node_count}
use Rattle.meaning.specs.Rules.Limits.{work_per_node}
use Rattle.lists.specs.Laid.{children_below_lem}
use Rattle.columns.specs.Columns.{cell, mark_column, with_column}
use Rattle.marks.specs.Passing.{marked, own_mark, mark_small, turn_marks, start_marks, end_marks}
use Rattle.marks.specs.Handing.{only_root, turn}
use Rattle.marks.proofs.mark_reached.Goals as goal

pub loop-p-init : goal.loop-p-init
loop-p-init c =
    let ns : List ℕ = c.args.nodes.now in
    let ps : List ℕ = c.args.pool.now in
    let base : ℕ = c.args.base in
    let work : List ℕ = c.args.work.now in
    let start : List ℕ = c.mark_root.new.work in
    let count : c.node_count-n.result ≡ node_count ns = c.node_count-n.ensures in
    let rooted : start ≡ with_column mark_column base (node_count ns) (only_root (node_count ns)) work =
    c.mark_root.ensures ∙ ap (λ (n : ℕ). with_column mark_column base n (only_root n) work) count in
    let all : start ≡ marked ns ps base start (c.node_count-n.result - 1) = start_marks ns ps base start work rooted ∙ ap (λ (n : ℕ). marked ns ps base start (n - 1)) (sym count) in
    (omega (arith, count), all)

pub hand_on-requires-clause-well_laid : goal.hand_on-requires-clause-well_laid
hand_on-requires-clause-well_laid c = c.requires.laid (c.loop-p.p - 1) (omega (arith, c.loop-p.invariant.0))

pub hand_on-requires-clause-p_bound_2 : goal.hand_on-requires-clause-p_bound_2
hand_on-requires-clause-p_bound_2 c =
    let ns : List ℕ = c.args.nodes.now in
    let ps : List ℕ = c.args.pool.now in
    let base : ℕ = c.args.base in
    let start : List ℕ = c.mark_root.new.work in
    let room : work_per_node * (base + node_count ns) ≤ length start = omega (arith, c.mark_root.auto.work, c.requires.nodes_in_bounds) in
    let p : ℕ = c.loop-p.p - 1 in
    let inside : p < node_count ns = omega (arith, c.loop-p.invariant.0) in
    let own : cell c.loop-p.work mark_column (base + p) ≡ mark_of ns ps p =
    ap (λ (w : List ℕ). cell w mark_column (base + p)) c.loop-p.invariant.1 ∙ own_mark ns ps base start room p inside in
    omega (arith, own, mark_small ns ps p, c.requires.nodes_bound)

pub loop-p-preserved : goal.loop-p-preserved
loop-p-preserved c =
    let ns : List ℕ = c.args.nodes.now in
    let ps : List ℕ = c.args.pool.now in
    let base : ℕ = c.args.base in
    let start : List ℕ = c.mark_root.new.work in
    let room : work_per_node * (base + node_count ns) ≤ length start = omega (arith, c.mark_root.auto.work, c.requires.nodes_in_bounds) in
    let p : ℕ = c.loop-p.p - 1 in
    let inside : p < node_count ns = omega (arith, c.loop-p.invariant.0) in
    let k : ℕ = p - 1 in
    let down : p ≡ suc k = omega arith in
    let below = children_below_lem ns ps (suc k) (c.requires.laid (suc k) (omega (arith, inside))) in (
      omega (arith, inside),
      c.hand_on.ensures ∙ ap₂ (turn ns ps base) down (c.loop-p.invariant.1 ∙ ap (marked ns ps base start) down)
          ∙ turn_marks ns ps base start room k (omega (arith, inside)) below,
    )

pub returns : goal.returns
returns c =
    let ns : List ℕ = c.args.nodes.now in
    let ps : List ℕ = c.args.pool.now in
    let base : ℕ = c.args.base in
    let work : List ℕ = c.args.work.now in
    let start : List ℕ = c.mark_root.new.work in
    let count : c.node_count-n.result ≡ node_count ns = c.node_count-n.ensures in
    let rooted : start ≡ with_column mark_column base (node_count ns) (only_root (node_count ns)) work =
    c.mark_root.ensures ∙ ap (λ (n : ℕ). with_column mark_column base n (only_root n) work) count in
    let end : c.loop-p.p - 1 ≡ 0 = omega arith in
    c.loop-p.invariant.1 ∙ ap (marked ns ps base start) end ∙ end_marks ns ps base start work rooted
