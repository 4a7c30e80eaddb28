-- `list_subtrees` meets its contract: the walk begins at the root's home, and at its end all is seen.
use Rattle.listing.specs.Ends.{begin, ended}
use Rattle.listing.specs.Turn.{visit_reads, visit_entry, visit_depth, visit_row, visit_turn}
use Rattle.listing.specs.Walk.{Walk, Visit}
use Rattle.columns.specs.Columns.{cell, home_column}
use Rattle.meaning.specs.Rules.Trees.{node_count}
use Prim.Native.Nat.{ℕ, ◌-◌}
use mathlib.Core.List.{List}
use mathlib.Core.Path.{◌≡◌, refl, sym, ap, subst, ◌∙◌}
use native.Mathlib.Omega.{arith}
use Rattle.listing.proofs.list_subtrees.Goals as goal

pub overflow_sub-node_count : goal.overflow_sub-node_count
overflow_sub-node_count c =
    let ns : List ℕ = c.args.nodes.now in
    let ps : List ℕ = c.args.pool.now in
    let w : List ℕ = c.args.work.now in
    omega (arith, c.requires.formed.sound.1.1.0, c.node_count.ensures)

pub home_of-root-requires : goal.home_of-root-requires
home_of-root-requires c =
    let ns : List ℕ = c.args.nodes.now in
    let ps : List ℕ = c.args.pool.now in
    let w : List ℕ = c.args.work.now in
    omega (arith, c.requires.formed.sound.1.1.0, c.requires.formed.room, c.node_count.ensures)

pub enter-at-requires : goal.enter-at-requires
enter-at-requires c =
    let ns : List ℕ = c.args.nodes.now in
    let ps : List ℕ = c.args.pool.now in
    let w : List ℕ = c.args.work.now in
    let last : c.node_count.result - 1 ≡ node_count ns - 1 = ap (λ (n : ℕ). n - 1) c.node_count.ensures in
    let root : c.home_of-root.result ≡ cell w home_column (node_count ns - 1) = c.home_of-root.ensures ∙ ap (cell w home_column) last in
    let visit : Visit ns ps w 0 0 c.home_of-root.result = subst (Visit ns ps w 0 0) (sym root) (begin c.requires.formed c.requires.by_index) in
    record {
      readable = visit_reads visit;
      work_per_node_in_bounds = visit_entry visit;
      work_per_node_in_bounds_2 = visit_depth visit;
      work_per_node_in_bounds_3 = visit_row visit;
    }

pub loop-at-init : goal.loop-at-init
loop-at-init c =
    let ns : List ℕ = c.args.nodes.now in
    let ps : List ℕ = c.args.pool.now in
    let w : List ℕ = c.args.work.now in
    let last : c.node_count.result - 1 ≡ node_count ns - 1 = ap (λ (n : ℕ). n - 1) c.node_count.ensures in
    let root : c.home_of-root.result ≡ cell w home_column (node_count ns - 1) = c.home_of-root.ensures ∙ ap (cell w home_column) last in
    let visit : Visit ns ps w 0 0 c.home_of-root.result = subst (Visit ns ps w 0 0) (sym root) (begin c.requires.formed c.requires.by_index) in
    ((visit_turn visit c.enter-at.new.work c.enter-at.result.depth c.enter-at.result.count c.enter-at.ensures.work_after c.enter-at.ensures.depth_value.0 c.enter-at.ensures.depth_value.1).0, refl)

pub turn-at-requires : goal.turn-at-requires
turn-at-requires c =
    record {
      walk = c.loop-at.invariant.0;
      depth_nonzero = c.loop-at-test.true;
    }

pub loop-at-smaller : goal.loop-at-smaller
loop-at-smaller c = c.turn-at.ensures.depth_bound

pub loop-at-preserved : goal.loop-at-preserved
loop-at-preserved c = (c.turn-at.ensures.walk_2, c.turn-at.auto.work ∙ c.loop-at.invariant.1)

pub shape_of-work : goal.shape_of-work
shape_of-work c = c.loop-at.invariant.1 ∙ c.enter-at.auto.work

pub returns : goal.returns
returns c =
    let ns : List ℕ = c.args.nodes.now in
    let ps : List ℕ = c.args.pool.now in
    let w : List ℕ = c.args.work.now in
    let end : c.loop-at.at.depth ≡ 0 = omega (arith, c.loop-at-test.false) in
    ended (subst (λ (d : ℕ). Walk ns ps c.loop-at.work d c.loop-at.at.count) end c.loop-at.invariant.0)
