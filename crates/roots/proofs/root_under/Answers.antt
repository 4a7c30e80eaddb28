-- `root_under` meets its contract: after the pass the last row shows the root's answer.
use Rattle.std.proofs.Common.{ℕ, ◌+◌, ◌-◌, ◌≡◌, List, arith}
use Rattle.meaning.specs.Rules.Assignments.{given}
use Rattle.meaning.specs.Rules.Trees.{node_count}
use Rattle.pass.specs.Written.{with_pairs, passed}
use Rattle.rows.specs.Root.{root_there, root_wide, root_shown}
use Rattle.rows.specs.Rows.{Prepared}
use Rattle.roots.proofs.root_under.Goals as goal

-- the row that is read is the root's
last_row : {ns ps : List ℕ} {base : ℕ} {work : List ℕ} (count : ℕ) → Prepared ns ps base work → count ≡ node_count ns → base + count - 1 ≡ base + (node_count ns - 1)
last_row count ready e = omega (arith, e, ready.sound.1.1.0)

pub overflow_sub-end : goal.overflow_sub-end
overflow_sub-end c = omega (arith, c.node_count.ensures, c.requires.sound.1.1.0)

pub answer_at-requires : goal.answer_at-requires
answer_at-requires c =
    let ns = c.args.nodes.now in
    let ps = c.args.pool.now in
    let α = given c.args.bytes.now in
    let filled = passed ns ps α c.args.base c.args.work.now c.requires in
    let last = last_row c.node_count.result c.requires c.node_count.ensures in
    record {
      row_in_bounds = rw c.pass.ensures (root_there ns ps α c.args.base (with_pairs ns ps α c.args.base c.args.work.now) filled (c.args.base + c.node_count.result - 1) last);
      wide = rw c.pass.ensures (root_wide ns ps α c.args.base (with_pairs ns ps α c.args.base c.args.work.now) filled (c.args.base + c.node_count.result - 1) last);
    }

pub returns-clause-value : goal.returns-clause-value
returns-clause-value c =
    let ns = c.args.nodes.now in
    let ps = c.args.pool.now in
    let α = given c.args.bytes.now in
    root_shown ns ps α c.args.base (with_pairs ns ps α c.args.base c.args.work.now) (passed ns ps α c.args.base c.args.work.now c.requires)
    (c.args.base + c.node_count.result - 1) (last_row c.node_count.result c.requires c.node_count.ensures) c.answer_at.result (rw c.pass.ensures at c.answer_at.ensures)
