-- The root's row once the pass has filled its list's rows: it is there, it is wide enough, and it shows the root's answer.
use Rattle.std.specs.Prelude.{ℕ, ◌+◌, ◌*◌, ◌-◌, ◌≤◌, ◌≡◌, List, length}
use Rattle.std.proofs.Common.{sym, subst, ◌∙◌, arith}
use Rattle.meaning.specs.declared.Answer.{Answer}
use Rattle.meaning.specs.Rules.Limits.{work_per_node}
use Rattle.meaning.specs.Rules.Trees.{node_count, tree_of, root_of}
use Rattle.meaning.specs.Rules.Evaluable.{Shape, shape_code, width_of, shape}
use Rattle.meaning.specs.Rules.Answers.{Assignment, answer}
use Rattle.columns.specs.Columns.{cell, shape_column, state_column, value_column}
use Rattle.accepted.specs.Nodes.{Logic}
use Rattle.accepted.specs.Root.{logic_shape, root_logic}
use Rattle.rows.specs.Rows.{Filled, Wide, from_row, row_shape, row_wide, row_answer}

module _ (ns ps : List ℕ) (α : Assignment) (base : ℕ) (work : List ℕ) (f : Filled ns ps α base work (node_count ns))
    (row : ℕ) (last : row ≡ base + (node_count ns - 1)) where
  abbrev root : ℕ
  root = node_count ns - 1

  logic : Logic ns ps root
  logic = root_logic ns ps f.ready.sound

  pub root_there : work_per_node * (row + 1) ≤ length work
  root_there = omega (arith, f.ready.room, f.ready.sound.1.1.0, last)

  pub root_wide : Wide work row
  root_wide =
      subst (Wide work) (sym last)
      (row_wide ns ps α base work (node_count ns) f root logic.inside logic (logic_shape ns ps f.ready.sound root logic))

  -- what `answer_at` promises of that row is the root's answer
  pub root_shown : (r : Answer)
      → ((s : Shape) → cell work shape_column row ≡ shape_code s → r ≡ from_row (width_of s) (cell work state_column row) (cell work value_column row))
      → r ≡ answer α (root_of ns ps)
  unfolding root_of
  root_shown r shown =
      let shaped = logic_shape ns ps f.ready.sound root logic in
      let coded : cell work shape_column (base + root) ≡ shape_code (shape (tree_of ns ps root)) = row_shape ns ps α base work (node_count ns) f root logic.inside logic shaped in
      let there : r ≡ from_row (width_of (shape (tree_of ns ps root))) (cell work state_column (base + root)) (cell work value_column (base + root)) = (rw last at shown) (shape (tree_of ns ps root)) coded in
      there ∙ row_answer ns ps α base work (node_count ns) f root logic.inside logic shaped
