-- Both lists' classes: the first list's in rows from 0 on, the second's behind them, and what the roots' cells tell.
use Prim.Native.Nat.{ℕ, ◌+◌, ◌-◌, ◌<◌}
use Rattle.std.specs.Prelude.{◌≡◌, ◌≢◌, List, length}
use Rattle.std.proofs.Common.{sym, ◌∙◌, arith, zero-add}
use Rattle.std.proofs.Math.Path.{ap, ap₂}
use Rattle.std.proofs.Math.Dec.{eqb}
use Rattle.meaning.specs.Rules.Limits.{work_per_node}
use Rattle.meaning.specs.Rules.Trees.{same, node_count, tree_of, root_of}
use Rattle.meaning.specs.Rules.Reach.{mark_of}
use Rattle.meaning.proofs.Laws.ReachLaws.{reach_root}
use Rattle.columns.specs.Columns.{cell, class_column, with_column}
use Rattle.columns.specs.ColumnLaws.{with_length, with_other_column, with_row_before, with_column_lem}
use Rattle.classes.specs.Classes.{class_of, class_at, class_same, class_marked}
use Rattle.classes.specs.Ready.{Listed, Ready, own, behind, listed_kept}

-- the work space with the first list's classes, and with the second's behind them
abbrev pub first_classes : List ℕ → List ℕ → List ℕ → List ℕ
first_classes ns ps work = with_column class_column 0 (node_count ns) (class_at ns ps ns ps) work

unfoldable pub both_classes : List ℕ → List ℕ → List ℕ → List ℕ → List ℕ → List ℕ
both_classes ns ps ms qs work =
    with_column class_column (node_count ns) (node_count ms) (class_at ns ps ms qs) (first_classes ns ps work)

-- ---- nothing but column CLASS is written
module _ (ns ps ms qs work : List ℕ) where
  pub both_length : length (both_classes ns ps ms qs work) ≡ length work
  unfolding both_classes
  both_length =
      with_length class_column (node_count ns) (node_count ms) (class_at ns ps ms qs) (first_classes ns ps work)
      ∙ with_length class_column 0 (node_count ns) (class_at ns ps ns ps) work

  pub both_other_column : (p row : ℕ) → p < work_per_node → p ≢ class_column
      → cell (both_classes ns ps ms qs work) p row ≡ cell work p row
  unfolding both_classes
  both_other_column p row h ne =
      with_other_column class_column (node_count ns) (node_count ms) (class_at ns ps ms qs) (first_classes ns ps work) p row (omega arith) h ne
      ∙ with_other_column class_column 0 (node_count ns) (class_at ns ps ns ps) work p row (omega arith) h ne

-- ---- one list after the other
pub ready_first : {ns ps work : List ℕ} → Listed ns ps 0 work → Ready ns ps ns ps 0 work
ready_first first = record { first = first; list = first; order = own }

module _ {ns ps ms qs work : List ℕ} (first : Listed ns ps 0 work) (list : Listed ms qs (node_count ns) work) where
  pub ready_second : Ready ns ps ms qs (node_count ns) (first_classes ns ps work)
  ready_second = record {
    first = listed_kept first 0 (node_count ns) (class_at ns ps ns ps);
    list = listed_kept list 0 (node_count ns) (class_at ns ps ns ps);
    order = behind {base = node_count ns} (omega arith) (with_column_lem class_column 0 (node_count ns) (class_at ns ps ns ps) work (omega arith) first.room);
  }

  -- the roots' cells tell whether the trees are the same
  pub roots_told : eqb (cell (both_classes ns ps ms qs work) class_column (node_count ns - 1))
      (cell (both_classes ns ps ms qs work) class_column (node_count ns + (node_count ms - 1)))
      ≡ same (root_of ns ps) (root_of ms qs)
  unfolding both_classes root_of
  roots_told =
      let n : ℕ = node_count ns in
      let m : ℕ = node_count ms in
      let some : 0 < n = first.sound.1.1.0 in
      let others : 0 < m = list.sound.1.1.0 in
      let marked : 0 < mark_of ns ps (n - 1) = reach_root ns ps (n - 1) (omega arith) in
      let reached : 0 < mark_of ms qs (m - 1) = reach_root ms qs (m - 1) (omega arith) in
      let one : cell (both_classes ns ps ms qs work) class_column (n - 1) ≡ class_of ns ps (tree_of ns ps (n - 1)) =
      with_row_before class_column n m (class_at ns ps ms qs) (first_classes ns ps work) class_column (n - 1) (omega arith) (omega arith) (omega arith)
      ∙ ap (cell (first_classes ns ps work) class_column) (sym (zero-add (n - 1)))
      ∙ with_column_lem class_column 0 n (class_at ns ps ns ps) work (omega arith) first.room (n - 1) (omega arith)
      ∙ class_marked ns ps ns ps (n - 1) marked in
      let two : cell (both_classes ns ps ms qs work) class_column (n + (m - 1)) ≡ class_of ns ps (tree_of ms qs (m - 1)) =
      with_column_lem class_column n m (class_at ns ps ms qs) (first_classes ns ps work) (omega arith) ready_second.list.room (m - 1) (omega arith)
      ∙ class_marked ns ps ms qs (m - 1) reached in
      ap₂ eqb one two ∙ class_same ns ps (n - 1) (tree_of ms qs (m - 1)) (omega arith) marked
