-- The work space while classes are written: the marks of both lists, and the classes of the rows that are done.
use Rattle.std.specs.Prelude.{ℕ, ◌+◌, ◌*◌, ◌≤◌, ◌<◌, min, ◌≡◌, List, length}
use Rattle.std.proofs.Common.{sym, ap, ◌∙◌, arith}
use Rattle.meaning.specs.Rules.Limits.{work_per_node}
use Rattle.meaning.specs.Rules.Trees.{node_count, tree_of}
use Rattle.meaning.specs.Rules.Reach.{mark_of}
use Rattle.meaning.specs.Rules.Search.{lowest}
use Rattle.meaning.specs.Claims.Column.{Sound}
use Rattle.columns.specs.Columns.{mark_column, class_column, Column, with_column}
use Rattle.columns.specs.ColumnLaws.{with_length, with_other_column, with_row_before, with_column_lem}
use Rattle.classes.specs.Classes.{has_tree, class_of, class_at, class_own, class_whole, class_marked}

-- a list past number 8 whose first row is `base`, with its marks in their column
pub record Listed (ns ps : List ℕ) (base : ℕ) (work : List ℕ) : Type 0 where
  pub sound : Sound ns ps
  pub room : work_per_node * (base + node_count ns) ≤ length work
  pub marks : Column work mark_column base (node_count ns) (mark_of ns ps)

-- a list beside the first: either it is the first itself, or its rows come behind those, and the first list's classes
-- are written
pub data Order (ns ps work : List ℕ) : List ℕ → List ℕ → ℕ → Type 0 where
  own : Order ns ps work ns ps 0
  behind : {ms qs : List ℕ} {base : ℕ} → node_count ns ≤ base
      → Column work class_column 0 (node_count ns) (class_at ns ps ns ps) → Order ns ps work ms qs base

pub record Ready (ns ps ms qs : List ℕ) (base : ℕ) (work : List ℕ) : Type 0 where
  pub first : Listed ns ps 0 work
  pub list : Listed ms qs base work
  pub order : Order ns ps work ms qs base

-- the nodes of the first list whose rows come before row base + j
abbrev pub limit_at : List ℕ → ℕ → ℕ → ℕ
limit_at ns base j = min (base + j) (node_count ns)

-- at node j: the classes of the first `limit` nodes of the first list, and of the first j of the list, are written
pub record Filled (ns ps : List ℕ) (limit : ℕ) (ms qs : List ℕ) (base j : ℕ) (work : List ℕ) : Type 0 where
  pub first : Listed ns ps 0 work
  pub list : Listed ms qs base work
  pub within : limit ≤ node_count ns
  pub inside : j < node_count ms
  pub before : Column work class_column 0 limit (class_at ns ps ns ps)
  pub below : Column work class_column base j (class_at ns ps ms qs)

-- fewer of them are written as well
pub filled_under : {ns ps : List ℕ} {limit : ℕ} {ms qs : List ℕ} {base j : ℕ} {work : List ℕ}
    → Filled ns ps limit ms qs base j work → (i : ℕ) → i ≤ limit → Filled ns ps i ms qs base j work
filled_under f i h = record {
  first = f.first;
  list = f.list;
  within = omega (arith, f.within);
  inside = f.inside;
  before = λ k l. f.before k (omega arith);
  below = f.below;
}

-- at node j's turn the nodes of the first list that have a row before its own suffice to tell its class
pub record Turn (ns ps ms qs : List ℕ) (base j : ℕ) (work : List ℕ) : Type 0 where
  pub filled : Filled ns ps (limit_at ns base j) ms qs base j work
  pub enough : 0 < mark_of ms qs j → lowest (has_tree ns ps (tree_of ms qs j)) (limit_at ns base j) ≡ class_at ns ps ms qs j

-- writing classes leaves the marks
pub listed_kept : {ns ps : List ℕ} {base : ℕ} {work : List ℕ} → Listed ns ps base work
    → (at n : ℕ) (f : ℕ → ℕ) → Listed ns ps base (with_column class_column at n f work)
listed_kept {ns} {ps} {base} {work} l at n f = record {
  sound = l.sound;
  room = rw (with_length class_column at n f work) l.room;
  marks = λ i h.
      with_other_column class_column at n f work mark_column (base + i) (omega arith) (omega arith) (λ e. absurd (omega arith))
      ∙ l.marks i h;
}

-- ---- node j's turn
module _ {ns ps ms qs : List ℕ} {base : ℕ} {work : List ℕ} (r : Ready ns ps ms qs base work)
    (j : ℕ) (h : j < node_count ms) where
  ready_filled : Filled ns ps (limit_at ns base j) ms qs base j (with_column class_column base j (class_at ns ps ms qs) work)
  ready_filled = record {
    first = listed_kept r.first base j (class_at ns ps ms qs);
    list = listed_kept r.list base j (class_at ns ps ms qs);
    within = omega arith;
    inside = h;
    before = before_of ms qs base r.list h r.order;
    below = with_column_lem class_column base j (class_at ns ps ms qs) work (omega arith) (omega (arith, r.list.room));
  }
    where
      before_of : (ms qs : List ℕ) (base : ℕ) → Listed ms qs base work → j < node_count ms → Order ns ps work ms qs base
          → Column (with_column class_column base j (class_at ns ps ms qs) work) class_column 0 (limit_at ns base j) (class_at ns ps ns ps)
      before_of ms qs base l h own i k =
          with_column_lem class_column 0 j (class_at ns ps ns ps) work (omega arith) (omega (arith, l.room)) i (omega arith)
      before_of ms qs base l h (behind b classes) i k =
          with_row_before class_column base j (class_at ns ps ms qs) work class_column (0 + i) (omega arith) (omega arith) (omega arith)
          ∙ classes i (omega arith)

  ready_class : 0 < mark_of ms qs j → lowest (has_tree ns ps (tree_of ms qs j)) (limit_at ns base j) ≡ class_at ns ps ms qs j
  ready_class marked = enough ms qs base h marked r.order ∙ sym (class_marked ns ps ms qs j marked)
    where
      enough : (ms qs : List ℕ) (base : ℕ) → j < node_count ms → 0 < mark_of ms qs j → Order ns ps work ms qs base
          → lowest (has_tree ns ps (tree_of ms qs j)) (limit_at ns base j) ≡ class_of ns ps (tree_of ms qs j)
      enough ms qs base h marked own =
          let most : limit_at ns 0 j ≡ j = omega arith in
          ap (lowest (has_tree ns ps (tree_of ns ps j))) most ∙ class_own ns ps j h marked
      enough ms qs base h marked (behind b classes) =
          let most : limit_at ns base j ≡ node_count ns = omega arith in
          ap (lowest (has_tree ns ps (tree_of ms qs j))) most ∙ class_whole ns ps (tree_of ms qs j)

  pub ready_turn : Turn ns ps ms qs base j (with_column class_column base j (class_at ns ps ms qs) work)
  ready_turn = record { filled = ready_filled; enough = ready_class }
