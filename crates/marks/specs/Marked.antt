-- What a walk over the nodes finds in the work space once they are marked.
use Rattle.std.specs.Prelude.{ℕ, ◌+◌, ◌*◌, ◌≤◌, List, length}
use Rattle.meaning.specs.Rules.Limits.{work_per_node}
use Rattle.meaning.specs.Rules.Trees.{node_count}
use Rattle.meaning.specs.Rules.Reach.{mark_of}
use Rattle.lists.specs.Laid.{Laid}
use Rattle.columns.specs.Columns.{mark_column, Column}

-- the work space has rows for the list, and its marks in their column
pub record Marked (ns ps : List ℕ) (base : ℕ) (work : List ℕ) : Type 0 where
  pub laid : Laid ns ps
  pub room : work_per_node * (base + node_count ns) ≤ length work
  pub marks : Column work mark_column base (node_count ns) (mark_of ns ps)
