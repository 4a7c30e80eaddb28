-- What code may rely on past the numbers 1 and 2.
use Rattle.std.specs.Prelude.{ℕ, ◌≤◌, ◌≡◌, List, length, Ok}
use Rattle.meaning.specs.Rules.Limits.{most_nodes, most_pool}
use Rattle.meaning.specs.Rules.Trees.{node_count}
use Rattle.meaning.specs.Rules.Layout.{sizes}
use Rattle.meaning.specs.Rules.Refusals.{answered}
use Rattle.meaning.proofs.Laws.ColumnLaws.{sizes_passed}
use Rattle.meaning.proofs.Laws.RefusalLaws.{done_of_ok}

pub sizes_within : (ns ps : List ℕ) → (sizes ns ps).number ≡ 0 → (node_count ns ≤ most_nodes) × (length ps ≤ most_pool)
sizes_within ns ps passed = ((sizes_passed ns ps).when.0 passed).1

-- the same of what the code answers
pub nodes_within : (ns ps : List ℕ) → answered (sizes ns ps) ≡ Ok tt → node_count ns ≤ most_nodes
nodes_within ns ps h = (sizes_within ns ps (done_of_ok (sizes ns ps) h)).0

pub pool_within : (ns ps : List ℕ) → answered (sizes ns ps) ≡ Ok tt → length ps ≤ most_pool
pool_within ns ps h = (sizes_within ns ps (done_of_ok (sizes ns ps) h)).1
