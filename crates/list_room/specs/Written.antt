-- Room for a list that a person writes down, as the constants of src/written.rt have it.
use Rattle.std.specs.Prelude.{ℕ, ◌+◌, ◌*◌, ◌≤◌, List, length}
use Rattle.meaning.specs.Rules.Limits.{words_per_node, work_per_node, work_per_pool}

abbrev pub nodes_taken : ℕ
nodes_taken = 256

abbrev pub node_room : ℕ
node_room = words_per_node * nodes_taken

abbrev pub pool_room : ℕ
pool_room = 1024

-- "16 u64 words per node plus 2 per pool entry"
abbrev pub work_room : ℕ
work_room = work_per_node * nodes_taken + work_per_pool * pool_room

-- "summed over the lists brought"
abbrev pub pair_work_room : ℕ
pair_work_room = 2 * work_room

-- there is room for a list of these words
abbrev pub Taken : List ℕ → List ℕ → Type 0
Taken nodes pool = (length nodes ≤ node_room) × (length pool ≤ pool_room)
