-- The numbers that later requests change, and that no other file writes down: the words of a node, the limits, the
-- work space (document 01, "The node list", "Numbers a call answers with").
use Rattle.std.specs.Prelude.{ℕ}

-- "nodes, three words each (kind, first, count)"
abbrev pub words_per_node : ℕ
words_per_node = 3

-- "At most 4,096 nodes and 16,384 pool entries"
abbrev pub most_nodes : ℕ
most_nodes = 4096

abbrev pub most_pool : ℕ
most_pool = 16384

-- "Var: first is its number 0 to 255"; "an assignment slice over 256 bytes"
abbrev pub variable_count : ℕ
variable_count = 256

-- "work space under 16 u64 words per node plus 2 per pool entry"
abbrev pub work_per_node : ℕ
work_per_node = 16

abbrev pub work_per_pool : ℕ
work_per_pool = 2

-- ---- bounds that no request moves

-- "over 30 variables below the first root"; "n above 30"
abbrev pub most_inputs : ℕ
most_inputs = 30

-- "0 to 64 for Bus"; a value is a u64
abbrev pub widest_bus : ℕ
widest_bus = 64

-- "a Lut .. with more than seven [children]", the first its Program; "k at most 6"
abbrev pub most_operands : ℕ
most_operands = 6
