-- Outputs in which every word can be told from the others before the call.
use Rattle.std.specs.Prelude.{ℕ, ◌≤◌, List, length}
use Rattle.lent_words.specs.Lent.{narrow}

abbrev pub Markable : List ℕ → List ℕ → Type 0
Markable out_nodes out_pool = (length out_nodes ≤ narrow) × (length out_pool ≤ narrow)
