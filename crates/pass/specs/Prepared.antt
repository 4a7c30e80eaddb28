-- A list that the verifier's row of tests, numbers 3 to 8, lets pass is prepared for the pass.
use Rattle.std.specs.Prelude.{ℕ, ◌+◌, ◌*◌, ◌≤◌, ◌≡◌, List, length}
use Rattle.meaning.specs.Rules.Limits.{work_per_node}
use Rattle.meaning.specs.Rules.Trees.{node_count}
use Rattle.meaning.specs.Rules.Evaluable.{sound}
use Rattle.verifier.specs.Left.{sound_work}
use Rattle.verifier.specs.Held.{sound_holds}
use Rattle.rows.specs.Rows.{Prepared}

pub sound_prepares : (ns ps : List ℕ) (base : ℕ) (work : List ℕ) → work_per_node * (base + node_count ns) ≤ length work → (sound ns ps).number ≡ 0
    → Prepared ns ps base (sound_work ns ps base work)
sound_prepares ns ps base work room done =
    let held = sound_holds ns ps base work room done in
    record { sound = held.passed; room = rw held.size room; marks = held.marks; shapes = held.shapes }
