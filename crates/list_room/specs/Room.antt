-- Room for a list, as the arrays of src have it.
use Rattle.std.specs.Prelude.{ℕ, ◌≡◌, List, length, replicate}
use Rattle.std.proofs.lemmas.List.{length-replicate}

abbrev pub node_room : ℕ
node_room = 12300

abbrev pub pool_room : ℕ
pool_room = 16400

abbrev pub work_room : ℕ
work_room = 98400

abbrev pub pair_work_room : ℕ
pair_work_room = 200000

-- so many of one element, not written out
unfoldable pub copies : {A : Type 0} → ℕ → A → List A
copies n x = replicate n x

abbrev pub zeros : ℕ → List ℕ
zeros n = copies n 0

pub zeros_length : (n : ℕ) → length (zeros n) ≡ n
unfolding copies
zeros_length n = length-replicate n _
