-- Zeros that are written out are those that are not.
use Rattle.std.specs.Prelude.{ℕ, ◌≡◌, refl, replicate}
use Rattle.list_room.specs.Room.{copies, zeros}

pub zeros_are : (n : ℕ) → replicate n 0 ≡ zeros n
unfolding copies
zeros_are n = refl
