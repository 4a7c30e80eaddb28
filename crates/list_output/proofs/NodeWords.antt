-- The words of a node, stored one by one: the three that are named, then zeros.
use Rattle.std.specs.Prelude.{ℕ, suc, ◌+◌, ◌-◌, ◌≤◌, ◌≡◌, List, ◌∷◌, length, set, replicate}
use Rattle.std.proofs.Common.{ap, ◌∙◌, arith}
use Rattle.std.proofs.lemmas.List.{length-replicate, replicate-append-replicate}
use Rattle.std.proofs.lemmas.List.Edits.{sets}
use Rattle.list_output.specs.Stores.{set_behind}

pub node_stored : (l zs : List ℕ) (i a b c : ℕ) → sets (set (set (set l i a) (i + 1) b) (i + 2) c) (i + 3) zs ≡ sets l i (a ∷ b ∷ c ∷ zs)
node_stored l zs i a b c =
    let one : i + 1 ≡ suc i = omega arith in
    let two : i + 2 ≡ suc (suc i) = omega arith in
    let three : i + 3 ≡ suc (suc (suc i)) = omega arith in
    rw (one, two, three)

-- the zeros behind the three, one turn a word
abbrev pub zeros : ℕ → List ℕ
zeros n = replicate n 0

pub zero_stored : (l : List ℕ) (i w : ℕ) → 3 ≤ w → set (sets l (i + 3) (zeros (w - 3))) (i + w) 0 ≡ sets l (i + 3) (zeros (w + 1 - 3))
zero_stored l i w h =
    let n : i + 3 + length (zeros (w - 3)) ≡ i + w = omega (arith, length-replicate {A = ℕ} (w - 3) 0) in
    let more : w - 3 + 1 ≡ w + 1 - 3 = omega arith in
    set_behind (zeros (w - 3)) l (i + 3) (i + w) 0 n
    ∙ ap (sets l (i + 3)) (replicate-append-replicate (w - 3) 1 0 ∙ ap zeros more)
