-- An operand is taken from a list: the later ones move down one place each, from the first on.
use Rattle.std.specs.Prelude.{ℕ, suc, ◌+◌, ◌-◌, ◌≤◌, ◌<◌, ◌≡◌, List, length, get_or, take, drop}
use Rattle.std.specs.List.{copy_within}
use Rattle.std.proofs.lemmas.List.{take-take, drop-take}
use Rattle.std.proofs.lemmas.List.Edits.{take-paste}
use Rattle.std.proofs.Math.Seq.{paste}
use Rattle.std.proofs.Common.{sym, ap, ◌∙◌, arith, length-append, length-take, length-drop, get_or-take, get_or-drop, get_or-append-add}
use Rattle.std.proofs.Math.ListN.{get_or-append}
use Rattle.meaning.specs.Rules.Tables.{but_one}

-- what is read of a list but one
module _ (xs : List ℕ) (at : ℕ) (inside : at < length xs) where
  front : length (take at xs) ≡ at
  front = length-take at xs ∙ omega arith

  pub but_one_before : (i : ℕ) → i < at → get_or (but_one at xs) i 0 ≡ get_or xs i 0
  but_one_before i h = get_or-append (take at xs) (drop (suc at) xs) 0 i (omega (arith, front)) ∙ get_or-take at xs i 0 h

  pub but_one_after : (i : ℕ) → at ≤ i → get_or (but_one at xs) i 0 ≡ get_or xs (suc i) 0
  but_one_after i h =
      let e : length (take at xs) + (i - at) ≡ i = omega (arith, front) in
      let e' : suc at + (i - at) ≡ suc i = omega arith in
      ap (λ (m : ℕ). get_or (but_one at xs) m 0) (sym e)
      ∙ get_or-append-add (take at xs) (drop (suc at) xs) (i - at) 0
      ∙ get_or-drop (suc at) xs (i - at) 0 ∙ ap (λ (m : ℕ). get_or xs m 0) e'

-- the n behind place `at` are moved down
moved : (xs : List ℕ) (at n : ℕ) → suc at + n ≤ length xs → take (at + n) (paste xs at (drop (suc at) xs) n) ≡ but_one at (take (suc at + n) xs)
moved xs at n room =
    take-paste xs at (drop (suc at) xs) n (omega arith) (omega (arith, length-drop (suc at) xs))
    ∙ sym (rw (take-take at (suc at + n) xs (omega arith), drop-take (suc at) n xs))

pub moved_all : (xs : List ℕ) (at k : ℕ) → at < k → k ≤ length xs → take (k - 1) (copy_within xs (at + 1) k at) ≡ but_one at (take k xs)
moved_all xs at k h room =
    let e : suc at + (k - suc at) ≡ k = omega arith in
    let e' : at + (k - suc at) ≡ k - 1 = omega arith in
    let next : at + 1 ≡ suc at = omega arith in
    let m = moved xs at (k - suc at) (omega arith) in
    rw (next, ← e') (rw e at m)
