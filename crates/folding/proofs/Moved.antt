-- An operand is taken from a list: the later ones move down one place each, from the first on, whatever moves them.
use Rattle.std.specs.Prelude.{ℕ, suc, ◌-◌, ◌≤◌, ◌<◌, ◌≡◌, refl, List, length, get_or, set, take, drop}
use Rattle.std.proofs.Common.{sym, ◌∙◌, arith, length-append, length-take, length-drop, length-set, get_or-set_same, get_or-set_other, get_or-take, ext_get_or}
use Rattle.std.proofs.Math.Decide.{dec_lt, ℕ_discrete}
use Rattle.meaning.specs.Rules.Tables.{but_one}
use Rattle.folding.specs.Moved.{but_one_before, but_one_after}

-- of the list xs, those behind place `at` are moved down, up to place j
pub record Moved (xs : List ℕ) (at j : ℕ) (ys : List ℕ) : Type 0 where
  pub size : length ys ≡ length xs
  pub kept : (i : ℕ) → i < at → get_or ys i 0 ≡ get_or xs i 0
  pub moved : (i : ℕ) → at ≤ i → i < j → get_or ys i 0 ≡ get_or xs (suc i) 0
  pub behind : (i : ℕ) → j ≤ i → get_or ys i 0 ≡ get_or xs i 0

pub moved_none : (xs : List ℕ) (at : ℕ) → Moved xs at at xs
moved_none xs at = record { size = refl; kept = λ i h. refl; moved = λ i a b. absurd (omega arith); behind = λ i h. refl }

module _ (xs : List ℕ) (at j : ℕ) where
  pub moved_next : (ys : List ℕ) (v : ℕ) → Moved xs at j ys → at ≤ j → suc j < length xs → v ≡ get_or ys (suc j) 0
      → Moved xs at (suc j) (set ys j v)
  moved_next ys v m after inside is = record {
    size = length-set ys j v ∙ m.size;
    kept = λ i h. get_or-set_other ys j i v 0 (λ e. absurd (omega arith)) ∙ m.kept i h;
    moved = λ i a b. moved_at i a b;
    behind = λ i h. get_or-set_other ys j i v 0 (λ e. absurd (omega arith)) ∙ m.behind i (omega arith);
  }
    where
      moved_at : (i : ℕ) → at ≤ i → i < suc j → get_or (set ys j v) i 0 ≡ get_or xs (suc i) 0
      moved_at i a b = elim (ℕ_discrete i j) [
        | yes e ↦ rw e (get_or-set_same ys j v 0 (omega (arith, m.size)) ∙ is ∙ m.behind (suc j) (omega arith))
        | no e ↦ get_or-set_other ys j i v 0 e ∙ m.moved i a (omega arith)
      ]

-- the length of a list but one
module _ (xs : List ℕ) (at : ℕ) (inside : at < length xs) where
  front : length (take at xs) ≡ at
  front = length-take at xs ∙ omega arith

  pub but_one_length : suc (length (but_one at xs)) ≡ length xs
  but_one_length =
      omega (arith, length-append (take at xs) (drop (suc at) xs), front, length-drop (suc at) xs)

-- all are moved
pub moved_all : (xs : List ℕ) (at k : ℕ) (ys : List ℕ) → at < k → k ≤ length xs → Moved xs at (k - 1) ys
    → take (k - 1) ys ≡ but_one at (take k xs)
moved_all xs at k ys h room m = ext_get_or 0 (take (k - 1) ys) (but_one at (take k xs)) sizes each
  where
    whole : length (take k xs) ≡ k
    whole = length-take k xs ∙ omega arith

    left : length (take (k - 1) ys) ≡ k - 1
    left = length-take (k - 1) ys ∙ omega (arith, m.size)

    there : at < length (take k xs)
    there = omega (arith, whole)

    sizes : length (take (k - 1) ys) ≡ length (but_one at (take k xs))
    sizes = omega (arith, left, whole, but_one_length (take k xs) at there)

    each : (i : ℕ) → i < length (take (k - 1) ys) → get_or (take (k - 1) ys) i 0 ≡ get_or (but_one at (take k xs)) i 0
    each i l = let small : i < k - 1 = omega (arith, left) in elim (dec_lt i at) [
      | yes b ↦
          get_or-take (k - 1) ys i 0 small ∙ m.kept i b
          ∙ sym (but_one_before (take k xs) at there i b ∙ get_or-take k xs i 0 (omega arith))
      | no b ↦
          get_or-take (k - 1) ys i 0 small ∙ m.moved i (omega arith) small
          ∙ sym (but_one_after (take k xs) at there i (omega arith) ∙ get_or-take k xs (suc i) 0 (omega arith))
    ]
