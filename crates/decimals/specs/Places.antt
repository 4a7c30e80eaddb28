-- Places that are filled one after the other, as a loop does it: those in front of a place are done, and `fill` is what
-- becomes of the rest. Said over any `fill`, so that it serves every reader that fills lent places.
use Rattle.std.specs.Prelude.{ℕ, suc, ◌+◌, ◌<◌, ◌≡◌, List, ◌∷◌, ◌++◌, length, take, drop, set, get_or}
use Rattle.std.proofs.Common.{sym, ap, ◌∙◌, add-one, arith, take-append-drop, drop-cons, take-suc-set, drop-set-lt}
use Rattle.std.proofs.Math.Seq.{append_snoc}
use Rattle.std.proofs.lemmas.List.{set-get_or}

abbrev pub places_after : (List ℕ → List ℕ) → List ℕ → ℕ → List ℕ
places_after fill row place = take place row ++ fill (drop place row)

module _ (fill : List ℕ → List ℕ) (row : List ℕ) (place : ℕ) where
  -- the next place gets v, and `more` is what becomes of those behind it
  pub places_more : (more : List ℕ → List ℕ) (v : ℕ) → place < length row → ((x : ℕ) (rest : List ℕ) → fill (x ∷ rest) ≡ v ∷ more rest)
      → places_after fill row place ≡ places_after more (set row place v) (place + 1)
  places_more more v l h =
      rw (add-one place, take-suc-set row place v l, drop-set-lt (suc place) row place v (omega arith), append_snoc, drop-cons row place 0 l, h)

  pub places_stop : fill (drop place row) ≡ drop place row → places_after fill row place ≡ row
  places_stop h = ap (λ (xs : List ℕ). take place row ++ xs) h ∙ take-append-drop place row

  -- the next place is lent, and not written
  pub places_kept : fill (drop place row) ≡ drop place row → set row place (get_or row place 0) ≡ places_after fill row place
  places_kept h = set-get_or row place 0 ∙ sym (places_stop h)
