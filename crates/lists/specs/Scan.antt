-- A loop that asks a test of each member of a list, from the first on, and stops where the answer is known: what a turn, a
-- stop and the end say of `every` and `some` of meaning's Rules/Refusals.
use Rattle.std.specs.Prelude.{ℕ, zero, suc, ◌+◌, ◌≤◌, ◌<◌, ◌≡◌, refl, List, [], ◌∷◌, Bool, true, false, ◌&&◌, ◌||◌, length, get_or, drop, eqb}
use Rattle.std.proofs.Math.Bool.{or-true}
use Rattle.std.specs.List.{list_all, list_any}
use Rattle.std.proofs.Common.{ap, arith, add-one, drop_of_length-le, drop-cons, eq-eqb}
use Rattle.meaning.specs.Rules.Refusals.{every, some}

module _ {A : Type 0} (none : A) (p : A → Bool) (ks : List A) (i : ℕ) where
  pub every_stop : i < length ks → p (get_or ks i none) ≡ false → every p (drop i ks) ≡ false
  every_stop h e = rw (drop-cons ks i none h, e)

  pub every_more : i < length ks → p (get_or ks i none) ≡ true → every p (drop (i + 1) ks) ≡ every p (drop i ks)
  every_more h e = rw (add-one i, drop-cons ks i none h, e)

  pub every_done : length ks ≤ i → every p (drop i ks) ≡ true
  every_done h = rw (drop_of_length-le ks h)

  pub some_stop : i < length ks → p (get_or ks i none) ≡ true → some p (drop i ks) ≡ true
  some_stop h e = rw (drop-cons ks i none h, e)

  pub some_more : i < length ks → p (get_or ks i none) ≡ false → some p (drop (i + 1) ks) ≡ some p (drop i ks)
  some_more h e = rw (add-one i, drop-cons ks i none h, e)

  pub some_done : length ks ≤ i → some p (drop i ks) ≡ false
  some_done h = rw (drop_of_length-le ks h)

-- the kit's word for the same test, which an iterator's `all` and `any` answer
pub all_every : {A : Type 0} (p : A → Bool) (ks : List A) → list_all p ks ≡ every p ks
all_every p [] = refl
all_every p (k ∷ ks) = ap (λ (b : Bool). p k && b) (all_every p ks)

pub any_some : {A : Type 0} (p : A → Bool) (ks : List A) → list_any p ks ≡ some p ks
any_some p [] = refl
any_some p (k ∷ ks) = ap (λ (b : Bool). p k || b) (any_some p ks)

-- each member of a list is one of it
pub some_at : (cs : List ℕ) (i : ℕ) → i < length cs → some (eqb (get_or cs i 0)) cs ≡ true
some_at [] i h = absurd (omega arith)
some_at (c ∷ cs) zero h = rw (eq-eqb c c refl)
some_at (c ∷ cs) (suc i) h = rw (some_at cs i (omega arith)) (or-true (eqb (get_or cs i 0) c))
