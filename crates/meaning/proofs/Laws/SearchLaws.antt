-- What `lowest` finds passes, and nothing below it does; nothing else is the lowest.
use Rattle.std.specs.Prelude.{ℕ, zero, suc, ◌+◌, ◌≤◌, ◌<◌, ◌≡◌, refl, Bool, true, false}
use Rattle.std.proofs.Math.Path.{subst}
use Rattle.std.proofs.Common.{zero-add, arith}
use Rattle.std.proofs.Math.Decide.{dec_lt}
use Rattle.meaning.proofs.Laws.BoolLaws.{true_false}
use Rattle.meaning.specs.Rules.Search.{lowest_from, lowest}

-- i is the lowest of from, …, to - 1 that passes, or to
pub record IsLowest (p : ℕ → Bool) (from to i : ℕ) : Type 0 where
  pub after : from ≤ i
  pub within : i ≤ to
  pub passes : i < to → p i ≡ true
  pub before : (j : ℕ) → from ≤ j → j < i → p j ≡ false

module _ (p : ℕ → Bool) where
  stop : (n from : ℕ) → p from ≡ true → lowest_from p (suc n) from ≡ from
  stop n from h = rw h

  on : (n from : ℕ) → p from ≡ false → lowest_from p (suc n) from ≡ lowest_from p n (suc from)
  on n from h = rw h

  at_once : (n from : ℕ) → p from ≡ true → IsLowest p from (from + suc n) from
  at_once n from h = record { after = omega arith; within = omega arith; passes = λ l. h; before = λ j a b. absurd (omega arith) }

  not_here : (n from i : ℕ) → p from ≡ false → IsLowest p (suc from) (suc from + n) i → IsLowest p from (from + suc n) i
  not_here n from i h l = record {
    after = omega arith;
    within = omega arith;
    passes = λ k. l.passes (omega arith);
    before = λ j a b. elim (dec_lt from j) [ yes c ↦ l.before j c b | no c ↦ subst (λ (x : ℕ). p x ≡ false) (omega arith) h ];
  }

  pub lowest_from_lem : (n from : ℕ) → IsLowest p from (from + n) (lowest_from p n from)
  lowest_from_lem zero from = record { after = omega arith; within = omega arith; passes = λ h. absurd (omega arith); before = λ j a b. absurd (omega arith) }
  lowest_from_lem (suc n) from = go (p from) refl (lowest_from_lem n (suc from))
    where
      go : (b : Bool) → p from ≡ b → IsLowest p (suc from) (suc from + n) (lowest_from p n (suc from))
          → IsLowest p from (from + suc n) (lowest_from p (suc n) from)
      go true h later = rw (stop n from h) (at_once n from h)
      go false h later = rw (on n from h) (not_here n from (lowest_from p n (suc from)) h later)

  pub lowest_is : (n : ℕ) → IsLowest p 0 n (lowest p n)
  unfolding lowest
  lowest_is n = subst (λ (x : ℕ). IsLowest p 0 x (lowest p n)) (zero-add n) (lowest_from_lem n 0)

  not_above : (from to i j : ℕ) → IsLowest p from to i → IsLowest p from to j → i < j → ⊥
  not_above from to i j a b h = true_false (a.passes (omega arith)) (b.before i a.after h)

  -- there is only one
  pub lowest_only : (n i : ℕ) → IsLowest p 0 n i → lowest p n ≡ i
  lowest_only n i a = elim (dec_lt i (lowest p n)) [
    | yes h ↦ absurd (not_above 0 n i (lowest p n) a (lowest_is n) h)
    | no h ↦ elim (dec_lt (lowest p n) i) [ yes k ↦ absurd (not_above 0 n (lowest p n) i (lowest_is n) a k) | no k ↦ omega arith ]
  ]

  -- ---- as a search goes: nothing below i passes
  abbrev pub NoneBelow : ℕ → Type 0
  NoneBelow i = (j : ℕ) → j < i → p j ≡ false

  pub none_yet : NoneBelow 0
  none_yet j h = absurd (omega arith)

  pub none_next : (i : ℕ) → NoneBelow i → p i ≡ false → NoneBelow (i + 1)
  none_next i none here j h = elim (dec_lt j i) [
    | yes k ↦ none j k
    | no k ↦ subst (λ (x : ℕ). p x ≡ false) (omega arith) here
  ]

  -- it is over where one passes, or where all are looked at
  pub lowest_here : (n i : ℕ) → i < n → NoneBelow i → p i ≡ true → lowest p n ≡ i
  lowest_here n i h none here = lowest_only n i (record { after = omega arith; within = omega arith; passes = λ l. here; before = λ j a b. none j b })

  pub lowest_none : (n : ℕ) → NoneBelow n → lowest p n ≡ n
  lowest_none n none = lowest_only n n (record { after = omega arith; within = omega arith; passes = λ l. absurd (omega arith); before = λ j a b. none j b })
