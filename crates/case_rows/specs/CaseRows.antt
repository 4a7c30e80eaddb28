-- A case's row: words none of which is larger than what may stand at its place. Its words side by side with those; what a row that was read gives; no second outcome; and examples.
use Rattle.std.specs.Prelude.{ℕ, zero, suc, ◌≤◌, ◌<◌, ◌≡◌, refl, Bool, true, false, cond, ◌&&◌, List, [], ◌∷◌, leb, length, get_or, Some, None, Ok, Err}
use Rattle.std.specs.List.{list_all, zip}
use Rattle.std.proofs.Common.{sym, ap, subst, ◌∙◌, arith}
use borrow.Author.Tests.{leb-true}
use Rattle.decimals.specs.Claims.{Ahead}
use Rattle.decimals.specs.Words.{bad_at}
use Rattle.decimals.specs.Rows.{Row, next_row, filled}
use Rattle.decimals.specs.RowLaws.{row_ahead}

-- no word is larger than the one at its place in the other row
unfoldable pub within : List ℕ → List ℕ → Bool
within [] largest = true
within (x ∷ row) [] = false
within (x ∷ row) (y ∷ largest) = cond (leb x y) (within row largest) false

-- a row that was read from the offset `at` on, up to `next`
abbrev pub checked : List ℕ → List ℕ → ℕ → ℕ → Row
checked row largest at next = cond (within row largest) (Ok (Some next)) (bad_at at)

abbrev pub if_whole : (ℕ → Row) → Row → Row
if_whole whole (Ok (Some next)) = whole next
if_whole whole (Ok None) = Ok None
if_whole whole (Err bad) = Err bad

-- from an offset on, into these places
unfoldable pub case_row : List ℕ → ℕ → List ℕ → List ℕ → Row
case_row text at old largest = if_whole (checked (filled text at old) largest at) (next_row text at (length old))

-- the largest at a place where every word may stand
abbrev pub any_word : ℕ
any_word = 18446744073709551615

-- ---- word by word

-- the words side by side with the largest that may stand at their places
pub within_zip : (row largest : List ℕ) → length row ≤ length largest
    → list_all (λ p. leb p.0 p.1) (zip row largest) ≡ within row largest
unfolding within
within_zip [] largest l = refl
within_zip (x ∷ row) [] l = absurd (omega arith)
within_zip (x ∷ row) (y ∷ largest) l = so (leb x y) (within_zip row largest (omega arith))
  where
    so : (b : Bool) {rest rest' : Bool} → rest ≡ rest' → b && rest ≡ cond b rest' false
    so true e = e
    so false e = refl

both : (a b : Bool) → cond a b false ≡ true → (a ≡ true) × (b ≡ true)
both true b h = (refl, h)
both false b h = absurd cc

pub within_at : (row largest : List ℕ) → within row largest ≡ true → (i : ℕ) → get_or row i 0 ≤ get_or largest i 0
unfolding within
within_at [] largest h i = omega arith
within_at (x ∷ row) [] h i = absurd cc
within_at (x ∷ row) (y ∷ largest) h zero = leb-true x y (both (leb x y) (within row largest) h).0
within_at (x ∷ row) (y ∷ largest) h (suc i) = within_at row largest (both (leb x y) (within row largest) h).1 i

-- ---- the answer

module _ (text : List ℕ) (at : ℕ) (old largest : List ℕ) where
  pub case_row_is : (r : Row) → next_row text at (length old) ≡ r
      → case_row text at old largest ≡ if_whole (checked (filled text at old) largest at) r
  unfolding case_row
  case_row_is r e = rw e

  -- a row that was read, with a word that may not stand at its place, and without one
  module _ (row : List ℕ) (next : ℕ) where
    read : (b : Bool) → next_row text at (length old) ≡ Ok (Some next) → row ≡ filled text at old → within row largest ≡ b
        → case_row text at old largest ≡ cond b (Ok (Some next)) (bad_at at)
    read b r f e =
        case_row_is (Ok (Some next)) r
        ∙ ap (λ (xs : List ℕ). checked xs largest at next) (sym f) ∙ ap (λ (x : Bool). cond x (Ok (Some next)) (bad_at at)) e

    pub case_row_bad : next_row text at (length old) ≡ Ok (Some next) → row ≡ filled text at old → within row largest ≡ false
        → case_row text at old largest ≡ bad_at at
    case_row_bad = read false

    pub case_row_whole : next_row text at (length old) ≡ Ok (Some next) → row ≡ filled text at old → within row largest ≡ true
        → case_row text at old largest ≡ Ok (Some next)
    case_row_whole = read true

  -- ---- no second outcome, the lent places included

  pub next_case_row_only : {r r' : Row} {row row' : List ℕ}
      → (r ≡ case_row text at old largest) × (row ≡ filled text at old)
      → (r' ≡ case_row text at old largest) × (row' ≡ filled text at old) → (r ≡ r') × (row ≡ row')
  next_case_row_only p q = (p.0 ∙ sym q.0, p.1 ∙ sym q.1)

-- ---- what a row that was read gives

-- a row that is whole ends past where it began, and no word in it is too large
module _ (text : List ℕ) (at : ℕ) (old row largest : List ℕ) (next : ℕ) where
  known : (b : Bool) (mid : ℕ) → within (filled text at old) largest ≡ b → cond b (Ok (Some mid)) (bad_at at) ≡ Ok (Some next)
      → row ≡ filled text at old → (mid ≡ next) × (within row largest ≡ true)
  known true mid e h f = (cc, subst (λ (xs : List ℕ). within xs largest ≡ true) (sym f) e)
  known false mid e h f = absurd cc

  gives : (x : Row) → next_row text at (length old) ≡ x → 0 < length old → row ≡ filled text at old
      → if_whole (checked (filled text at old) largest at) x ≡ Ok (Some next)
      → Ahead at next (length text) × (within row largest ≡ true)
  gives (Ok (Some mid)) e l f h =
      let k = known (within (filled text at old) largest) mid refl h f in
      (subst (λ (x : ℕ). Ahead at x (length text)) k.0 (row_ahead text at (length old) mid l e), k.1)
  gives (Ok None) e l f h = absurd cc
  gives (Err bad) e l f h = absurd cc

  pub case_row_gives : case_row text at old largest ≡ Ok (Some next) → row ≡ filled text at old → 0 < length old
      → Ahead at next (length text) × (within row largest ≡ true)
  case_row_gives w f l = gives (next_row text at (length old)) refl l f (sym (case_row_is text at old largest _ refl) ∙ w)

-- ---- examples

pub as_large_as_may_be : within (3 ∷ 0 ∷ []) (3 ∷ 4 ∷ []) ≡ true
unfolding within
as_large_as_may_be = refl

pub last_too_large : within (3 ∷ 5 ∷ []) (3 ∷ 4 ∷ []) ≡ false
unfolding within
last_too_large = refl
