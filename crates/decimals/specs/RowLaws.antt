-- Rows word by word, as a loop goes through them; that reading gets on; and examples.
use Rattle.std.specs.Prelude.{ℕ, zero, suc, ◌+◌, ◌-◌, ◌≤◌, ◌<◌, ◌≡◌, refl, cond, List, [], ◌∷◌, map, length, drop, eqb, Some, None, Ok, Err}
use Rattle.std.proofs.Common.{sym, ap, ◌∙◌, drop_of_length-le, ne_eqb}
use native.Mathlib.Omega.{arith}
use Rattle.decimals.specs.Words.{word_of, bad_at, Reading, is_blank, is_digit, extends, number, word, next_word}
use Rattle.decimals.specs.Claims.{Ahead, value_ahead}
use Rattle.decimals.specs.Rows.{on_word, Row, row_from, next_row, filled}

-- no second outcome meets the contract, the lent places included
pub next_row_only : (text : List ℕ) (at : ℕ) (old : List ℕ) {r r' : Row} {new new' : List ℕ}
    → (r ≡ next_row text at (length old)) × (new ≡ filled text at old)
    → (r' ≡ next_row text at (length old)) × (new' ≡ filled text at old) → (r ≡ r') × (new ≡ new')
next_row_only text at old p q = (p.0 ∙ sym q.0, p.1 ∙ sym q.1)

-- ---- the answer

-- what the text's end means in front of a place
abbrev pub end_at : List ℕ → ℕ → Row
end_at text place = cond (eqb place 0) (Ok None) (bad_at (length text))

pub row_start : (text : List ℕ) (n at : ℕ) → row_from text (end_at text 0) (n - 0) at ≡ next_row text at n
unfolding next_row
row_start text n at = ap (λ (k : ℕ). row_from text (Ok None) k at) (omega arith)

module _ (text : List ℕ) (n place at : ℕ) where
  more : (k : ℕ) → n - place ≡ suc k → (v next : ℕ) → next_word text at ≡ Ok (Some (word_of v next))
      → row_from text (end_at text place) (n - place) at ≡ row_from text (bad_at (length text)) k next
  unfolding row_from
  more k e v next h = rw (e, h)

  pub row_more : (v next : ℕ) → place < n → next_word text at ≡ Ok (Some (word_of v next))
      → row_from text (end_at text place) (n - place) at ≡ row_from text (end_at text (place + 1)) (n - (place + 1)) next
  row_more v next l h =
      more (n - (place + 1)) (omega arith) v next h ∙ sym (rw (ne_eqb (place + 1) 0 (λ e. omega arith)))

  stops : (k : ℕ) → n - place ≡ suc k → next_word text at ≡ Ok None → row_from text (end_at text place) (n - place) at ≡ end_at text place
  unfolding row_from
  stops k e h = rw (e, h)

  pub row_end : place < n → next_word text at ≡ Ok None → row_from text (end_at text place) (n - place) at ≡ end_at text place
  row_end l h = stops (n - (place + 1)) (omega arith) h

  breaks : (k i : ℕ) → n - place ≡ suc k → next_word text at ≡ bad_at i → row_from text (end_at text place) (n - place) at ≡ bad_at i
  unfolding row_from
  breaks k i e h = rw (e, h)

  pub row_bad : (i : ℕ) → place < n → next_word text at ≡ bad_at i → row_from text (end_at text place) (n - place) at ≡ bad_at i
  row_bad i l h = breaks (n - (place + 1)) i (omega arith) h

  pub row_whole : n ≤ place → row_from text (end_at text place) (n - place) at ≡ Ok (Some at)
  unfolding row_from
  row_whole l = let e : n - place ≡ 0 = omega arith in rw e

-- ---- the places

pub filled_end : (text old : List ℕ) (at : ℕ) → next_word text at ≡ Ok None → filled text at old ≡ old
unfolding filled
filled_end text [] at h = refl
filled_end text (x ∷ old) at h = rw h

pub filled_bad : (text old : List ℕ) (at i : ℕ) → next_word text at ≡ bad_at i → filled text at old ≡ old
unfolding filled
filled_bad text [] at i h = refl
filled_bad text (x ∷ old) at i h = rw h

pub filled_value : (text : List ℕ) (at v next : ℕ) → next_word text at ≡ Ok (Some (word_of v next))
    → (x : ℕ) (rest : List ℕ) → filled text at (x ∷ rest) ≡ v ∷ filled text next rest
unfolding filled
filled_value text at v next h x rest = rw h

pub filled_whole : (text row : List ℕ) (place at : ℕ) → length row ≤ place → filled text at (drop place row) ≡ drop place row
unfolding filled
filled_whole text row place at l = rw (drop_of_length-le row l)

-- ---- reading gets on

first_ahead : (text : List ℕ) (end : Row) (n at next : ℕ) → (end ≡ Ok (Some next) → ⊥)
    → ((mid : ℕ) → mid ≤ length text → row_from text (bad_at (length text)) n mid ≡ Ok (Some next) → (mid ≤ next) × (next ≤ length text))
    → row_from text end (suc n) at ≡ Ok (Some next) → Ahead at next (length text)
unfolding row_from
first_ahead text end n at next ne later h = go (next_word text at) refl h
  where
    go : (w : Reading) → next_word text at ≡ w → on_word (λ v mid. row_from text (bad_at (length text)) n mid) end bad_at w ≡ Ok (Some next)
        → Ahead at next (length text)
    go (Ok (Some w)) q e =
        let a = value_ahead text at w.value w.next q in
        let b = later w.next a.within e in
        record { past = omega arith; within = b.1 }
    go (Ok None) q e = absurd (ne e)
    go (Err x) q e = absurd cc

rest_ahead : (text : List ℕ) (n at next : ℕ) → at ≤ length text → row_from text (bad_at (length text)) n at ≡ Ok (Some next)
    → (at ≤ next) × (next ≤ length text)
unfolding row_from
rest_ahead text zero at next l h = let e : at ≡ next = cc in (omega arith, omega arith)
rest_ahead text (suc n) at next l h =
    let a = first_ahead text (bad_at (length text)) n at next (λ e. cc) (λ mid. rest_ahead text n mid next) h in
    (omega arith, a.within)

-- a row of at least one place ends past where reading began, and within the text
pub row_ahead : (text : List ℕ) (at n next : ℕ) → 0 < n → next_row text at n ≡ Ok (Some next) → Ahead at next (length text)
unfolding next_row
row_ahead text at zero next l h = absurd (omega arith)
row_ahead text at (suc n) next l h = first_ahead text (Ok None) n at next (λ e. cc) (λ mid. rest_ahead text n mid next) h

-- ---- examples

pub record Example : Type 0 where
  pub text : List ℕ
  pub at : ℕ
  pub old : List ℕ
  pub answer : Row
  pub new : List ℕ

abbrev eg : List ℕ → ℕ → List ℕ → Row → List ℕ → Example
eg text at old answer new = record { text = text; at = at; old = old; answer = answer; new = new }

-- "1 2 3" and "1 x"
abbrev one_two_three : List ℕ
one_two_three = 49 ∷ 32 ∷ 50 ∷ 32 ∷ 51 ∷ []

abbrev one_x : List ℕ
one_x = 49 ∷ 32 ∷ 120 ∷ []

unfoldable pub examples : List Example
examples =
    eg one_two_three 0 (7 ∷ 8 ∷ []) (Ok (Some 3)) (1 ∷ 2 ∷ [])
    ∷ eg one_two_three 3 (7 ∷ 8 ∷ []) (bad_at 5) (3 ∷ 8 ∷ [])  -- the text ends inside the row
    ∷ eg one_two_three 5 (7 ∷ 8 ∷ []) (Ok None) (7 ∷ 8 ∷ [])  -- and in front of it
    ∷ eg one_x 0 (7 ∷ 8 ∷ []) (bad_at 2) (1 ∷ 8 ∷ [])
    ∷ eg one_x 0 [] (Ok (Some 0)) []
    ∷ []

pub answers_hold : map (λ e. next_row e.text e.at (length e.old)) examples ≡ map (λ e. e.answer) examples
unfolding examples next_row row_from next_word word number is_blank is_digit extends
answers_hold = refl

pub places_hold : map (λ e. filled e.text e.at e.old) examples ≡ map (λ e. e.new) examples
unfolding examples filled next_word word number is_blank is_digit extends
places_hold = refl
