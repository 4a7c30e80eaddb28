-- Words one by one, as a loop goes through them; that reading gets on; no second outcome; and examples.
use Rattle.std.specs.Prelude.{ℕ, zero, suc, ◌+◌, ◌-◌, ◌≤◌, ◌<◌, ◌≡◌, refl, Bool, true, false, cond, List, [], ◌∷◌, map, length, drop, leb, Some, None, Ok, Err}
use Rattle.std.proofs.Common.{sym, ap, ◌∙◌, drop_of_length-le}
use native.Mathlib.Omega.{arith}
use Rattle.decimals.specs.Words.{word_of, bad_at, Reading, is_blank, is_digit, extends, number, word, next_word}
use Rattle.decimals.specs.Claims.{Ahead, ends, value_ahead}
use Rattle.decimals.specs.Rows.{on_word}
use Rattle.list_words.specs.Entries.{Entry, Entries, largest, narrowed, next_entry, on_entry, entries_from, next_entries, filled, on_entries, next_list, filled_behind}

-- ---- the answer, from a place on

module _ (text : List ℕ) (n place at : ℕ) where
  goes : (k : ℕ) → n - place ≡ suc k → (v next : ℕ) → next_entry text at ≡ Ok (word_of v next)
      → entries_from text (n - place) at ≡ entries_from text k next
  unfolding entries_from
  goes k e v next h = rw (e, h)

  pub entries_more : (v next : ℕ) → place < n → next_entry text at ≡ Ok (word_of v next)
      → entries_from text (n - place) at ≡ entries_from text (n - (place + 1)) next
  entries_more v next l h = goes (n - (place + 1)) (omega arith) v next h

  breaks : (k i : ℕ) → n - place ≡ suc k → next_entry text at ≡ bad_at i → entries_from text (n - place) at ≡ bad_at i
  unfolding entries_from
  breaks k i e h = rw (e, h)

  pub entries_bad : (i : ℕ) → place < n → next_entry text at ≡ bad_at i → entries_from text (n - place) at ≡ bad_at i
  entries_bad i l h = breaks (n - (place + 1)) i (omega arith) h

  pub entries_whole : n ≤ place → entries_from text (n - place) at ≡ Ok at
  unfolding entries_from
  entries_whole l = let e : n - place ≡ 0 = omega arith in rw e

pub entries_start : (text : List ℕ) (n at : ℕ) → entries_from text (n - 0) at ≡ next_entries text at n
entries_start text n at = ap (λ (k : ℕ). entries_from text k at) (omega arith)

-- ---- the places

pub filled_bad : (text old : List ℕ) (at i : ℕ) → next_entry text at ≡ bad_at i → filled text at old ≡ old
unfolding filled
filled_bad text [] at i h = refl
filled_bad text (x ∷ old) at i h = rw h

pub filled_value : (text : List ℕ) (at v next : ℕ) → next_entry text at ≡ Ok (word_of v next)
    → (x : ℕ) (rest : List ℕ) → filled text at (x ∷ rest) ≡ v ∷ filled text next rest
unfolding filled
filled_value text at v next h x rest = rw h

pub filled_whole : (text row : List ℕ) (place at : ℕ) → length row ≤ place → filled text at (drop place row) ≡ drop place row
unfolding filled
filled_whole text row place at l = rw (drop_of_length-le row l)

-- ---- a list

module _ (text : List ℕ) (at n : ℕ) where
  pub list_goes : (entries next : ℕ) → next_entries text at n ≡ Ok next → next_list text at n entries ≡ next_entries text next entries
  unfolding next_list
  list_goes entries next h = rw h

  pub list_breaks : (entries i : ℕ) → next_entries text at n ≡ bad_at i → next_list text at n entries ≡ bad_at i
  unfolding next_list
  list_breaks entries i h = rw h

  pub pool_goes : (old : List ℕ) (next : ℕ) → next_entries text at n ≡ Ok next → filled_behind text at n old ≡ filled text next old
  unfolding filled_behind
  pool_goes old next h = rw h

  pub pool_breaks : (old : List ℕ) (i : ℕ) → next_entries text at n ≡ bad_at i → filled_behind text at n old ≡ old
  unfolding filled_behind
  pool_breaks old i h = rw h

-- ---- reading gets on

-- a word ends past where reading began, and within the text
pub entry_ahead : (text : List ℕ) (at v next : ℕ) → next_entry text at ≡ Ok (word_of v next) → Ahead at next (length text)
unfolding next_entry
entry_ahead text at v next h = go (next_word text at) refl h
  where
    same : (b : Bool) (w mid : ℕ) → cond b (Ok (word_of w mid)) (bad_at at) ≡ Ok (word_of v next) → mid ≡ next
    same true w mid e = ends e
    same false w mid e = absurd cc

    go : (w : Reading) → next_word text at ≡ w → on_word (narrowed at) (bad_at (length text)) bad_at w ≡ Ok (word_of v next)
        → Ahead at next (length text)
    go (Ok (Some w)) q e =
        let a = value_ahead text at w.value w.next q in
        let m = same (leb w.value largest) w.value w.next e in
        record { past = omega (arith, a.past); within = omega (arith, a.within) }
    go (Ok None) q e = absurd cc
    go (Err x) q e = absurd cc

pub entries_ahead : (text : List ℕ) (n at next : ℕ) → at ≤ length text → next_entries text at n ≡ Ok next
    → (at ≤ next) × (next ≤ length text)
unfolding entries_from
entries_ahead text zero at next l h = let e : at ≡ next = cc in (omega arith, omega arith)
entries_ahead text (suc n) at next l h = go (λ mid. entries_ahead text n mid next) (next_entry text at) refl h
  where
    go : ((mid : ℕ) → mid ≤ length text → next_entries text mid n ≡ Ok next → (mid ≤ next) × (next ≤ length text))
        → (e : Entry) → next_entry text at ≡ e → on_entry (λ v mid. entries_from text n mid) bad_at e ≡ Ok next
        → (at ≤ next) × (next ≤ length text)
    go later (Ok w) q e =
        let a = entry_ahead text at w.value w.next q in
        let b = later w.next a.within e in
        (omega (arith, a.past, b.0), b.1)
    go later (Err x) q e = absurd cc

-- a list ends within the text, and not before it began
pub list_ahead : (text : List ℕ) (at n entries next : ℕ) → at ≤ length text → next_list text at n entries ≡ Ok next
    → (at ≤ next) × (next ≤ length text)
unfolding next_list
list_ahead text at n entries next l h = go (next_entries text at n) refl h
  where
    go : (e : Entries) → next_entries text at n ≡ e → on_entries (λ mid. next_entries text mid entries) bad_at e ≡ Ok next
        → (at ≤ next) × (next ≤ length text)
    go (Ok mid) q e =
        let a = entries_ahead text n at mid l q in
        let b = entries_ahead text entries mid next a.1 e in
        (omega (arith, a.0, b.0), b.1)
    go (Err x) q e = absurd cc

-- ---- no second outcome meets a contract, the lent places included

pub next_entries_only : (text : List ℕ) (at : ℕ) (old : List ℕ) {r r' : Entries} {new new' : List ℕ}
    → (r ≡ next_entries text at (length old)) × (new ≡ filled text at old)
    → (r' ≡ next_entries text at (length old)) × (new' ≡ filled text at old) → (r ≡ r') × (new ≡ new')
next_entries_only text at old p q = (p.0 ∙ sym q.0, p.1 ∙ sym q.1)

abbrev pub Listed : List ℕ → ℕ → List ℕ → List ℕ → Entries → List ℕ → List ℕ → Type 0
Listed text at nodes pool r nodes' pool' =
    (r ≡ next_list text at (length nodes) (length pool)) × (nodes' ≡ filled text at nodes)
    × (pool' ≡ filled_behind text at (length nodes) pool)

pub next_list_only : (text : List ℕ) (at : ℕ) (nodes pool : List ℕ) {r₁ r₂ : Entries} {nodes₁ nodes₂ pool₁ pool₂ : List ℕ}
    → Listed text at nodes pool r₁ nodes₁ pool₁ → Listed text at nodes pool r₂ nodes₂ pool₂
    → (r₁ ≡ r₂) × (nodes₁ ≡ nodes₂) × (pool₁ ≡ pool₂)
next_list_only text at nodes pool p q = (p.0 ∙ sym q.0, p.1 ∙ sym q.1, p.2 ∙ sym q.2)

-- ---- examples

pub record Example : Type 0 where
  pub text : List ℕ
  pub at : ℕ
  pub nodes : List ℕ
  pub pool : List ℕ
  pub answer : Entries
  pub nodes_after : List ℕ
  pub pool_after : List ℕ

abbrev eg : List ℕ → ℕ → List ℕ → List ℕ → Entries → List ℕ → List ℕ → Example
eg text at nodes pool answer nodes_after pool_after =
    record { text = text; at = at; nodes = nodes; pool = pool; answer = answer; nodes_after = nodes_after; pool_after = pool_after }

-- "1 2 3", "1 x", "4294967295" and "4294967296"
abbrev one_two_three : List ℕ
one_two_three = 49 ∷ 32 ∷ 50 ∷ 32 ∷ 51 ∷ []

abbrev one_x : List ℕ
one_x = 49 ∷ 32 ∷ 120 ∷ []

abbrev largest_word : List ℕ
largest_word = 52 ∷ 50 ∷ 57 ∷ 52 ∷ 57 ∷ 54 ∷ 55 ∷ 50 ∷ 57 ∷ 53 ∷ []

abbrev one_more : List ℕ
one_more = 32 ∷ 52 ∷ 50 ∷ 57 ∷ 52 ∷ 57 ∷ 54 ∷ 55 ∷ 50 ∷ 57 ∷ 54 ∷ []

unfoldable pub examples : List Example
examples =
    eg one_two_three 0 (7 ∷ 8 ∷ []) (9 ∷ []) (Ok 5) (1 ∷ 2 ∷ []) (3 ∷ [])
    ∷ eg one_two_three 0 [] (7 ∷ 8 ∷ []) (Ok 3) [] (1 ∷ 2 ∷ [])
    ∷ eg one_two_three 0 (7 ∷ 8 ∷ []) [] (Ok 3) (1 ∷ 2 ∷ []) []
    ∷ eg one_two_three 2 (7 ∷ []) (8 ∷ 9 ∷ []) (bad_at 5) (2 ∷ []) (3 ∷ 9 ∷ [])  -- the text ends in the pool
    ∷ eg one_two_three 5 (7 ∷ []) (8 ∷ []) (bad_at 5) (7 ∷ []) (8 ∷ [])  -- and in front of the first word
    ∷ eg one_x 0 (7 ∷ 8 ∷ []) (9 ∷ []) (bad_at 2) (1 ∷ 8 ∷ []) (9 ∷ [])
    ∷ eg largest_word 0 (7 ∷ []) [] (Ok 10) (4294967295 ∷ []) []
    ∷ eg (49 ∷ one_more) 0 (7 ∷ 8 ∷ []) [] (bad_at 1) (1 ∷ 8 ∷ []) []  -- bad where its reading began
    ∷ []

pub answers_hold : map (λ e. next_list e.text e.at (length e.nodes) (length e.pool)) examples ≡ map (λ e. e.answer) examples
unfolding examples next_list entries_from next_entry next_word word number is_blank is_digit extends
answers_hold = refl

pub nodes_hold : map (λ e. filled e.text e.at e.nodes) examples ≡ map (λ e. e.nodes_after) examples
unfolding examples filled next_entry next_word word number is_blank is_digit extends
nodes_hold = refl

pub pool_holds : map (λ e. filled_behind e.text e.at (length e.nodes) e.pool) examples ≡ map (λ e. e.pool_after) examples
unfolding examples filled_behind entries_from filled next_entry next_word word number is_blank is_digit extends
pool_holds = refl
