-- Counted lists step by step, as the code reads them; that the counts are within the places lent; no second outcome; examples.
use Rattle.std.specs.Prelude.{ℕ, ◌≤◌, ◌≡◌, refl, Bool, true, false, cond, List, [], ◌∷◌, ◌++◌, map, length, take, drop, leb, Result, Ok, Err}
use Rattle.std.proofs.Common.{sym, ◌∙◌, arith, length-take-le, le-leb, leb-true}
use Rattle.std.proofs.Math.Path.{ap}
use Rattle.list_texts.specs.declared.Part.{Part}
use Rattle.list_texts.specs.declared.ListAt.{ListAt}
use Rattle.list_texts.specs.declared.NoList.{NoList}
use Rattle.decimals.specs.Words.{bad_at, is_blank, is_digit, extends, number, word, next_word}
use Rattle.list_words.specs.Entries.{Entry, Entries, next_entry, on_entry, entries_from, next_entries, on_entries, filled}
use Rattle.list_texts.specs.Counted.{list_of, part_of, bad_list, many, counted_words, next_part, filled_start, filled_part, on_part, pool_at, list_at, filled_pool, rest_from, Starts, Fits}

-- ---- so many words at the start of the places

module _ (text old : List ℕ) (count at : ℕ) where
  pub counted_whole : (next : ℕ) → count ≤ length old → next_entries text at (length (take count old)) ≡ Ok next
      → counted_words text (length old) count at ≡ Ok (part_of count next)
  unfolding counted_words
  counted_whole next l h =
      let e : next_entries text at count ≡ Ok next = ap (next_entries text at) (sym (length-take-le count old l)) ∙ h in
      rw (le-leb count (length old) l, e)

  pub counted_bad : (i : ℕ) → count ≤ length old → next_entries text at (length (take count old)) ≡ bad_at i
      → counted_words text (length old) count at ≡ bad_list i
  unfolding counted_words
  counted_bad i l h =
      let e : next_entries text at count ≡ bad_at i = ap (next_entries text at) (sym (length-take-le count old l)) ∙ h in
      rw (le-leb count (length old) l, e)

  pub filled_start_lem : count ≤ length old → filled_start text old count at ≡ filled text at (take count old) ++ drop count old
  unfolding filled_start
  filled_start_lem l = rw (le-leb count (length old) l)

-- ---- a count is within the places

count_of : Result Part NoList → ℕ
count_of (Ok part) = part.count
count_of (Err e) = 0

counted : {c n count next : ℕ} → ◌≡◌ {A = Result Part NoList} (Ok (part_of c n)) (Ok (part_of count next)) → c ≡ count
unfolding count_of
counted h = ap count_of h

pub part_within : (text : List ℕ) (room at count next : ℕ) → next_part text room at ≡ Ok (part_of count next) → count ≤ room
unfolding next_part counted_words
part_within text room at count next h = go (next_entry text at) h
  where
    same : (v : ℕ) (e : Entries) → on_entries (λ mid. Ok (part_of v mid)) bad_list e ≡ Ok (part_of count next) → v ≡ count
    same v (Ok mid) q = counted q
    same v (Err x) q = absurd cc

    fits : (v mid : ℕ) (b : Bool) → leb v room ≡ b
        → cond b (on_entries (λ end. Ok (part_of v end)) bad_list (next_entries text mid v)) (many mid) ≡ Ok (part_of count next) → count ≤ room
    fits v mid true l q = let e = same v (next_entries text mid v) q in omega (arith, e, leb-true v room l)
    fits v mid false l q = absurd cc

    go : (e : Entry) → on_entry (counted_words text room) bad_list e ≡ Ok (part_of count next) → count ≤ room
    go (Ok w) q = fits w.value w.next (leb w.value room) refl q
    go (Err x) q = absurd cc

starts : (n : ℕ) (xs : List ℕ) → n ≤ length xs → Starts n xs
starts n xs l = (l, sym (length-take-le n xs l))

pub list_fits : (text nodes pool : List ℕ) (at n p : ℕ) → n ≡ length nodes → p ≡ length pool → Fits nodes pool (list_at text at n p)
unfolding list_at pool_at
list_fits text nodes pool at n p e f = go (next_part text n at) refl
  where
    behind : (count mid : ℕ) → Starts count nodes → (q : Result Part NoList) → next_part text p mid ≡ q
        → Fits nodes pool (on_part (λ entries next. Ok (list_of count entries next)) Err q)
    behind count mid a (Ok part) h =
        (a, starts part.count pool (omega (arith, f, part_within text p mid part.count part.next h)))
    behind count mid a (Err x) h = tt

    go : (q : Result Part NoList) → next_part text n at ≡ q → Fits nodes pool (on_part (pool_at text p) Err q)
    go (Ok part) h =
        behind part.count part.next (starts part.count nodes (omega (arith, e, part_within text n at part.count part.next h)))
        (next_part text p part.next) refl
    go (Err x) h = tt

-- ---- no second outcome meets the contract of `list_at`, the lent places included

abbrev pub Read : List ℕ → ℕ → List ℕ → List ℕ → Result ListAt NoList → List ℕ → List ℕ → Type 0
Read text at nodes pool r nodes' pool' =
    (r ≡ list_at text at (length nodes) (length pool)) × (nodes' ≡ filled_part text at nodes)
    × (pool' ≡ filled_pool text at (length nodes) pool)

pub list_at_only : (text : List ℕ) (at : ℕ) (nodes pool : List ℕ) {r₁ r₂ : Result ListAt NoList} {nodes₁ nodes₂ pool₁ pool₂ : List ℕ}
    → Read text at nodes pool r₁ nodes₁ pool₁ → Read text at nodes pool r₂ nodes₂ pool₂
    → (r₁ ≡ r₂) × (nodes₁ ≡ nodes₂) × (pool₁ ≡ pool₂)
list_at_only text at nodes pool p q = (p.0 ∙ sym q.0, p.1 ∙ sym q.1, p.2 ∙ sym q.2)

-- ---- examples

pub record Example : Type 0 where
  pub text : List ℕ
  pub at : ℕ
  pub nodes : List ℕ
  pub pool : List ℕ
  pub answer : Result ListAt NoList
  pub nodes_after : List ℕ
  pub pool_after : List ℕ

abbrev eg : List ℕ → ℕ → List ℕ → List ℕ → Result ListAt NoList → List ℕ → List ℕ → Example
eg text at nodes pool answer nodes_after pool_after =
    record { text = text; at = at; nodes = nodes; pool = pool; answer = answer; nodes_after = nodes_after; pool_after = pool_after }

-- "2 5 6 1 3", "2 5", "2 x" and "0 0"
abbrev two_and_one : List ℕ
two_and_one = 50 ∷ 32 ∷ 53 ∷ 32 ∷ 54 ∷ 32 ∷ 49 ∷ 32 ∷ 51 ∷ []

abbrev ends_early : List ℕ
ends_early = 50 ∷ 32 ∷ 53 ∷ []

abbrev no_word : List ℕ
no_word = 50 ∷ 32 ∷ 120 ∷ []

abbrev empty_list : List ℕ
empty_list = 48 ∷ 32 ∷ 48 ∷ []

unfoldable pub examples : List Example
examples =
    eg two_and_one 0 (7 ∷ 7 ∷ []) (8 ∷ []) (Ok (list_of 2 1 9)) (5 ∷ 6 ∷ []) (3 ∷ [])
    ∷ eg two_and_one 0 (7 ∷ 7 ∷ 7 ∷ []) (8 ∷ 8 ∷ []) (Ok (list_of 2 1 9)) (5 ∷ 6 ∷ 7 ∷ []) (3 ∷ 8 ∷ [])  -- only the start is written
    ∷ eg (two_and_one ++ (32 ∷ 52 ∷ [])) 0 (7 ∷ 7 ∷ []) (8 ∷ []) (Ok (list_of 2 1 9)) (5 ∷ 6 ∷ []) (3 ∷ [])  -- the rest is left
    ∷ eg (empty_list ++ (32 ∷ two_and_one)) 3 (7 ∷ 7 ∷ []) (8 ∷ []) (Ok (list_of 2 1 13)) (5 ∷ 6 ∷ []) (3 ∷ [])  -- behind another list
    ∷ eg two_and_one 0 (7 ∷ []) (8 ∷ []) (many 1) (7 ∷ []) (8 ∷ [])  -- two node words, a place for one
    ∷ eg two_and_one 0 (7 ∷ 7 ∷ []) [] (many 7) (5 ∷ 6 ∷ []) []  -- and no place for the pool entry
    ∷ eg ends_early 0 (7 ∷ 7 ∷ []) (8 ∷ []) (bad_list 3) (5 ∷ 7 ∷ []) (8 ∷ [])
    ∷ eg no_word 0 (7 ∷ 7 ∷ []) (8 ∷ []) (bad_list 2) (7 ∷ 7 ∷ []) (8 ∷ [])
    ∷ eg empty_list 0 (7 ∷ []) (8 ∷ []) (Ok (list_of 0 0 3)) (7 ∷ []) (8 ∷ [])
    ∷ eg [] 0 (7 ∷ []) (8 ∷ []) (bad_list 0) (7 ∷ []) (8 ∷ [])
    ∷ []

pub answers_hold : map (λ e. list_at e.text e.at (length e.nodes) (length e.pool)) examples ≡ map (λ e. e.answer) examples
unfolding examples list_at pool_at next_part counted_words entries_from next_entry next_word word number is_blank is_digit extends
answers_hold = refl

pub nodes_hold : map (λ e. filled_part e.text e.at e.nodes) examples ≡ map (λ e. e.nodes_after) examples
unfolding examples filled_part filled_start filled next_entry next_word word number is_blank is_digit extends
nodes_hold = refl

pub pool_holds : map (λ e. filled_pool e.text e.at (length e.nodes) e.pool) examples ≡ map (λ e. e.pool_after) examples
unfolding examples filled_pool next_part counted_words entries_from filled_part filled_start filled next_entry next_word word number is_blank is_digit extends
pool_holds = refl

-- behind "0 0": the text's end, a line feed, the list that follows, a letter
pub rests_hold : map (λ text. rest_from text 3) (empty_list ∷ (empty_list ++ (10 ∷ [])) ∷ (empty_list ++ (32 ∷ two_and_one)) ∷ (empty_list ++ (10 ∷ 120 ∷ [])) ∷ [])
    ≡ Ok true ∷ Ok true ∷ Ok false ∷ bad_at 4 ∷ []
unfolding rest_from next_word word number is_blank is_digit extends
rests_hold = refl
