-- Lists in a text, each with its two counts: how many node words, the node words, how many pool entries, the pool entries.
use Rattle.std.specs.Prelude.{ℕ, ◌≤◌, ◌≡◌, Bool, true, false, cond, List, ◌++◌, length, take, drop, leb, Result, Ok, Err}
use Rattle.decimals.specs.declared.Bad.{Bad}
use Rattle.decimals.specs.Words.{bad_at, next_word}
use Rattle.decimals.specs.Rows.{on_word}
use Rattle.list_texts.specs.declared.Part.{Part}
use Rattle.list_texts.specs.declared.ListAt.{ListAt}
use Rattle.list_texts.specs.declared.NoList.{NoList}
use Rattle.list_texts.specs.declared.NoList.TheVariants as no_list
use Rattle.list_words.specs.Entries.{next_entry, on_entry, next_entries, on_entries, filled}

abbrev pub list_of : ℕ → ℕ → ℕ → ListAt
list_of words entries next = record { words = words; entries = entries; next = next }

abbrev pub part_of : ℕ → ℕ → Part
part_of count next = record { count = count; next = next }

-- no list, for what stands at offset i; or for a count in front of it
abbrev pub bad_list : {A : Type 0} → ℕ → Result A NoList
bad_list i = Err (no_list.Bad (record { offset = i }))

abbrev pub many : {A : Type 0} → ℕ → Result A NoList
many i = Err (no_list.TooMany i)

-- ---- a count, and behind it so many words

-- the words, where there is room for so many
unfoldable pub counted_words : List ℕ → ℕ → ℕ → ℕ → Result Part NoList
counted_words text room count at =
    cond (leb count room) (on_entries (λ next. Ok (part_of count next)) bad_list (next_entries text at count)) (many at)

unfoldable pub next_part : List ℕ → ℕ → ℕ → Result Part NoList
next_part text room at = on_entry (counted_words text room) bad_list (next_entry text at)

-- what the places hold afterwards: words only at their start, and nothing new where a count is too large or is none
unfoldable pub filled_start : List ℕ → List ℕ → ℕ → ℕ → List ℕ
filled_start text old count at = cond (leb count (length old)) (filled text at (take count old) ++ drop count old) old

unfoldable pub filled_part : List ℕ → ℕ → List ℕ → List ℕ
filled_part text at old = on_entry (filled_start text old) (λ i. old) (next_entry text at)

abbrev pub on_part : {A : Type 0} → (ℕ → ℕ → A) → (NoList → A) → Result Part NoList → A
on_part whole none (Ok part) = whole part.count part.next
on_part whole none (Err e) = none e

-- ---- the node words, and behind them the pool entries

unfoldable pub pool_at : List ℕ → ℕ → ℕ → ℕ → Result ListAt NoList
pool_at text room words at = on_part (λ entries next. Ok (list_of words entries next)) Err (next_part text room at)

unfoldable pub list_at : List ℕ → ℕ → ℕ → ℕ → Result ListAt NoList
list_at text at nodes pool = on_part (pool_at text pool) Err (next_part text nodes at)

-- what the pool's places hold afterwards: nothing new where the node words are not whole
unfoldable pub filled_pool : List ℕ → ℕ → ℕ → List ℕ → List ℕ
filled_pool text at nodes old = on_part (λ words next. filled_part text next old) (λ e. old) (next_part text nodes at)

-- ---- behind the lists: whether there is nothing but blanks

abbrev pub Rest : Type 0
Rest = Result Bool Bad

unfoldable pub rest_from : List ℕ → ℕ → Rest
rest_from text at = on_word (λ v next. Ok false) (Ok true) bad_at (next_word text at)

-- ---- the counts are of words that are there

-- n words at the start of xs; the second part follows from the first, and is what lending `&xs[..n]` asks
abbrev pub Starts : ℕ → List ℕ → Type 0
Starts n xs = (n ≤ length xs) × (n ≡ length (take n xs))

abbrev pub Fits : List ℕ → List ℕ → Result ListAt NoList → Type 0
Fits nodes pool (Ok list) = Starts list.words nodes × Starts list.entries pool
Fits nodes pool (Err e) = Unit
