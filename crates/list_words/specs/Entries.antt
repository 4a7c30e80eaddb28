-- The words of a node list in a text of bytes (document 01, "The node list": "Two lent slices of u32").
use Rattle.std.specs.Prelude.{ℕ, zero, suc, cond, List, [], ◌∷◌, length, leb, Result, Ok, Err}
use Rattle.decimals.specs.declared.Word.{Word}
use Rattle.decimals.specs.declared.Bad.{Bad}
use Rattle.decimals.specs.Words.{word_of, bad_at, next_word}
use Rattle.decimals.specs.Rows.{on_word}

-- the largest word of a list, 2^32 - 1
abbrev pub largest : ℕ
largest = 4294967295

-- a word, or the offset of what is none
abbrev pub Entry : Type 0
Entry = Result (Word ℕ) Bad

-- the offset behind the words, or that of what is no word
abbrev pub Entries : Type 0
Entries = Result ℕ Bad

-- a number read from the offset `at` on; one that is too large is bad there
abbrev pub narrowed : ℕ → ℕ → ℕ → Entry
narrowed at v next = cond (leb v largest) (Ok (word_of v next)) (bad_at at)

-- a word is owed: where the text ends, its end is bad
unfoldable pub next_entry : List ℕ → ℕ → Entry
next_entry text at = on_word (narrowed at) (bad_at (length text)) bad_at (next_word text at)

abbrev pub on_entry : {A : Type 0} → (ℕ → ℕ → A) → (ℕ → A) → Entry → A
on_entry value bad (Ok w) = value w.value w.next
on_entry value bad (Err e) = bad e.offset

-- n words from an offset on: the offset behind the last, or that of the first fault
unfoldable pub entries_from : List ℕ → ℕ → ℕ → Entries
entries_from text zero at = Ok at
entries_from text (suc n) at = on_entry (λ v next. entries_from text n next) bad_at (next_entry text at)

abbrev pub next_entries : List ℕ → ℕ → ℕ → Entries
next_entries text at n = entries_from text n at

-- what the places hold afterwards: the words, as far as there are any, and behind them what was there
unfoldable pub filled : List ℕ → ℕ → List ℕ → List ℕ
filled text at [] = []
filled text at (x ∷ old) = on_entry (λ v next. v ∷ filled text next old) (λ i. x ∷ old) (next_entry text at)

-- ---- a list: so many node words, and behind them so many pool entries

abbrev pub on_entries : {A : Type 0} → (ℕ → A) → (ℕ → A) → Entries → A
on_entries whole bad (Ok next) = whole next
on_entries whole bad (Err e) = bad e.offset

unfoldable pub next_list : List ℕ → ℕ → ℕ → ℕ → Entries
next_list text at words entries = on_entries (λ next. next_entries text next entries) bad_at (next_entries text at words)

-- what the pool holds afterwards: nothing new where the node words are not whole
unfoldable pub filled_behind : List ℕ → ℕ → ℕ → List ℕ → List ℕ
filled_behind text at words old = on_entries (λ next. filled text next old) (λ i. old) (next_entries text at words)
