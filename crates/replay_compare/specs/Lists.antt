-- That reading a case's lists gets on in the text.
use Rattle.std.specs.Prelude.{ℕ, ◌≤◌, ◌≡◌, List, length, Ok, Err, IfOk}
use Rattle.std.proofs.Common.{sym, ◌∙◌, arith}
use Rattle.list_words.specs.Entries.{Entries, next_list}
use Rattle.list_words.specs.EntryLaws.{list_ahead}

-- words that are read end at `from` or behind it, within a text of this length
abbrev pub Reaches : ℕ → ℕ → ℕ → Type 0
Reaches length from next = (from ≤ next) × (next ≤ length)

list_reaches : (text : List ℕ) (from at words entries : ℕ) (e : Entries) → from ≤ at → at ≤ length text
    → e ≡ next_list text at words entries → IfOk e (Reaches (length text) from)
list_reaches text from at words entries (Ok next) f l h =
    let on = list_ahead text at words entries next l (sym h) in
    (omega (arith, on.0), on.1)
list_reaches text from at words entries (Err bad) f l h = tt

-- a list that is read behind another does
module _ (text : List ℕ) (at next : ℕ) (words entries words' entries' : ℕ) where
  pub lists_reach : {first second : Entries} → at ≤ length text → first ≡ next_list text at words entries
      → first ≡ Ok next → second ≡ next_list text next words' entries' → IfOk second (Reaches (length text) at)
  lists_reach {second = second} l h whole h' =
      let on = list_ahead text at words entries next l (sym h ∙ whole) in
      list_reaches text at next words' entries' second on.0 on.1 h'
