-- Which words may stand in a case's row, as src/cases.rt has it.
use Rattle.std.specs.Prelude.{ℕ, ◌≤◌, true, ◌≡◌, List, [], ◌∷◌, get_or}
use Rattle.case_rows.specs.CaseRows.{any_word, within, within_at}
use Rattle.list_room.specs.Room.{node_room, pool_room, work_room}

-- the largest word of 32 bits, 2^32 - 1
abbrev pub word_of32 : ℕ
word_of32 = 4294967295

-- the largest at each place
abbrev pub largest : List ℕ
largest =
    node_room ∷ pool_room ∷ word_of32 ∷ word_of32 ∷ work_room
    ∷ any_word ∷ any_word ∷ any_word ∷ any_word ∷ any_word ∷ any_word ∷ any_word ∷ any_word ∷ any_word ∷ any_word ∷ 1 ∷ []

-- no word is larger, so there is room for what the case asks
abbrev pub Fits : List ℕ → Type 0
Fits row = within row largest ≡ true

module _ (row : List ℕ) (h : Fits row) where
  pub words_fit : get_or row 0 0 ≤ node_room
  words_fit = within_at row largest h 0

  pub entries_fit : get_or row 1 0 ≤ pool_room
  entries_fit = within_at row largest h 1

  pub n_fits : get_or row 2 0 ≤ word_of32
  n_fits = within_at row largest h 2

  pub marks_fit : get_or row 3 0 ≤ word_of32
  marks_fit = within_at row largest h 3

  pub work_fits : get_or row 4 0 ≤ work_room
  work_fits = within_at row largest h 4
