-- Which words may stand in a case's row, as src/cases.rt has it.
use Rattle.std.specs.Prelude.{ℕ, ◌≤◌, true, ◌≡◌, List, [], ◌∷◌, get_or}
use Rattle.case_rows.specs.CaseRows.{any_word, within, within_at}
use Rattle.list_room.specs.Room.{node_room, pool_room, work_room}

-- the largest at each place
abbrev pub largest : List ℕ
largest =
    node_room ∷ pool_room ∷ work_room ∷ node_room ∷ pool_room
    ∷ any_word ∷ any_word ∷ any_word ∷ any_word ∷ any_word ∷ 1 ∷ []

-- no word is larger, so there is room for what the case asks
abbrev pub Fits : List ℕ → Type 0
Fits row = within row largest ≡ true

module _ (row : List ℕ) (h : Fits row) where
  pub words_fit : get_or row 0 0 ≤ node_room
  words_fit = within_at row largest h 0

  pub entries_fit : get_or row 1 0 ≤ pool_room
  entries_fit = within_at row largest h 1

  pub work_fits : get_or row 2 0 ≤ work_room
  work_fits = within_at row largest h 2

  pub out_words_fit : get_or row 3 0 ≤ node_room
  out_words_fit = within_at row largest h 3

  pub out_entries_fit : get_or row 4 0 ≤ pool_room
  out_entries_fit = within_at row largest h 4
