-- The work space by columns (document 01, number 10: so many words for each node).
use Rattle.std.specs.Prelude.{ℕ, zero, suc, ◌+◌, ◌*◌, ◌<◌, ◌≡◌, List, get_or, set}
use Rattle.meaning.specs.Rules.Limits.{work_per_node}

-- where column q of row i stands
abbrev pub place : ℕ → ℕ → ℕ
place q i = work_per_node * i + q

-- the word there
abbrev pub cell : List ℕ → ℕ → ℕ → ℕ
cell work q i = get_or work (place q i) 0

-- ---- the columns in use
abbrev pub mark_column : ℕ
mark_column = 0

abbrev pub shape_column : ℕ
shape_column = 1

abbrev pub state_column : ℕ
state_column = 2

abbrev pub value_column : ℕ
value_column = 3

abbrev pub class_column : ℕ
class_column = 4

-- ---- those of the canonicaliser
abbrev pub home_column : ℕ
home_column = 2

abbrev pub kind_column : ℕ
kind_column = 3

abbrev pub datum_column : ℕ
datum_column = 4

abbrev pub count_column : ℕ
count_column = 5

abbrev pub operand_column : ℕ
operand_column = 6

abbrev pub number_column : ℕ
number_column = 12

abbrev pub program_column : ℕ
program_column = 13

abbrev pub listed_column : ℕ
listed_column = 14

abbrev pub stack_column : ℕ
stack_column = 0

abbrev pub next_column : ℕ
next_column = 1

-- column q of the n rows from `base` on holds f 0, f 1, …
abbrev pub Column : List ℕ → ℕ → ℕ → ℕ → (ℕ → ℕ) → Type 0
Column work q base n f = (i : ℕ) → i < n → cell work q (base + i) ≡ f i

-- the work space with f 0, f 1, … written there, and all else as it was
unfoldable pub with_column : ℕ → ℕ → ℕ → (ℕ → ℕ) → List ℕ → List ℕ
with_column q base zero f work = work
with_column q base (suc n) f work = set (with_column q base n f work) (place q (base + n)) (f n)
