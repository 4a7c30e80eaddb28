-- The words of an answer as the C interface lays them down (include/panel.h).
use Rattle.std.specs.Prelude.{ℕ, List, [], ◌∷◌, cond, leb, eqb}
use Rattle.meaning.specs.Rules.Numbers.{bad_table}
use Rattle.meaning.specs.Rules.Tables.{TableAnswer, eval_lut_const_input}

-- ---- truth tables: number, and two words
unfoldable pub table_words : TableAnswer → List ℕ
table_words a = a.number ∷ a.first ∷ a.second ∷ []

-- the truth value is a number here: 0 or 1, and any other is out of range
unfoldable pub const_input_words : ℕ → ℕ → ℕ → List ℕ
const_input_words p msb v = cond (leb v 1) (table_words (eval_lut_const_input p msb (eqb v 1))) (bad_table ∷ 0 ∷ 0 ∷ [])
