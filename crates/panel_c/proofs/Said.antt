-- Three words that say an answer are its words as the C interface lays them down.
use Rattle.std.specs.Prelude.{◌≡◌, [], ◌∷◌}
use Rattle.meaning.specs.Rules.Tables.{TableAnswer}
use Rattle.table_words.specs.declared.Words.{Words}
use Rattle.table_words.specs.Said.{Said}
use Rattle.panel_c.specs.Words.{table_words}

pub words_said : (w : Words) (a : TableAnswer) → Said w a → w.number ∷ w.first ∷ w.second ∷ [] ≡ table_words a
unfolding table_words
words_said w a h = rw (h.0, h.1, h.2)
