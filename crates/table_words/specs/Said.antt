-- What the contracts of the words cite.
use Rattle.std.specs.Prelude.{ℕ, ◌≡◌}
use Rattle.std.proofs.Common.{sym, ◌∙◌}
use Rattle.meaning.specs.Rules.Tables.{TableAnswer}
use Rattle.table_words.specs.declared.Words.{Words}

-- the three words are the answer's number and values
abbrev pub Said : Words → TableAnswer → Type 0
Said w a = (w.number ≡ a.number) × (w.first ≡ a.first) × (w.second ≡ a.second)

-- no second three words are the answer's
abbrev three : ℕ → ℕ → ℕ → Words
three number first second = record { number = number; first = first; second = second }

three_path : {m n a b x y : ℕ} → m ≡ n → a ≡ b → x ≡ y → three m a x ≡ three n b y
three_path p q r = cc

pub said_only : (a : TableAnswer) (w w' : Words) → Said w a → Said w' a → w ≡ w'
said_only a w w' p q = three_path (p.0 ∙ sym q.0) (p.1 ∙ sym q.1) (p.2 ∙ sym q.2)
