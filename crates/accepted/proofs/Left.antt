-- The kind that is left where it is none of some others: of Nor, And and Xor, and of the words 4 to 14.
use Rattle.std.specs.Prelude.{ℕ, ◌≤◌, ◌<◌, ◌≡◌, ◌≢◌, ◌⊎◌}
use Rattle.std.proofs.Common.{⊎_elim, arith}
use Rattle.meaning.specs.declared.kinds.Kind.{Kind}
use Rattle.meaning.specs.declared.kinds.Kind.TheVariants.{Nor, And, Xor, Reg}
use Rattle.meaning.specs.Rules.Kinds.{kind_of}
use Rattle.meaning.proofs.Laws.KindLaws.{register_kind}
use Rattle.lists.specs.Cases.{past}
use Rattle.accepted.specs.Operands.{TwoOperands}

pub left_is_xor : (κ : Kind) → TwoOperands κ → κ ≢ Nor → κ ≢ And → κ ≡ Xor
left_is_xor κ two n4 n6 = ⊎_elim (λ e. absurd (n4 e)) (⊎_elim (λ e. absurd (n6 e)) (λ e. e)) two

-- the same of their words
pub left_word : (k : ℕ) → (k ≡ 4) ⊎ (k ≡ 6) ⊎ (k ≡ 7) → k ≢ 4 → k ≢ 6 → k ≡ 7
left_word k two n4 n6 = ⊎_elim (λ e. absurd (n4 e)) (⊎_elim (λ e. absurd (n6 e)) (λ e. e)) two

-- ---- registers: what is left of 4 to 14 where no gate, Lut or Bus is
pub registers : (k : ℕ) → 4 ≤ k → k < 15 → k ≢ 4 → k ≢ 5 → k ≢ 6 → k ≢ 7 → k ≢ 8 → k ≢ 9 → k ≢ 10 → kind_of k ≡ Reg
registers k from below n4 n5 n6 n7 n8 n9 n10 =
    register_kind k (past 10 k (past 9 k (past 8 k (past 7 k (past 6 k (past 5 k (past 4 k from n4) n5) n6) n7) n8) n9) n10) (omega arith)
