-- `table_rows::made_from` meets its contract: the loop has made the table of the rows below i, and it has i bits.
use Rattle.std.proofs.Common.{◌≡◌, ℕ, ◌^◌, ◌<◌}
use Rattle.meaning.specs.Rules.Words.{bit_at}
use Rattle.meaning.specs.Rules.Tables as meant
use Rattle.table_rows.proofs.made_from.Given as goal

abbrev pub invariant-loop-i : goal.invariant-loop-i
invariant-loop-i t l =
    (l.made < 2 ^ l.i)
    × ((g : ℕ → ℕ) → ((i row : ℕ) → i < l.rows → goal.F-post t l.source i row → row ≡ g i)
    → l.made ≡ meant.table (λ i. bit_at l.p (g i)) l.i)
