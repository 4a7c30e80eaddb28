-- There is room for every row of a program that is made row by row, and what fits is over six operands at most.
use Rattle.std.specs.Prelude.{ℕ, ◌+◌, ◌*◌, ◌^◌, ◌≤◌, ◌<◌, ◌≡◌, true, leb, ltb}
use Rattle.std.proofs.Common.{arith, pow_mono, shl_lt}
use borrow.Author.Tests.{leb-true}
use Rattle.meaning.proofs.Laws.BoolLaws.{and_left}
use Rattle.meaning.proofs.Laws.WordLaws.{bit_lt}
use Rattle.meaning.proofs.Laws.TableLaws.{table_lt}
use Rattle.meaning.specs.Rules.Tables.{table, table_fits}
use Rattle.meaning.specs.Rules.Words.{bit_at}

-- a part of j bits has room above place q
pub room : (x j q : ℕ) → x < 2 ^ j → j + q ≤ 64 → x * 2 ^ q < 2 ^ 64
room x j q h l = omega (arith, shl_lt {a = x} j q h, pow_mono l)

-- a program made from the rows of p, its n-th from row g n: there is room for one row more
module _ (p : ℕ) (g : ℕ → ℕ) (n : ℕ) {r x y : ℕ}
    (source : r ≡ g n) (row : x ≡ bit_at p r) (made : y ≡ table (λ i. bit_at p (g i)) n) where
  pub row_room : n < 64 → (n < 64) × (x * 2 ^ n < 2 ^ 64) × (y < 2 ^ n)
  row_room h =
      (h, rw row (room (bit_at p r) 1 n (bit_lt p r) (omega arith)), rw made (table_lt (λ i. bit_at p (g i)) (λ i. bit_lt p (g i)) n))

-- the range
pub fits_operands : (p k : ℕ) → table_fits p k ≡ true → k ≤ 6
fits_operands p k h = leb-true k 6 (and_left (leb k 6) (ltb p (2 ^ (2 ^ k))) h)
