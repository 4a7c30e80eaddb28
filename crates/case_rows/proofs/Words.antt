-- Whether no word of a row is larger than the one at its place, word by word: one more that is not, one that is, and none
-- left.
use Rattle.std.specs.Prelude.{ℕ, ◌+◌, ◌≤◌, ◌<◌, ◌≡◌, true, false, List, length, get_or, drop}
use Rattle.std.proofs.Common.{add-one, drop_of_length-le}
use Rattle.std.proofs.Math.Seq.{drop-cons}
use borrow.Author.Tests.{le-leb, lt-leb}
use Rattle.case_rows.specs.CaseRows.{within}

module _ (row largest : List ℕ) (place : ℕ) where
  pub within_more : place < length row → place < length largest → get_or row place 0 ≤ get_or largest place 0
      → within (drop place row) (drop place largest) ≡ within (drop (place + 1) row) (drop (place + 1) largest)
  unfolding within
  within_more l l' e = rw (add-one place, drop-cons row place 0 l, drop-cons largest place 0 l', le-leb _ _ e)

  pub within_stop : place < length row → place < length largest → get_or largest place 0 < get_or row place 0
      → within (drop place row) (drop place largest) ≡ false
  unfolding within
  within_stop l l' e = rw (drop-cons row place 0 l, drop-cons largest place 0 l', lt-leb _ _ e)

  pub within_whole : length row ≤ place → within (drop place row) (drop place largest) ≡ true
  unfolding within
  within_whole l = rw (drop_of_length-le row l)
