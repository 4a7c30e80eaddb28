-- `next_row` meets its contract. The invariant: what is left to read, from this place on, is answered as the whole row is,
-- and the places passed with those to come are the row as it is to be.
use Rattle.std.proofs.Common.{◌≡◌, ◌≤◌, ◌-◌, length}
use Rattle.decimals.specs.RowLaws.{end_at}
use Rattle.decimals.specs.Places.{places_after}
use Rattle.decimals.specs.Rows.{row_from, next_row, filled}
use Rattle.decimals.proofs.rows.next_row.Given as goal

abbrev pub invariant-loop-place : goal.invariant-loop-place
invariant-loop-place l = record {
  within : l.place ≤ length l.initial.row;
  as_long : length l.row ≡ length l.initial.row;
  answer : row_from l.text (end_at l.text l.place) (length l.initial.row - l.place) l.next ≡ next_row l.text l.at (length l.initial.row);
  row : places_after (filled l.text l.next) l.row l.place ≡ filled l.text l.at l.initial.row;
}
