-- `next_entries` meets its contract. The invariant: what is left to read, from this place on, is answered as the whole is, and
-- the places passed with those to come are as they are to be.
use Rattle.std.proofs.Common.{◌≡◌, ◌≤◌, ◌-◌, length}
use Rattle.decimals.specs.Places.{places_after}
use Rattle.list_words.specs.Entries.{entries_from, next_entries, filled}
use Rattle.list_words.proofs.next_entries.Given as goal

abbrev pub invariant-loop-place : goal.invariant-loop-place
invariant-loop-place l = record {
  within : l.place-index ≤ length l.initial.places;
  as_many : length l.places ≡ length l.initial.places;
  answer : entries_from l.text (length l.initial.places - l.place-index) l.next ≡ next_entries l.text l.at (length l.initial.places);
  places : places_after (filled l.text l.next) l.places l.place-index ≡ filled l.text l.at l.initial.places;
}
