-- What a case expects of a call that answers ten words, and whether what was seen differs.
use Rattle.std.specs.Prelude.{ℕ, Bool, not, ◌&&◌, ◌≡◌, List, [], ◌∷◌, eqb, get_or}
use Rattle.std.proofs.Common.{sym, ◌∙◌}
use Rattle.replay_results.specs.declared.Expected.{Expected}
use Rattle.replay_results.specs.Alike.{alike}

abbrev pub row_words : ℕ
row_words = 16

-- of a case's row
abbrev pub expected_of : List ℕ → Expected
expected_of row =
    record {
      number = get_or row 5 0;
      node = get_or row 6 0;
      found = get_or row 7 0;
      index = get_or row 8 0;
      first = record { state = get_or row 9 0; width = get_or row 10 0; value = get_or row 11 0 };
      second = record { state = get_or row 12 0; width = get_or row 13 0; value = get_or row 14 0 };
      cleared = eqb (get_or row 15 0) 1;
    }

abbrev pub expected_words : Expected → List ℕ
expected_words e =
    e.number ∷ e.node ∷ e.found ∷ e.index
    ∷ e.first.state ∷ e.first.width ∷ e.first.value
    ∷ e.second.state ∷ e.second.width ∷ e.second.value ∷ []

-- what was seen is what is expected, words and work space
abbrev pub as_expected : Expected → List ℕ → Bool → Bool
as_expected e words work = work && alike words (expected_words e)

-- whether a case differs
abbrev pub differs : Expected → List ℕ → Bool → Bool
differs e words work = not (as_expected e words work)

-- no second outcome
pub expected_only : (row : List ℕ) {e e' : Expected} → e ≡ expected_of row → e' ≡ expected_of row → e ≡ e'
expected_only row p q = p ∙ sym q

pub differs_only : (e : Expected) (words : List ℕ) (work : Bool) {n n' : Bool} → n ≡ differs e words work
    → n' ≡ differs e words work → n ≡ n'
differs_only e words work p q = p ∙ sym q
