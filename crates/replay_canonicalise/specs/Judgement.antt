-- What a case expects of the canonicaliser, and whether what was seen differs.
use Rattle.std.specs.Prelude.{ℕ, Bool, not, ◌&&◌, ◌≡◌, List, [], ◌∷◌, ◌++◌}
use Rattle.std.proofs.Common.{sym, ◌∙◌}
use Rattle.meaning.specs.Rules.Calls.{canonical_said}
use Rattle.canonical_words.specs.Words.{canonical_words}
use Rattle.replay_results.specs.Alike.{alike}
use Rattle.replay_canonicalise.specs.declared.judgement.Expected.{Expected}
use Rattle.replay_canonicalise.specs.declared.judgement.Seen.{Seen}

-- number, node, node words, pool entries, verdict
abbrev pub expected_words : Expected → List ℕ
expected_words e = e.number ∷ e.node ∷ e.words ∷ e.entries ∷ e.verdict ∷ []

abbrev pub seen_words : Seen → List ℕ
seen_words s = canonical_words (canonical_said s.canonical) ++ (s.verdict ∷ [])

-- what was seen is what is expected: the work space, the outputs behind the list, the list and the words
abbrev pub as_expected : Expected → Seen → Bool → Bool
as_expected e s list = s.work && s.behind && list && alike (seen_words s) (expected_words e)

-- whether a case differs
abbrev pub differs : Expected → Seen → Bool → Bool
differs e s list = not (as_expected e s list)

-- no second outcome
pub differs_only : (e : Expected) (s : Seen) (list : Bool) {n n' : Bool} → n ≡ differs e s list → n' ≡ differs e s list
    → n ≡ n'
differs_only e s list p q = p ∙ sym q
