-- The variables below a root, as a user is shown them; a list that a number from 1 to 8 refuses has none, and is not
-- searched.
use Rattle.std.specs.Prelude.{ℕ, ◌≡◌, List, [], cond, true, false}
use Rattle.meaning.specs.Rules.Trees.{root_of}
use Rattle.meaning.specs.Rules.Assignments.{inputs}
use Rattle.long_searches.specs.Accepted.{is_accepted}

unfoldable pub variables_below : List ℕ → List ℕ → List ℕ
variables_below ns ps = cond (is_accepted ns ps) (inputs (root_of ns ps)) []

module _ (ns ps : List ℕ) where
  pub none_shown : is_accepted ns ps ≡ false → variables_below ns ps ≡ []
  unfolding variables_below
  none_shown e = rw e

  pub all_shown : is_accepted ns ps ≡ true → variables_below ns ps ≡ inputs (root_of ns ps)
  unfolding variables_below
  all_shown e = rw e
