-- The counts of a replay's tally stay within its text, and each turn brings the text's end nearer: what the loop over the
-- cases ends by. No second tally is the one after a turn.
use Rattle.std.specs.Prelude.{ℕ, ◌+◌, ◌-◌, ◌≤◌, ◌<◌, Bool, true, false, cond, ◌≡◌}
use Rattle.std.proofs.Common.{sym, subst, ◌∙◌, arith}
use Rattle.replay_report.specs.declared.turn.Tried.{Tried}
use Rattle.replay_report.specs.declared.tally.Tally.{Tally}
use Rattle.replay_report.specs.Turns.{GetsOn}
use Rattle.replay_report.specs.Tallies.{started, counted}

-- the largest word of 64 bits
abbrev largest : ℕ
largest = 18446744073709551615

-- neither count wraps in this turn
abbrev pub Countable : Tally → Tried → Type 0
Countable t tried = (t.cases < largest) × (t.differ + cond tried.differs 1 0 ≤ largest)

-- in a text of this length, from an offset on: no more cases than bytes passed, and no more differences than cases
abbrev pub Within : ℕ → ℕ → Tally → Type 0
Within length at t = (at ≤ length) × (t.cases ≤ at) × (t.differ ≤ t.cases)

-- how far the loop is from its end
abbrev pub ahead : ℕ → ℕ → ℕ
ahead length at = length + 1 - at

-- a case that ends at an offset or behind it ends behind an earlier one too
pub gets_on_from : (length from earlier : ℕ) (tried : Tried) → earlier ≤ from → GetsOn length from tried → GetsOn length earlier tried
gets_on_from length from earlier tried l g = (omega (arith, g.0), g.1)

at_most_one : (b : Bool) → cond b 1 0 ≤ 1
at_most_one true = omega arith
at_most_one false = omega arith

pub started_within : (length : ℕ) {r : Tally} → r ≡ started → Within length 0 r
started_within length e = subst (Within length 0) (sym e) (omega arith, omega arith, omega arith)

module _ (length at : ℕ) (t : Tally) where
  pub within_countable : (tried : Tried) → length < largest → Within length at t → GetsOn length (at + 1) tried → Countable t tried
  within_countable tried l w g =
      (omega (arith, w.1, g.0, g.1), omega (arith, w.1, w.2, g.0, g.1, at_most_one tried.differs))

  -- a turn keeps the counts within the text, and brings the end nearer
  pub one_turn : (tried : Tried) {r : Tally} → r ≡ counted t tried → Within length at t → GetsOn length (at + 1) tried
      → Within length tried.next r × (ahead length tried.next < ahead length at)
  one_turn tried {r} e w g =
      subst (λ (x : Tally). Within length tried.next x × (ahead length tried.next < ahead length at)) (sym e) (
        (g.1, omega (arith, w.1, g.0), omega (arith, w.2, at_most_one tried.differs)),
        omega (arith, w.0, g.0, g.1),
      )

pub counted_only : (t : Tally) (tried : Tried) {r r' : Tally} → r ≡ counted t tried → r' ≡ counted t tried → r ≡ r'
counted_only t tried p q = p ∙ sym q
