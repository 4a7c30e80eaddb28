-- `replay` ends, as each turn gets on in the text; and where the cases from here on come to an answer, all of them do.
use Rattle.std.proofs.Common.{◌≤◌, List, Result, length}
use Rattle.replay_report.specs.Tallies.{OverText, Replayed, started}
use Rattle.replay_report.specs.declared.turn.Tried.{Tried}
use Rattle.replay_report.specs.declared.turn.Fault.{Fault}
use Rattle.replay_report.specs.declared.tally.Tally.{Tally}
use Rattle.replay_report.proofs.Counts.{ahead}
use Rattle.replay_report.proofs.tally.replay.Given as goal

abbrev pub invariant-loop-turn : goal.invariant-loop-turn
invariant-loop-turn g l =
    record {
      at_in_bounds : l.at ≤ length l.text;
      cases_passed : l.tally.cases ≤ l.at;
      differ_among_them : l.tally.differ ≤ l.tally.cases;
      so_far : (cases : List Tried) (r : Result Tally Fault) → Replayed (OverText (goal.F-post g l.turn) l.text) cases l.at l.tally r
          → (all : List Tried) × Replayed (OverText (goal.F-post g l.turn) l.text) all 0 started r;
    }

abbrev pub decreases-loop-turn : goal.decreases-loop-turn
decreases-loop-turn g l = ahead (length l.text) l.at
