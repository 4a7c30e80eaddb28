-- `replay` meets its contract: a turn more is a case more, and the last one ends them.
use Rattle.std.proofs.Common.{rules, ℕ, ◌≡◌, ◌+◌, List, [], ◌∷◌, refl, arith, Option, None, Some, Result, Ok, Err, cond, Bool, true, false, ap, subst, length, ◌∙◌}
use mir.Val.{bool_byte}
use Rattle.replay_report.specs.Tallies.{OverText, Replayed, counted}
use Rattle.replay_report.specs.declared.turn.Tried.{Tried}
use Rattle.replay_report.specs.declared.turn.Fault.{Fault}
use Rattle.replay_report.specs.declared.tally.Tally.{Tally}
use Rattle.replay_report.proofs.Counts.{one_turn}
use Rattle.replay_report.proofs.tally.replay.Goals as goal

by_one : (b : Bool) → bool_byte b ≡ cond b 1 0
by_one true = refl
by_one false = refl

as_counted : (turn : ℕ → ℕ → Result (Option Tried) Fault → Type 0) (cases : List Tried) (t : Tally) (tried : Tried) (n : ℕ) (r : Result Tally Fault)
    → n ≡ bool_byte tried.differs → Replayed turn cases tried.next (record { cases = t.cases + 1; differ = t.differ + n }) r
    → Replayed turn cases tried.next (counted t tried) r
as_counted turn cases t tried n r e =
    subst (λ (k : ℕ). Replayed turn cases tried.next (record { cases = t.cases + 1; differ = t.differ + k }) r) (e ∙ by_one tried.differs)

pub returns-in_err-tried : goal.returns-in_err-tried
returns-in_err-tried g c =
    let failed : c.from_residual.result ≡ Err c.in_err-tried.field-0.0 = search rules in
    let w : c.turn.result ≡ Err c.in_err-tried.field-0.0 = cc in
    c.loop-turn.invariant.so_far [] c.from_residual.result (rw failed ((c.args.text, refl, rw w at c.turn.ensures), tt))

pub loop-turn-preserved : goal.loop-turn-preserved
loop-turn-preserved g c =
    let w : c.turn.result ≡ Ok (Some c.in-Some.tried) = cc in
    let on = c.requires.gets_on (c.loop-turn.tally.cases + 1) c.loop-turn.at c.args.text (Ok (Some c.in-Some.tried)) (omega arith) (omega arith) (rw w at c.turn.ensures) in
    let t = c.loop-turn.tally in
    let is = ap (λ (k : ℕ). record { cases = t.cases + 1; differ = t.differ + k }) (c.from.ensures ∙ by_one c.in-Some.tried.differs) in
    let step = (one_turn (length c.args.text.now) c.loop-turn.at t c.in-Some.tried is
    (c.loop-turn.invariant.at_in_bounds, c.loop-turn.invariant.cases_passed, c.loop-turn.invariant.differ_among_them) on).0 in
    record {
      at_in_bounds = step.0;
      cases_passed = step.1;
      differ_among_them = step.2;
      so_far = λ cases r h. c.loop-turn.invariant.so_far (c.in-Some.tried ∷ cases) r ((c.args.text, refl, rw w at c.turn.ensures), as_counted (OverText (goal.F-post g c.args.turn) c.args.text.now) cases c.loop-turn.tally c.in-Some.tried c.from.result r c.from.ensures h);
    }

pub returns : goal.returns
returns g c =
    let none : c.in_ok-tried.field-0 ≡ None = search rules in
    let w : c.turn.result ≡ Ok None = cc in
    c.loop-turn.invariant.so_far [] (Ok c.loop-turn.tally) ((c.args.text, refl, rw w at c.turn.ensures), refl)
