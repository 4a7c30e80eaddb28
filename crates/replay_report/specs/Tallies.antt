-- A replay's cases one behind the other, and its tally of them.
use Rattle.std.specs.Prelude.{ℕ, ◌+◌, cond, ◌≡◌, List, [], ◌∷◌, Option, Some, None, Result, Ok, Err, OnOk}
use Rattle.std.specs.Borrow.{Bor}
use Rattle.std.proofs.Common.{sym, subst, ◌∙◌}
use Rattle.replay_report.specs.declared.turn.Tried.{Tried}
use Rattle.replay_report.specs.declared.turn.Fault.{Fault}
use Rattle.replay_report.specs.declared.tally.Tally.{Tally}

abbrev pub started : Tally
started = record { cases = 0; differ = 0 }

abbrev pub counted : Tally → Tried → Tally
counted t tried = record { cases = t.cases + 1; differ = t.differ + cond tried.differs 1 0 }

-- what the last turn came to, for this answer: no case more, or what failed
abbrev pub last : Result Tally Fault → Result (Option Tried) Fault
last (Ok t) = Ok None
last (Err fault) = Err fault

-- what may come of the turn over a case of this text, where `turn` says what may come of it over one of any
abbrev pub OverText : (ℕ → Bor (List ℕ) → ℕ → Result (Option Tried) Fault → Type 0) → List ℕ
    → ℕ → ℕ → Result (Option Tried) Fault → Type 0
OverText turn text number at r = (t : Bor (List ℕ)) × (t.now ≡ text) × turn number t at r

-- With the tally so far, and from an offset on: these cases are tried, each where the one before it ended, and the turn
-- behind them is the last. `turn number at r` says that r may come of the turn over that case.
abbrev pub Replayed : (ℕ → ℕ → Result (Option Tried) Fault → Type 0) → List Tried → ℕ → Tally → Result Tally Fault → Type 0
Replayed turn [] at t r = turn (t.cases + 1) at (last r) × OnOk r (r ≡ Ok t)
Replayed turn (tried ∷ cases) at t r =
    turn (t.cases + 1) at (Ok (Some tried)) × Replayed turn cases tried.next (counted t tried) r

-- ---- no second outcome, where each turn has one

module _ (turn : ℕ → ℕ → Result (Option Tried) Fault → Type 0)
    (one : (number at : ℕ) (o o' : Result (Option Tried) Fault) → turn number at o → turn number at o' → o ≡ o') where
  ends_only : (r r' : Result Tally Fault) (t : Tally) → last r ≡ last r' → OnOk r (r ≡ Ok t) → OnOk r' (r' ≡ Ok t) → r ≡ r'
  ends_only (Ok u) (Ok u') t e p q = p ∙ sym q
  ends_only (Ok u) (Err f) t e p q = absurd cc
  ends_only (Err f) (Ok u) t e p q = absurd cc
  ends_only (Err f) (Err f') t e p q = cc

  goes_on : {A : Type 0} (r : Result Tally Fault) (tried : Tried) → last r ≡ Ok (Some tried) → A
  goes_on (Ok u) tried e = absurd cc
  goes_on (Err f) tried e = absurd cc

  pub replayed_only : (cases cases' : List Tried) (at : ℕ) (t : Tally) {r r' : Result Tally Fault}
      → Replayed turn cases at t r → Replayed turn cases' at t r' → r ≡ r'
  replayed_only [] [] at t {r} {r'} p q = ends_only r r' t (one (t.cases + 1) at _ _ p.0 q.0) p.1 q.1
  replayed_only [] (tried ∷ cases) at t {r} p q = goes_on r tried (one (t.cases + 1) at _ _ p.0 q.0)
  replayed_only (tried ∷ cases) [] at t {r} {r'} p q = goes_on r' tried (one (t.cases + 1) at _ _ q.0 p.0)
  replayed_only (tried ∷ cases) (tried' ∷ cases') at t {r} {r'} p q =
      let e : tried ≡ tried' = cc (one (t.cases + 1) at _ _ p.0 q.0) in
      replayed_only cases cases' tried.next (counted t tried) p.1 (subst (λ (x : Tried). Replayed turn cases' x.next (counted t x) r') (sym e) q.1)
