-- The terms in which the claims are worded: what demands 2 and 3 say (Claims/Demands), and how the table of numbers is
-- read (Claims/Numbers).
use Rattle.std.specs.Prelude.{ℕ, ◌^◌, ◌<◌, ◌≡◌, ◌↔◌, List, ◌∷◌, true, false, cond, ◌&&◌}
use Rattle.meaning.specs.declared.Answer.{Answer}
use Rattle.meaning.specs.declared.Check.TheVariants.{NotEquiv, Inconclusive}
use Rattle.meaning.specs.declared.Judgement.TheVariants.{Crossing}
use Rattle.meaning.specs.declared.Comparison as of_comparison
use Rattle.meaning.specs.declared.Separation as of_separation
use Rattle.meaning.specs.Rules.Comparison.{Comparison}
use Rattle.meaning.specs.Rules.Separation.{Separation}
use Rattle.meaning.specs.declared.Refusal.{Refusal}
use Rattle.meaning.specs.Rules.Search.{lowest}
use Rattle.meaning.specs.Rules.Refusals.{done, refuse}
use Rattle.meaning.specs.Rules.Trees.{Tree}
use Rattle.meaning.specs.Rules.Answers.{Assignment, answer}
use Rattle.meaning.specs.Rules.Assignments.{inputs, drive, upto, is_in, Assigns}
use Rattle.meaning.specs.Rules.Comparison.{is_value, assignments}
use Rattle.meaning.specs.Rules.Separation.{is_marked, run_cleared}

-- ==== Demand 2

-- "gives both roots one equal value"
abbrev pub OneValue : Answer → Answer → Type 0
OneValue x y = (x ≡ y) × (is_value x ≡ true)

-- "every assignment of the first root's inputs gives both roots one equal value"
abbrev pub EverywhereEqual : Tree → Tree → Type 0
EverywhereEqual t u = (α : Assignment) → Assigns (inputs t) α → OneValue (answer α t) (answer α u)

module _ (t u : Tree) where
  -- the two roots' answers at assignment i
  abbrev pub first : ℕ → Answer
  first i = answer (drive (inputs t) i) t

  abbrev pub second : ℕ → Answer
  second i = answer (drive (inputs t) i) u

  -- "Otherwise the lowest assignment failing that decides: NotEquiv if both have values there, else Inconclusive"
  pub record Decided (c : Comparison) : Type 0 where
    pub exists : c.index < assignments t
    pub fails : OneValue (first c.index) (second c.index) → ⊥
    pub lowest : (j : ℕ) → j < c.index → OneValue (first j) (second j)
    pub answers : (c.first ≡ first c.index) × (c.second ≡ second c.index)
    pub verdict : c.verdict ≡ cond (is_value (first c.index) && is_value (second c.index)) NotEquiv Inconclusive

-- what code found in a comparison, field by field as they are called: an answer that refuses nothing
abbrev pub whole_comparison : of_comparison.Comparison → Comparison
whole_comparison c = record { refusal = done; verdict = c.verdict; index = c.index; first = c.first; second = c.second }

-- ==== Demand 3

-- "two assignments that agree on all unmarked variables"
abbrev pub AgreeUnmarked : ℕ → ℕ → Assignment → Assignment → Type 0
AgreeUnmarked n run α β = (v : ℕ) → v < n → is_marked run v ≡ false → α v ≡ β v

-- "any two assignments that agree on all unmarked variables give the root the same answer, value or named failure"
abbrev pub NoCrossing : Tree → ℕ → ℕ → Type 0
NoCrossing t n run =
    (α β : Assignment) → Assigns (upto n) α → Assigns (upto n) β → AgreeUnmarked n run α β → answer α t ≡ answer β t

module _ (t : Tree) (n run : ℕ) where
  -- the root's answers at assignment i, and at i with its run bits cleared
  abbrev pub as_run : ℕ → Answer
  as_run i = answer (drive (upto n) i) t

  abbrev pub as_cleared : ℕ → Answer
  as_cleared i = answer (run_cleared run (drive (upto n) i)) t

  -- "Otherwise name the lowest assignment that answers differently from itself with its run bits cleared"
  pub record Crosses (s : Separation) : Type 0 where
    pub judgement : s.judgement ≡ Crossing
    pub exists : s.index < 2 ^ n
    pub differs : as_run s.index ≡ as_cleared s.index → ⊥
    pub lowest : (j : ℕ) → j < s.index → as_run j ≡ as_cleared j
    pub answers : (s.run ≡ as_run s.index) × (s.cleared ≡ as_cleared s.index)

-- what code found in a separation
abbrev pub whole_separation : of_separation.Separation → Separation
whole_separation s = record { refusal = done; judgement = s.judgement; index = s.index; run = s.run; cleared = s.cleared }

-- ==== The table of numbers

-- a call, a row of tests or one test answers with number n and node i exactly when P i
pub record Exactly (r : Refusal) (n : ℕ) (P : ℕ → Type 0) : Type 0 where
  pub when : (i : ℕ) → (r ≡ refuse n i) ↔ P i

-- "the lowest faulty node, else 0": a number that names no node
abbrev pub NoNode : Type 0 → ℕ → Type 0
NoNode P i = (i ≡ 0) × P

-- what holds exactly when a test, or a row of tests, refuses nothing
pub record Passed (r : Refusal) (P : Type 0) : Type 0 where
  pub when : (r.number ≡ 0) ↔ P

-- the numbers that a test, or a row of tests, can say besides 0
pub record Says (r : Refusal) (numbers : List ℕ) : Type 0 where
  pub within : is_in r.number (0 ∷ numbers) ≡ true

-- "the lowest faulty node" of n nodes: it is faulty, and those below it are fine
pub record LowestFaulty (n : ℕ) (Fine Faulty : ℕ → Type 0) (i : ℕ) : Type 0 where
  pub exists : i < n
  pub here : Faulty i
  pub below : (j : ℕ) → j < i → Fine j
