-- The rows of the work space that the pass reads and writes: a list's marks and shapes, and the pairs of the nodes that it has
-- passed.
use Rattle.std.specs.Prelude.{ℕ, ◌+◌, ◌*◌, ◌≤◌, ◌<◌, ◌≡◌, refl, List, true, cond, length, eqb}
use Rattle.std.proofs.Common.{sym, ap, ◌∙◌, inr, arith, lt-ltb, le-ltb, ltb-true}
use Rattle.meaning.specs.declared.Failure.{Failure}
use Rattle.meaning.specs.declared.Failure.TheVariants.{Undriven, DontCare, Register, Argument}
use Rattle.meaning.specs.declared.Answer.{Answer}
use Rattle.meaning.specs.declared.Answer.TheVariants.{Value, Failed}
use Rattle.meaning.specs.Rules.Limits.{work_per_node, widest_bus}
use Rattle.meaning.specs.Rules.Trees.{node_count, tree_of}
use Rattle.meaning.specs.Rules.Reach.{mark_of}
use Rattle.meaning.specs.Rules.Evaluable.{Shape, bit, program, bus, shape_code, width_of, is_logic, shape}
use Rattle.meaning.specs.Rules.Answers.{Assignment, answer, state_of, value_of}
use Rattle.meaning.specs.Rules.Pairs.{no_answer, state_at, value_at}
use Rattle.meaning.specs.Claims.Column.{Sound}
use Rattle.meaning.proofs.Claims.Pairs.{pair_answered, pair_none}
use Rattle.columns.specs.Columns.{cell, mark_column, shape_column, state_column, value_column, Column}
use Rattle.shapes.specs.Shapes.{shape_at, coded}
use Rattle.operators.specs.Widths.{Within}
use Rattle.accepted.specs.Nodes.{Logic}
use Rattle.accepted.specs.AnswerWidths.{fine_at}

-- a list past number 8 whose first row is `base`, with its marks and shapes in their columns
pub record Prepared (ns ps : List ℕ) (base : ℕ) (work : List ℕ) : Type 0 where
  pub sound : Sound ns ps
  pub room : work_per_node * (base + node_count ns) ≤ length work
  pub marks : Column work mark_column base (node_count ns) (mark_of ns ps)
  pub shapes : Column work shape_column base (node_count ns) (shape_at ns ps)

-- it stays so whatever is written, as long as its marks and shapes stay
pub stays_prepared : (ns ps : List ℕ) (base : ℕ) (work left : List ℕ) → Prepared ns ps base work → length left ≡ length work
    → ((i : ℕ) → i < node_count ns → cell left mark_column (base + i) ≡ cell work mark_column (base + i))
    → ((i : ℕ) → i < node_count ns → cell left shape_column (base + i) ≡ cell work shape_column (base + i)) → Prepared ns ps base left
stays_prepared ns ps base work left p size marks shapes = record {
  sound = p.sound;
  room = rw size p.room;
  marks = λ i h. marks i h ∙ p.marks i h;
  shapes = λ i h. shapes i h ∙ p.shapes i h;
}

-- and with the pairs of the first m nodes in theirs
pub record Filled (ns ps : List ℕ) (α : Assignment) (base : ℕ) (work : List ℕ) (m : ℕ) : Type 0 where
  pub ready : Prepared ns ps base work
  pub states : Column work state_column base m (state_at ns ps α)
  pub values : Column work value_column base m (value_at ns ps α)

-- ---- an answer from its row
abbrev pub failure_numbered : ℕ → Failure
failure_numbered state = cond (eqb state 1) Undriven (cond (eqb state 2) DontCare (cond (eqb state 3) Register Argument))

abbrev pub from_row : ℕ → ℕ → ℕ → Answer
from_row width state value = cond (eqb state 0) (Value width value) (Failed (failure_numbered state))

-- the row holds the code of a bit or of a bus
abbrev pub Wide : List ℕ → ℕ → Type 0
Wide work row = (0 < cell work shape_column row) × (cell work shape_column row ≤ widest_bus + 2)

-- a row tells the answer that its state and value were taken from
from_row_lem : (w : ℕ) (a : Answer) → Within w a → from_row w (state_of a) (value_of a) ≡ a
from_row_lem w (Value u v) (e, h) = ap (λ (x : ℕ). Value x v) (sym e)
from_row_lem w (Failed Undriven) h = refl
from_row_lem w (Failed DontCare) h = refl
from_row_lem w (Failed Register) h = refl
from_row_lem w (Failed Argument) h = refl

-- ---- the pair of a node that has an answer, and of one whose mark is 0
module _ (ns ps : List ℕ) (α : Assignment) (k : ℕ) where
  pub pair_logic : Logic ns ps k
      → (state_at ns ps α k ≡ state_of (answer α (tree_of ns ps k))) × (value_at ns ps α k ≡ value_of (answer α (tree_of ns ps k)))
  pair_logic g = pair_answered ns ps α k (lt-ltb 0 (mark_of ns ps k) g.marked) g.no_program

  pub pair_unreached : mark_of ns ps k ≡ 0 → (state_at ns ps α k ≡ no_answer) × (value_at ns ps α k ≡ 0)
  pair_unreached e = pair_none ns ps α k (inr (le-ltb 0 (mark_of ns ps k) (omega arith)))

-- ---- what a node's row shows to the nodes above it
logic_wide : (s : Shape) → is_logic s ≡ true → width_of s ≤ widest_bus → (0 < shape_code s) × (shape_code s ≤ widest_bus + 2)
logic_wide s l h = (ltb-true 0 (shape_code s) l, small s h)
  where
    small : (t : Shape) → width_of t ≤ widest_bus → shape_code t ≤ widest_bus + 2
    small bit g = omega arith
    small program g = omega arith
    small (bus n) g = omega arith

module _ (ns ps : List ℕ) (α : Assignment) (base : ℕ) (work : List ℕ) (m : ℕ) (f : Filled ns ps α base work m)
    (c : ℕ) (below : c < m) (g : Logic ns ps c) (h : is_logic (shape (tree_of ns ps c)) ≡ true) where
  pub row_shape : cell work shape_column (base + c) ≡ shape_code (shape (tree_of ns ps c))
  unfolding shape_at
  row_shape = f.ready.shapes c g.inside

  pub row_wide : Wide work (base + c)
  row_wide =
      let narrow : width_of (shape (tree_of ns ps c)) ≤ widest_bus = (fine_at ns ps f.ready.sound α c g.inside g.marked h).0 in
      rw row_shape (logic_wide (shape (tree_of ns ps c)) h narrow)

  pub row_answer : from_row (width_of (shape (tree_of ns ps c))) (cell work state_column (base + c)) (cell work value_column (base + c))
      ≡ answer α (tree_of ns ps c)
  row_answer =
      let a = answer α (tree_of ns ps c) in
      let pair = pair_logic ns ps α c g in
      let state : cell work state_column (base + c) ≡ state_of a = f.states c below ∙ pair.0 in
      let value : cell work value_column (base + c) ≡ value_of a = f.values c below ∙ pair.1 in
      rw (state, value) (from_row_lem (width_of (shape (tree_of ns ps c))) a (fine_at ns ps f.ready.sound α c g.inside g.marked h).1)

-- no second answer meets the promise of `answer_at`
pub answer_only : (work : List ℕ) (row : ℕ) → Wide work row → {r r' : Answer}
    → ((s : Shape) → cell work shape_column row ≡ shape_code s → r ≡ from_row (width_of s) (cell work state_column row) (cell work value_column row))
    → ((s : Shape) → cell work shape_column row ≡ shape_code s → r' ≡ from_row (width_of s) (cell work state_column row) (cell work value_column row)) → r ≡ r'
answer_only work row wide e f =
    let c = coded (cell work shape_column row) wide.0 in
    e c.0 (sym c.1) ∙ sym (f c.0 (sym c.1))
