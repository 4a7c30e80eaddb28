-- Shapes as the code keeps them: column SHAPE of a node's row holds the shape's code (Rules/Evaluable, `shape_code`).
use Rattle.std.specs.Prelude.{ℕ, zero, suc, ◌+◌, ◌-◌, ◌*◌, ◌≤◌, ◌<◌, ◌≡◌, refl, ◌≢◌, Bool, true, false, cond, not, ◌&&◌, ◌||◌, length, get_or, eqb}
use Rattle.std.proofs.Common.{sym, ◌∙◌, arith, ltb-true, lt-ltb}
use Rattle.std.proofs.Math.Path.{ap, ap₂}
use mathlib.Core.List.{List, [], ◌∷◌}
use Rattle.std.proofs.Math.Dec.{ltb}
use Rattle.std.proofs.lemmas.Grind.{get_or_default_zero}
use Rattle.meaning.proofs.Laws.BoolLaws.{and_left, and_right}
use Rattle.meaning.proofs.Laws.TreeLaws.{tree_at}
use Rattle.meaning.specs.Rules.Limits.{work_per_node}
use Rattle.meaning.specs.Rules.Numbers.{not_evaluable}
use Rattle.meaning.specs.Rules.Kinds.{kind_of, program_word}
use Rattle.meaning.specs.Rules.Trees.{Tree, forest, node_count, kind_at, children_at, tree_of}
use Rattle.meaning.specs.Rules.Refusals.{every}
use Rattle.meaning.specs.Rules.Reach.{mark_of}
use Rattle.meaning.specs.Rules.Evaluable.{Shape, bit, program, bus, width_of, is_bit, is_logic, shape_code, nth_shape, shape_step, shape, shapes, fits, is_root, shape_fault}
use Rattle.meaning.specs.Claims.Column.{WellLaid}
use Rattle.lists.specs.Laid.{children_below_lem}
use Rattle.columns.specs.Columns.{place, cell, shape_column, Column}

-- every child's row lies in the work space
abbrev pub Rows : List ℕ → ℕ → List ℕ → Type 0
Rows work base ks = (i : ℕ) → i < length ks → place shape_column (base + get_or ks i 0) < length work

-- column SHAPE of the nodes ks holds the shapes ss
abbrev pub Holds : List ℕ → ℕ → List ℕ → List Shape → Type 0
Holds work base [] [] = Unit
Holds work base [] (s ∷ ss) = ⊥
Holds work base (k ∷ ks) [] = ⊥
Holds work base (k ∷ ks) (s ∷ ss) = (cell work shape_column (base + k) ≡ shape_code s) × Holds work base ks ss

-- a bit, or anything but a Program; and the same of the shape's code
abbrev pub stands : Bool → Shape → Bool
stands bits_only s = cond bits_only (is_bit s) (is_logic s)

abbrev pub code_stands : Bool → ℕ → Bool
code_stands bits_only code = cond bits_only (eqb code 1) (ltb 0 code)

module _ (work : List ℕ) (base : ℕ) where
  -- a child, as a walk along the children meets it
  pub row_of : (ks : List ℕ) → Rows work base ks → (k i : ℕ) → i < length ks → k ≡ get_or ks i k → place shape_column (base + k) < length work
  row_of ks rows k i l e = omega (arith, rows i l, get_or_default_zero ks i k l)

  pub holds_length : (ks : List ℕ) (ss : List Shape) → Holds work base ks ss → length ss ≡ length ks
  holds_length [] [] h = refl
  holds_length [] (s ∷ ss) h = absurd h
  holds_length (k ∷ ks) [] h = absurd h
  holds_length (k ∷ ks) (s ∷ ss) h = ap suc (holds_length ks ss h.1)

  pub holds_nth : (ks : List ℕ) (ss : List Shape) → Holds work base ks ss → (i : ℕ) → i < length ks
      → cell work shape_column (base + get_or ks i 0) ≡ shape_code (nth_shape ss i)
  holds_nth [] ss h i l = absurd (omega arith)
  holds_nth (k ∷ ks) [] h i l = absurd h
  holds_nth (k ∷ ks) (s ∷ ss) h zero l = h.0
  holds_nth (k ∷ ks) (s ∷ ss) h (suc i) l = holds_nth ks ss h.1 i (omega arith)

  pub holds_none : (ks : List ℕ) (ss : List Shape) → Holds work base ks ss → (i : ℕ) → length ks ≤ i → 1 ≡ shape_code (nth_shape ss i)
  holds_none [] [] h i l = refl
  holds_none [] (s ∷ ss) h i l = absurd h
  holds_none (k ∷ ks) [] h i l = absurd h
  holds_none (k ∷ ks) (s ∷ ss) h zero l = absurd (omega arith)
  holds_none (k ∷ ks) (s ∷ ss) h (suc i) l = holds_none ks ss h.1 i (omega arith)

  pub holds_every : (bits_only : Bool) (ks : List ℕ) (ss : List Shape) → Holds work base ks ss
      → every (λ k. code_stands bits_only (cell work shape_column (base + k))) ks ≡ every (stands bits_only) ss
  holds_every bits_only [] [] h = refl
  holds_every bits_only [] (s ∷ ss) h = absurd h
  holds_every bits_only (k ∷ ks) [] h = absurd h
  holds_every true (k ∷ ks) (s ∷ ss) h = ap₂ (λ (c : ℕ) (b : Bool). eqb c 1 && b) h.0 (holds_every true ks ss h.1)
  holds_every false (k ∷ ks) (s ∷ ss) h = ap₂ (λ (c : ℕ) (b : Bool). ltb 0 c && b) h.0 (holds_every false ks ss h.1)

-- the width of a value, by its shape's code
pub bit_width : (s : Shape) → shape_code s ≡ 1 → 1 ≡ width_of s
bit_width bit e = refl
bit_width program e = absurd (omega arith)
bit_width (bus n) e = absurd (omega arith)

pub bus_width : (s : Shape) (code : ℕ) → shape_code s ≡ code → 0 < code → code ≢ 1 → code - 2 ≡ width_of s
bus_width bit code e some other = absurd (other (sym e))
bus_width program code e some other = absurd (omega arith)
bus_width (bus n) code e some other = omega arith

-- every code but a Program's is a shape's, so no second width meets the promise of `width_of`
pub coded : (code : ℕ) → 0 < code → (s : Shape) × (shape_code s ≡ code)
coded zero some = absurd (omega arith)
coded (suc zero) some = (bit, refl)
coded (suc (suc n)) some = (bus n, omega arith)

pub width_only : (code : ℕ) → 0 < code → {r r' : ℕ} → ((s : Shape) → shape_code s ≡ code → r ≡ width_of s)
    → ((s : Shape) → shape_code s ≡ code → r' ≡ width_of s) → r ≡ r'
width_only code some e f = let c = coded code some in e c.0 c.1 ∙ sym (f c.0 c.1)

-- the code of node i's shape
unfoldable pub shape_at : List ℕ → List ℕ → ℕ → ℕ
shape_at ns ps i = shape_code (shape (tree_of ns ps i))

-- the work space has the shapes of the list in their column
abbrev pub Shaped : List ℕ → List ℕ → ℕ → List ℕ → Type 0
Shaped ns ps base work = Column work shape_column base (node_count ns) (shape_at ns ps)

-- the shapes of node i's children
abbrev pub child_shapes : List ℕ → List ℕ → ℕ → List Shape
child_shapes ns ps i = shapes (forest (tree_of ns ps) (children_at ns ps i))

module _ (ns ps : List ℕ) where
  forest_holds : (work : List ℕ) (base n : ℕ) → Column work shape_column base n (shape_at ns ps) → (ks : List ℕ) → every (λ k. ltb k n) ks ≡ true
      → Holds work base ks (shapes (forest (tree_of ns ps) ks))
  unfolding shape_at
  forest_holds work base n column [] b = tt
  forest_holds work base n column (k ∷ ks) b = (
    column k (ltb-true k n (and_left (ltb k n) (every (λ k. ltb k n) ks) b)),
    forest_holds work base n column ks (and_right (ltb k n) (every (λ k. ltb k n) ks) b),
  )

  -- once the nodes below i are written, the column holds the shapes of i's children
  pub children_hold : (work : List ℕ) (base i : ℕ) → WellLaid ns ps i → Column work shape_column base i (shape_at ns ps)
      → Holds work base (children_at ns ps i) (child_shapes ns ps i)
  children_hold work base i well column = forest_holds work base i column (children_at ns ps i) (children_below_lem ns ps i well)

  -- and their rows are there
  pub child_rows : (work : List ℕ) (base i : ℕ) → WellLaid ns ps i → i < node_count ns → work_per_node * (base + node_count ns) ≤ length work
      → Rows work base (children_at ns ps i)
  child_rows work base i well inside room k l = omega (arith, well.2 k l)

  pub shape_step_lem : (i : ℕ) → WellLaid ns ps i → shape_at ns ps i ≡ shape_code (shape_step (kind_of (kind_at ns i)) (child_shapes ns ps i))
  unfolding shape_at
  shape_step_lem i well = ap (λ (t : Tree). shape_code (shape t)) (tree_at ns ps i (children_below_lem ns ps i well))

  -- ---- number 8 at a node, by its mark, its fit and its place
  pub unreached : (i : ℕ) → mark_of ns ps i ≡ 0 → shape_fault ns ps i ≡ 0
  unfolding shape_fault
  unreached i h = rw h

  pub reached : (i : ℕ) (fit root : Bool) → WellLaid ns ps i → 0 < mark_of ns ps i → fits (kind_of (kind_at ns i)) (child_shapes ns ps i) ≡ fit
      → (is_root ns i && eqb (kind_at ns i) program_word) ≡ root → shape_fault ns ps i ≡ cond (not fit || root) not_evaluable 0
  unfolding shape_fault
  reached i fit root well m f r = rw (lt-ltb 0 (mark_of ns ps i) m, tree_at ns ps i (children_below_lem ns ps i well), f, r)
