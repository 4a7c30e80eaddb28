-- What an evaluator asks at each kind of a list past number 8: which children it reads as operands, and how wide their answers
-- are. What rests on a Lut's first child being no operand is in proofs/Operands: which operands a Lut has, and that each
-- operand has an answer.
use Rattle.std.specs.Prelude.{ℕ, zero, suc, ◌^◌, ◌≤◌, ◌<◌, ◌≡◌, refl, ◌⊎◌, List, [], ◌∷◌, Bool, true, false, cond, not, ◌&&◌, ◌||◌, length, drop, ltb, leb, eqb}
use Rattle.std.proofs.Math.Path.{sym}
use Rattle.std.proofs.Common.{subst, ap, ◌∙◌, ⊎_elim, arith, eqb-true, ltb-false, lt-ltb, leb-true}
use Rattle.std.proofs.Math.ListN.{get_or}
use Rattle.meaning.specs.declared.Failure.{Failure}
use Rattle.meaning.specs.declared.Answer.{Answer}
use Rattle.meaning.specs.declared.Answer.TheVariants.{Value, Failed}
use Rattle.meaning.specs.Rules.Limits.{widest_bus, most_operands}
use Rattle.meaning.specs.declared.kinds.Kind.{Kind}
use Rattle.meaning.specs.declared.kinds.Kind.TheVariants.{Const, Program, DC, Var, Nor, Mux, And, Xor, Not, Lut, Bus, Reg, Arg, Cycle, Unknown}
use Rattle.meaning.specs.Rules.Kinds.{kind_of, may_have, program_word, variable_word, lut_word}
use Rattle.meaning.specs.Rules.Trees.{Tree, node, none, trees, forest, datum, node_count, kind_at, datum_at, children_at, tree_of}
use Rattle.meaning.specs.Rules.Refusals.{every}
use Rattle.meaning.specs.Rules.Verification.{is_program, lut_wrong}
use Rattle.meaning.specs.Rules.Evaluable.{Shape, bit, width_of, is_bit, is_logic, alike, nth_shape, shape, fits}
use Rattle.meaning.specs.Rules.Answers.{Assignment, answer, nth, value_of, mux_of}
use Rattle.meaning.specs.Claims.Column.{Sound}
use Rattle.meaning.proofs.Laws.BoolLaws.{true_false, and_left, and_right, not_is_false, or_left_false, or_right_false}
use Rattle.meaning.proofs.Laws.RootLaws.{forest_length}
use Rattle.meaning.proofs.Laws.TestLaws.{every_nth}
use Rattle.operators.specs.Widths.{Held, Alike, held}
use Rattle.accepted.specs.Nodes.{Logic, child_trees, answers_at, shapes_at, shapes_length, answers_length, nth_answer, tree_is, answer_is, arity, child_below, child_marked, not_wrong, fitting}
use Rattle.accepted.specs.AnswerWidths.{Fine, bit_code, alike_pair, both_fine, children_fine, sizes, shapes_arity, fine_at}

-- ---- does a node of this kind read child i as an operand? A register and an Arg read none, a Lut's first is its program
abbrev pub takes : Kind → ℕ → Bool
takes Const i = false
takes Program i = false
takes DC i = false
takes Var i = false
takes Nor i = ltb i 2
takes Mux i = ltb i 3
takes And i = ltb i 2
takes Xor i = ltb i 2
takes Not i = ltb i 1
takes Lut i = ltb 0 i
takes Bus i = true
takes Reg i = false
takes Arg i = false
takes Cycle i = ltb i 1
takes Unknown i = false

-- Nor, And and Xor: the kinds whose two operands are of one shape
abbrev pub TwoOperands : Kind → Type 0
TwoOperands κ = (κ ≡ Nor) ⊎ (κ ≡ And) ⊎ (κ ≡ Xor)

pub record Operand (ns ps : List ℕ) (n i : ℕ) : Type 0 where
  pub inside : i < length (children_at ns ps n)
  pub used : takes (kind_of (kind_at ns n)) i ≡ true

-- node c is child i of node n and an operand: it has an answer, which stands at i among the answers that n's is made of
pub record Child (ns ps : List ℕ) (n i c : ℕ) : Type 0 where
  pub is : c ≡ get_or (children_at ns ps n) i 0
  pub below : c < n
  pub logic : Logic ns ps c
  pub shaped : is_logic (shape (tree_of ns ps c)) ≡ true
  pub read : (α : Assignment) → answer α (tree_of ns ps c) ≡ nth (answers_at ns ps α n) i

-- ---- each operand is a bit or a bus
pub bit_logic : (s : Shape) → is_bit s ≡ true → is_logic s ≡ true
bit_logic s h = rw (bit_code s h)

both_logic : (s t : Shape) → alike s t ≡ true → (is_logic s ≡ true) × (is_logic t ≡ true)
both_logic s t h =
    let p = alike_pair s t h in
    (p.logic, subst (λ (u : Shape). is_logic u ≡ true) p.one p.logic)

pub pair_logic : (ss : List Shape) (i : ℕ) → i < 2 → alike (nth_shape ss 0) (nth_shape ss 1) ≡ true → is_logic (nth_shape ss i) ≡ true
pair_logic ss zero h f = (both_logic (nth_shape ss 0) (nth_shape ss 1) f).0
pair_logic ss (suc zero) h f = (both_logic (nth_shape ss 0) (nth_shape ss 1) f).1
pair_logic ss (suc (suc i)) h f = absurd (omega arith)

pub only_logic : (ss : List Shape) (i : ℕ) → i < 1 → is_logic (nth_shape ss 0) ≡ true → is_logic (nth_shape ss i) ≡ true
only_logic ss zero h f = f
only_logic ss (suc i) h f = absurd (omega arith)

pub mux_logic : (ss : List Shape) (i : ℕ) → i < 3 → fits Mux ss ≡ true → is_logic (nth_shape ss i) ≡ true
mux_logic ss zero h f = bit_logic (nth_shape ss 0) (and_left (is_bit (nth_shape ss 0)) (alike (nth_shape ss 1) (nth_shape ss 2)) f)
mux_logic ss (suc zero) h f =
    (both_logic (nth_shape ss 1) (nth_shape ss 2) (and_right (is_bit (nth_shape ss 0)) (alike (nth_shape ss 1) (nth_shape ss 2)) f)).0
mux_logic ss (suc (suc zero)) h f =
    (both_logic (nth_shape ss 1) (nth_shape ss 2) (and_right (is_bit (nth_shape ss 0)) (alike (nth_shape ss 1) (nth_shape ss 2)) f)).1
mux_logic ss (suc (suc (suc i))) h f = absurd (omega arith)

pub lut_bit : (ss : List Shape) (i : ℕ) → 0 < i → i < length ss → every is_bit (drop 1 ss) ≡ true → is_bit (nth_shape ss i) ≡ true
lut_bit [] i h l f = absurd (omega arith)
lut_bit (s ∷ ss) zero h l f = absurd (omega arith)
lut_bit (s ∷ ss) (suc i) h l f = every_nth bit is_bit ss i f (omega arith)

-- ---- what verification says of a Lut's children
record LutParts (ts : List Tree) : Type 0 where
  some : 0 < length ts
  few : length ts ≤ suc most_operands
  first : is_program (get_or ts 0 (node program_word 0 none)) ≡ true

lut_parts : (ts : List Tree) → lut_wrong ts ≡ false → LutParts ts
lut_parts [] h = absurd (true_false refl h)
lut_parts (p ∷ ops) h =
    let most = ltb most_operands (length ops) in
    let large : Bool = ltb (length ops) most_operands && leb (2 ^ (2 ^ length ops)) (datum p) in
    let front : (most || not (is_program p)) ≡ false = or_left_false (most || not (is_program p)) large h in
    record {
      some = omega arith;
      few = omega (arith, ltb-false most_operands (length ops) (or_left_false most (not (is_program p)) front));
      first = not_is_false (is_program p) (or_right_false most (not (is_program p)) front);
    }

first_tree : (f : ℕ → Tree) (cs : List ℕ) (t : Tree) → 0 < length (trees (forest f cs)) → get_or (trees (forest f cs)) 0 t ≡ f (get_or cs 0 0)
first_tree f [] t h = absurd (omega arith)
first_tree f (c ∷ cs) t h = refl

-- a Lut's children: a program, then at most six operands
pub record LutChildren (ns ps : List ℕ) (n : ℕ) : Type 0 where
  pub some : 0 < length (children_at ns ps n)
  pub few : length (children_at ns ps n) ≤ suc most_operands
  pub inside : get_or (children_at ns ps n) 0 0 < node_count ns
  pub first : kind_at ns (get_or (children_at ns ps n) 0 0) ≡ program_word

-- only kinds 4 to 16 have operands
takes_parent : (k i : ℕ) → takes (kind_of k) i ≡ true → variable_word < k
takes_parent zero i t = absurd (true_false t refl)
takes_parent (suc zero) i t = absurd (true_false t refl)
takes_parent (suc (suc zero)) i t = absurd (true_false t refl)
takes_parent (suc (suc (suc zero))) i t = absurd (true_false t refl)
takes_parent (suc (suc (suc (suc k)))) i t = omega arith

module _ (ns ps : List ℕ) (s : Sound ns ps) (n : ℕ) where
  -- ---- which operands there are: of a kind whose child count is m, those below m; of a Bus all; a Lut's are in proofs/Operands
  pub fixed : n < node_count ns → (κ : Kind) (m i : ℕ) → kind_of (kind_at ns n) ≡ κ → ((c : ℕ) → may_have κ c ≡ eqb c m) → takes κ i ≡ true → i < m
      → Operand ns ps n i
  fixed l κ m i e count t h =
      let a : may_have κ (length (children_at ns ps n)) ≡ true = rw e at (arity ns ps s n l) in
      let b : length (children_at ns ps n) ≡ m = eqb-true (length (children_at ns ps n)) m (sym (count (length (children_at ns ps n))) ∙ a) in
      record { inside = omega arith; used = rw e t }

  pub two_takes : n < node_count ns → TwoOperands (kind_of (kind_at ns n)) → (i : ℕ) → i < 2 → Operand ns ps n i
  two_takes l two i h =
      let below : ltb i 2 ≡ true = lt-ltb i 2 h in
      ⊎_elim (λ e. fixed l Nor 2 i e (λ c. refl) below h)
      (⊎_elim (λ e. fixed l And 2 i e (λ c. refl) below h) (λ e. fixed l Xor 2 i e (λ c. refl) below h)) two

  pub bus_takes : (i : ℕ) → kind_of (kind_at ns n) ≡ Bus → i < length (children_at ns ps n) → Operand ns ps n i
  bus_takes i e l = record { inside = l; used = rw e }

  pub bus_size : n < node_count ns → kind_of (kind_at ns n) ≡ Bus → length (children_at ns ps n) ≤ widest_bus
  bus_size l e = leb-true (length (children_at ns ps n)) widest_bus (rw e at (arity ns ps s n l))

  -- there is an answer for each child
  pub answers_size : (α : Assignment) → length (answers_at ns ps α n) ≡ length (children_at ns ps n)
  unfolding answers_at
  answers_size α = answers_length (tree_of ns ps) α (children_at ns ps n)

  module _ (g : Logic ns ps n) where
    pub shape_at : (i : ℕ) → i < length (children_at ns ps n) → i < length (shapes_at ns ps n)
    unfolding shapes_at
    shape_at i h = rw (shapes_length (tree_of ns ps) (children_at ns ps n)) h

    -- ---- how wide the operands' answers are
    module _ (α : Assignment) where
      pub fine_child : (i : ℕ) → i < length (shapes_at ns ps n) → Fine (nth_shape (shapes_at ns ps n) i) (nth (answers_at ns ps α n) i)
      fine_child =
          children_fine ns ps s α n (λ i k.
          fine_at ns ps s α (get_or (children_at ns ps n) i 0) (omega (arith, g.inside, child_below ns ps s n g.inside i k)) (child_marked ns ps s n g.inside g.marked i k))

      bit_operand : (i : ℕ) → i < length (shapes_at ns ps n) → is_bit (nth_shape (shapes_at ns ps n) i) ≡ true → Held 1 (nth (answers_at ns ps α n) i)
      bit_operand i l b =
          let e : nth_shape (shapes_at ns ps n) i ≡ bit = bit_code (nth_shape (shapes_at ns ps n) i) b in
          let f : Fine bit (nth (answers_at ns ps α n) i) = subst (λ (s : Shape). Fine s (nth (answers_at ns ps α n) i)) e (fine_child i l) in
          held 1 1 (nth (answers_at ns ps α n) i) (omega arith) (f refl).1

      -- Lut: the operands are bits
      pub lut_operand : (i : ℕ) → kind_of (kind_at ns n) ≡ Lut → 0 < i → i < length (children_at ns ps n) → Held 1 (nth (answers_at ns ps α n) i)
      lut_operand i e h l =
          bit_operand i (shape_at i l) (lut_bit (shapes_at ns ps n) i h (shape_at i l) (rw e at (fitting ns ps s n g.inside g.marked)))

      -- Bus: the members are bits
      pub bus_member : (i : ℕ) → kind_of (kind_at ns n) ≡ Bus → i < length (children_at ns ps n) → Held 1 (nth (answers_at ns ps α n) i)
      bus_member i e l =
          bit_operand i (shape_at i l) (every_nth bit is_bit (shapes_at ns ps n) i (rw e at (fitting ns ps s n g.inside g.marked)) (shape_at i l))

      -- Nor: both operands are of one width
      pub nor_operands : kind_of (kind_at ns n) ≡ Nor → Alike (nth (answers_at ns ps α n) 0) (nth (answers_at ns ps α n) 1)
      nor_operands e =
          let a : may_have Nor (length (shapes_at ns ps n)) ≡ true = rw e at (shapes_arity ns ps s α n g.inside) in
          let f : fits Nor (shapes_at ns ps n) ≡ true = rw e at (fitting ns ps s n g.inside g.marked) in
          let p = both_fine α 0 (shapes_at ns ps n) (answers_at ns ps α n) (sizes ns ps s α n) fine_child (eqb-true (length (shapes_at ns ps n)) 2 a) f in
          record { width = width_of (nth_shape (shapes_at ns ps n) 0); narrow = p.narrow; left = p.left; right = p.right }

    -- ---- Lut: one to seven children, the first a Program, and the program that its rows are read from
    pub lut_children : kind_at ns n ≡ lut_word → LutChildren ns ps n
    lut_children e =
        let ts = trees (child_trees ns ps n) in
        let p = lut_parts ts (rw e at (not_wrong ns ps s n g.inside g.marked)) in
        let size : length ts ≡ length (children_at ns ps n) = forest_length (tree_of ns ps) (children_at ns ps n) in
        let c = get_or (children_at ns ps n) 0 0 in
        let there : 0 < length (children_at ns ps n) = omega (arith, size, p.some) in
        let inside : c < node_count ns = omega (arith, g.inside, child_below ns ps s n g.inside 0 there) in
        let q : is_program (tree_of ns ps c) ≡ true =
        rw (first_tree (tree_of ns ps) (children_at ns ps n) (node program_word 0 none) p.some) at p.first in
        record {
          some = there;
          few = omega (arith, size, p.few);
          inside = inside;
          first = eqb-true (kind_at ns c) program_word (rw (tree_is ns ps s c inside) at q);
        }

    pub lut_program : (α : Assignment) → kind_at ns n ≡ lut_word → value_of (nth (answers_at ns ps α n) 0) ≡ datum_at ns (get_or (children_at ns ps n) 0 0)
    unfolding answers_at
    lut_program α e =
        let p = lut_children e in
        let c = get_or (children_at ns ps n) 0 0 in
        rw (nth_answer (tree_of ns ps) α (children_at ns ps n) 0 p.some, answer_is ns ps s c p.inside α Program (ap kind_of p.first))

-- ---- Mux: a failing selector leaves; else one arm answers, child 2 where the selector is 0, else child 1
pub mux_failed : (s a b : Answer) (f : Failure) → s ≡ Failed f → s ≡ mux_of s a b
mux_failed s a b f e = rw e

pub mux_arm : (xs : List Answer) (s : Answer) (w v : ℕ) → s ≡ Value w v → nth xs (cond (eqb v 0) 2 1) ≡ mux_of s (nth xs 1) (nth xs 2)
mux_arm xs s w v e = rw e (go (eqb v 0))
  where
    go : (b : Bool) → nth xs (cond b 2 1) ≡ cond b (nth xs 2) (nth xs 1)
    go true = refl
    go false = refl

pub arm_lt : (v a : ℕ) → a ≡ cond (eqb v 0) 2 1 → a < 3
arm_lt v a e = rw e (go (eqb v 0))
  where
    go : (b : Bool) → cond b 2 1 < 3
    go true = omega arith
    go false = omega arith
