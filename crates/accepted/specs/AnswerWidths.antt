-- "0 and the value (its width is the node's shape)": the answer of a reachable node of a list past number 8 is a failure, or a
-- value as wide as the node's shape, at most 64 wide, that its width holds.
use Rattle.std.specs.Prelude.{ℕ, zero, suc, ◌+◌, ◌≤◌, ◌<◌, ◌≡◌, refl, List, true, get_or, drop}
use Rattle.std.proofs.Math.Path.{sym}
use Rattle.std.proofs.Common.{ap, subst, ◌∙◌, add-zero, arith, eqb-true, leb-true}
use Rattle.std.proofs.Math.ListN.{length}
use Rattle.meaning.specs.declared.Answer.{Answer}
use Rattle.meaning.specs.Rules.Limits.{widest_bus}
use Rattle.meaning.specs.declared.kinds.Kind.{Kind}
use Rattle.meaning.specs.declared.kinds.Kind.TheVariants.{Const, Program, DC, Var, Nor, Mux, And, Xor, Not, Lut, Bus, Reg, Arg, Cycle, Unknown}
use Rattle.meaning.specs.Rules.Kinds.{kind_of, may_have}
use Rattle.meaning.specs.Rules.Trees.{node_count, kind_at, datum_at, children_at, tree_of}
use Rattle.meaning.specs.Rules.Refusals.{every}
use Rattle.meaning.specs.Rules.Reach.{mark_of}
use Rattle.meaning.specs.Rules.Evaluable.{Shape, bit, program, bus, width_of, is_bit, is_logic, same_shape, alike, nth_shape, shape_step, shape, fits}
use Rattle.meaning.specs.Rules.Answers.{Assignment, answer, step, nth, blank, bus_of, operands, value_of}
use Rattle.meaning.specs.Claims.Column.{Sound}
use Rattle.meaning.proofs.Laws.KindLaws.{word_of, kind_word}
use Rattle.meaning.proofs.Laws.BoolLaws.{true_false, and_left, and_right}
use Rattle.meaning.proofs.Laws.TestLaws.{every_nth}
use Rattle.operators.specs.Widths.{Within, and_within, xor_within, not_within, nor_within, mux_within, row_within, driven_within, bus_within}
use Rattle.accepted.specs.Nodes.{answers_at, shapes_at, shapes_length, answers_length, nth_shape_lem, nth_answer, tree_is, answer_is, arity, constant_bit, child_below, child_marked, fitting}

-- what a node of shape s answers, unless it is a Program
abbrev pub Fine : Shape → Answer → Type 0
Fine s x = is_logic s ≡ true → (width_of s ≤ widest_bus) × Within (width_of s) x

-- ---- shapes
pub bit_code : (s : Shape) → is_bit s ≡ true → s ≡ bit
bit_code bit h = refl
bit_code program h = absurd (true_false h refl)
bit_code (bus n) h = absurd (omega (arith, eqb-true (n + 2) 1 h))

-- shapes with the same code are the same
pub same_shape_lem : (s t : Shape) → same_shape s t ≡ true → s ≡ t
same_shape_lem bit bit h = refl
same_shape_lem bit program h = absurd (true_false h refl)
same_shape_lem bit (bus n) h = absurd (omega (arith, eqb-true 1 (n + 2) h))
same_shape_lem program bit h = absurd (true_false h refl)
same_shape_lem program program h = refl
same_shape_lem program (bus n) h = absurd (omega (arith, eqb-true 0 (n + 2) h))
same_shape_lem (bus m) bit h = absurd (omega (arith, eqb-true (m + 2) 1 h))
same_shape_lem (bus m) program h = absurd (omega (arith, eqb-true (m + 2) 0 h))
same_shape_lem (bus m) (bus n) h = ap bus (omega (arith, eqb-true (m + 2) (n + 2) h))

-- two operands, or two arms, of one shape
pub record Pair (s t : Shape) : Type 0 where
  pub logic : is_logic s ≡ true
  pub one : s ≡ t

pub alike_pair : (s t : Shape) → alike s t ≡ true → Pair s t
alike_pair s t h = record {
  logic = and_left (is_logic s) (same_shape s t) h;
  one = same_shape_lem s t (and_right (is_logic s) (same_shape s t) h);
}

-- ---- one node, from its children's shapes and answers
module _ (α : Assignment) (d : ℕ) (ss : List Shape) (xs : List Answer) (size : length xs ≡ length ss)
    (at : (i : ℕ) → i < length ss → Fine (nth_shape ss i) (nth xs i)) where
  -- And, Nor and Xor
  pub record Operands : Type 0 where
    pub narrow : width_of (nth_shape ss 0) ≤ widest_bus
    pub left : Within (width_of (nth_shape ss 0)) (nth xs 0)
    pub right : Within (width_of (nth_shape ss 0)) (nth xs 1)

  pub both_fine : length ss ≡ 2 → alike (nth_shape ss 0) (nth_shape ss 1) ≡ true → Operands
  both_fine e f =
      let p = alike_pair (nth_shape ss 0) (nth_shape ss 1) f in
      let x = at 0 (omega arith) p.logic in
      let y = subst (λ (s : Shape). Fine s (nth xs 1)) (sym p.one) (at 1 (omega arith)) p.logic in
      record { narrow = x.0; left = x.1; right = y.1 }

  bits_fine : every is_bit ss ≡ true → (i : ℕ) → i < length ss → Within 1 (nth xs i)
  bits_fine h i l =
      (subst (λ (s : Shape). Fine s (nth xs i)) (bit_code (nth_shape ss i) (every_nth bit is_bit ss i h l)) (at i l) refl).1

  step_fine : (κ : Kind) → (κ ≡ Const → d < 2) → may_have κ (length ss) ≡ true → fits κ ss ≡ true → Fine (shape_step κ ss) (step α κ d xs)
  step_fine Const k a f l = (omega arith, (refl, k refl))
  step_fine Program k a f l = absurd (true_false l refl)
  step_fine DC k a f l = (omega arith, tt)
  step_fine Var k a f l = (omega arith, driven_within (α d))
  step_fine Nor k a f l =
      let p = both_fine (eqb-true (length ss) 2 a) f in
      (p.narrow, nor_within (width_of (nth_shape ss 0)) (nth xs 0) (nth xs 1) p.narrow p.left p.right)
  step_fine Mux k a f l =
      let three : length ss ≡ 3 = eqb-true (length ss) 3 a in
      let p = alike_pair (nth_shape ss 1) (nth_shape ss 2) (and_right (is_bit (nth_shape ss 0)) (alike (nth_shape ss 1) (nth_shape ss 2)) f) in
      let x = at 1 (omega arith) l in
      let y = subst (λ (s : Shape). Fine s (nth xs 2)) (sym p.one) (at 2 (omega arith)) l in
      (x.0, mux_within (width_of (nth_shape ss 1)) (nth xs 0) (nth xs 1) (nth xs 2) x.1 y.1)
  step_fine And k a f l =
      let p = both_fine (eqb-true (length ss) 2 a) f in
      (p.narrow, and_within (width_of (nth_shape ss 0)) (nth xs 0) (nth xs 1) p.left p.right)
  step_fine Xor k a f l =
      let p = both_fine (eqb-true (length ss) 2 a) f in
      (p.narrow, xor_within (width_of (nth_shape ss 0)) (nth xs 0) (nth xs 1) p.left p.right)
  step_fine Not k a f l =
      let one : length ss ≡ 1 = eqb-true (length ss) 1 a in
      let p = at 0 (omega arith) l in
      (p.0, not_within (width_of (nth_shape ss 0)) (nth xs 0) p.1)
  step_fine Lut k a f l = (omega arith, row_within (value_of (nth xs 0)) (operands blank (drop 1 xs)))
  step_fine Bus k a f l = (
    leb-true (length ss) widest_bus a,
    subst (λ (m : ℕ). Within m (bus_of blank xs)) (add-zero (length xs) ∙ size) (bus_within xs 0 blank (refl, omega arith) (λ i h. bits_fine f i (omega arith))),
  )
  step_fine Reg k a f l = (omega arith, tt)
  step_fine Arg k a f l = (omega arith, tt)
  step_fine Cycle k a f l = let one : length ss ≡ 1 = eqb-true (length ss) 1 a in at 0 (omega arith) l
  step_fine Unknown k a f l = absurd (true_false a refl)

-- ---- only kind 0 is Const
const_kind : (k : ℕ) → kind_of k ≡ Const → k ≡ 0
const_kind k e = let word : word_of (kind_of k) ≡ 0 = ap word_of e in kind_word k (omega (arith, word)) ∙ word

-- ---- every node, children first
module _ (ns ps : List ℕ) (s : Sound ns ps) (α : Assignment) where
  pub children_fine : (n : ℕ)
      → ((i : ℕ) → i < length (children_at ns ps n) → Fine (shape (tree_of ns ps (get_or (children_at ns ps n) i 0))) (answer α (tree_of ns ps (get_or (children_at ns ps n) i 0))))
      → (i : ℕ) → i < length (shapes_at ns ps n) → Fine (nth_shape (shapes_at ns ps n) i) (nth (answers_at ns ps α n) i)
  unfolding shapes_at answers_at
  children_fine n h i l =
      let k : i < length (children_at ns ps n) = rw (shapes_length (tree_of ns ps) (children_at ns ps n)) at l in
      rw (nth_shape_lem (tree_of ns ps) (children_at ns ps n) i k, nth_answer (tree_of ns ps) α (children_at ns ps n) i k) (h i k)

  pub sizes : (n : ℕ) → length (answers_at ns ps α n) ≡ length (shapes_at ns ps n)
  unfolding shapes_at answers_at
  sizes n = answers_length (tree_of ns ps) α (children_at ns ps n) ∙ sym (shapes_length (tree_of ns ps) (children_at ns ps n))

  shape_is : (n : ℕ) → n < node_count ns → shape (tree_of ns ps n) ≡ shape_step (kind_of (kind_at ns n)) (shapes_at ns ps n)
  unfolding shapes_at
  shape_is n h = rw (tree_is ns ps s n h)

  pub shapes_arity : (n : ℕ) → n < node_count ns → may_have (kind_of (kind_at ns n)) (length (shapes_at ns ps n)) ≡ true
  unfolding shapes_at
  shapes_arity n h = rw (shapes_length (tree_of ns ps) (children_at ns ps n)) (arity ns ps s n h)

  fine_below : (b n : ℕ) → n < b → n < node_count ns → 0 < mark_of ns ps n → Fine (shape (tree_of ns ps n)) (answer α (tree_of ns ps n))
  fine_below zero n h l m = absurd (omega arith)
  fine_below (suc b) n h l m =
      rw (shape_is n l, answer_is ns ps s n l α (kind_of (kind_at ns n)) refl)
      (step_fine α (datum_at ns n) (shapes_at ns ps n) (answers_at ns ps α n) (sizes n)
      (children_fine n (λ i k.
      fine_below b (get_or (children_at ns ps n) i 0) (omega (arith, child_below ns ps s n l i k)) (omega (arith, child_below ns ps s n l i k)) (child_marked ns ps s n l m i k)))
      (kind_of (kind_at ns n)) (λ e. constant_bit ns ps s n l (const_kind (kind_at ns n) e)) (shapes_arity n l) (fitting ns ps s n l m))

  -- the theorem
  pub fine_at : (n : ℕ) → n < node_count ns → 0 < mark_of ns ps n → Fine (shape (tree_of ns ps n)) (answer α (tree_of ns ps n))
  fine_at n l m = fine_below (suc n) n (omega arith) l m
