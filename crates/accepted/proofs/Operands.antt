-- The operands that an evaluator asks for (specs/Operands, `takes`): a Lut's are all children but the first, and each operand has
-- an answer, which a word holds.
use Rattle.std.specs.Prelude.{ℕ, ◌<◌, ◌≡◌, refl, List, true, length}
use Rattle.std.proofs.Math.Path.{sym}
use Rattle.std.proofs.Common.{arith, ltb-true, lt-ltb}
use Rattle.std.proofs.Math.ListN.{get_or}
use Rattle.meaning.specs.Rules.Limits.{widest_bus}
use Rattle.meaning.specs.declared.kinds.Kind.{Kind}
use Rattle.meaning.specs.declared.kinds.Kind.TheVariants.{Const, Program, DC, Var, Nor, Mux, And, Xor, Not, Lut, Bus, Reg, Arg, Cycle, Unknown}
use Rattle.meaning.specs.Rules.Kinds.{kind_of}
use Rattle.meaning.specs.Rules.Trees.{node_count, kind_at, children_at, tree_of}
use Rattle.meaning.specs.Rules.Evaluable.{Shape, bit, width_of, is_bit, is_logic, nth_shape, shape, fits}
use Rattle.meaning.specs.Rules.Answers.{Assignment, nth}
use Rattle.meaning.specs.Claims.Column.{Sound}
use Rattle.meaning.proofs.Laws.BoolLaws.{true_false}
use Rattle.meaning.proofs.Laws.TestLaws.{every_nth}
use Rattle.operators.specs.Widths.{Held, held}
use Rattle.accepted.specs.Nodes.{Logic, answers_at, shapes_at, nth_shape_lem, nth_answer, child_below, child_marked, logic_kind, fitting}
use Rattle.accepted.specs.Operands.{takes, Operand, Child, bit_logic, pair_logic, only_logic, mux_logic, lut_bit, shape_at, fine_child}

operand_logic : (κ : Kind) (ss : List Shape) (i : ℕ) → takes κ i ≡ true → fits κ ss ≡ true → i < length ss → is_logic (nth_shape ss i) ≡ true
operand_logic Const ss i t f l = absurd (true_false t refl)
operand_logic Program ss i t f l = absurd (true_false t refl)
operand_logic DC ss i t f l = absurd (true_false t refl)
operand_logic Var ss i t f l = absurd (true_false t refl)
operand_logic Nor ss i t f l = pair_logic ss i (ltb-true i 2 t) f
operand_logic Mux ss i t f l = mux_logic ss i (ltb-true i 3 t) f
operand_logic And ss i t f l = pair_logic ss i (ltb-true i 2 t) f
operand_logic Xor ss i t f l = pair_logic ss i (ltb-true i 2 t) f
operand_logic Not ss i t f l = only_logic ss i (ltb-true i 1 t) f
operand_logic Lut ss i t f l = bit_logic (nth_shape ss i) (lut_bit ss i (ltb-true 0 i t) l f)
operand_logic Bus ss i t f l = bit_logic (nth_shape ss i) (every_nth bit is_bit ss i f l)
operand_logic Reg ss i t f l = absurd (true_false t refl)
operand_logic Arg ss i t f l = absurd (true_false t refl)
operand_logic Cycle ss i t f l = only_logic ss i (ltb-true i 1 t) f
operand_logic Unknown ss i t f l = absurd (true_false t refl)

module _ (ns ps : List ℕ) (s : Sound ns ps) (n : ℕ) where
  -- of a Lut all children but the first
  pub lut_takes : (i : ℕ) → kind_of (kind_at ns n) ≡ Lut → 0 < i → i < length (children_at ns ps n) → Operand ns ps n i
  lut_takes i e h l = record { inside = l; used = rw e (lt-ltb 0 i h) }

  module _ (g : Logic ns ps n) where
    logic_at : (i : ℕ) → Operand ns ps n i → is_logic (nth_shape (shapes_at ns ps n) i) ≡ true
    logic_at i o =
        operand_logic (kind_of (kind_at ns n)) (shapes_at ns ps n) i o.used (fitting ns ps s n g.inside g.marked) (shape_at ns ps s n g i o.inside)

    child_logic : (i : ℕ) → Operand ns ps n i → is_logic (shape (tree_of ns ps (get_or (children_at ns ps n) i 0))) ≡ true
    unfolding shapes_at
    child_logic i o = rw (nth_shape_lem (tree_of ns ps) (children_at ns ps n) i o.inside) at (logic_at i o)

    -- what the reader of operand i has
    pub child_of : (i c : ℕ) → Operand ns ps n i → c ≡ get_or (children_at ns ps n) i 0 → Child ns ps n i c
    unfolding answers_at
    child_of i c o e =
        let below = child_below ns ps s n g.inside i o.inside in
        let inside : get_or (children_at ns ps n) i 0 < node_count ns = omega (arith, g.inside, below) in
        let logic = child_logic i o in
        rw e (record {
          is = refl;
          below = below;
          logic = record {
            inside = inside;
            marked = child_marked ns ps s n g.inside g.marked i o.inside;
            no_program = logic_kind ns ps s (get_or (children_at ns ps n) i 0) inside logic;
          };
          shaped = logic;
          read = λ α. sym (nth_answer (tree_of ns ps) α (children_at ns ps n) i o.inside);
        })

    -- Not: a word holds the operand
    pub held_operand : (α : Assignment) (i : ℕ) → Operand ns ps n i → Held widest_bus (nth (answers_at ns ps α n) i)
    held_operand α i o =
        let f = fine_child ns ps s n g α i (shape_at ns ps s n g i o.inside) (logic_at i o) in
        held (width_of (nth_shape (shapes_at ns ps n) i)) widest_bus (nth (answers_at ns ps α n) i) f.0 f.1
