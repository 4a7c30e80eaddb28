-- What a list past number 8 (Claims/Column, `Sound`) gives each of its nodes: it is the node over its children's trees, has as
-- many of them as its kind may have, each is reachable with it, and it fits them.
use Rattle.std.specs.Prelude.{ℕ, zero, suc, ◌-◌, ◌<◌, ◌≡◌, refl, ◌≢◌, ◌⊎◌, List, [], ◌∷◌, not, ◌&&◌, ◌||◌, length, get_or, drop}
use Rattle.std.proofs.Common.{ap, ⊎_elim, arith, ltb-true, lt-ltb, le-ltb}
use Rattle.std.proofs.Math.Bool.{true, false}
use Rattle.std.proofs.Math.Decide.{dec_lt}
use Rattle.std.proofs.Math.ListN.{length-take, length-drop}
use Rattle.meaning.specs.declared.Answer.{Answer}
use Rattle.meaning.specs.declared.kinds.Kind.{Kind}
use Rattle.meaning.specs.declared.kinds.Kind.TheVariants.{Const, DC, Var}
use Rattle.meaning.specs.Rules.Kinds.{kind_of, may_have, const_word, program_word, variable_word}
use Rattle.meaning.specs.Rules.Trees.{Tree, Forest, node, trees, forest, node_count, kind_at, first_at, count_at, datum_at, children_at, tree_of}
use Rattle.meaning.specs.Rules.Layout.{first_fits}
use Rattle.meaning.specs.Rules.Reach.{mark_of}
use Rattle.meaning.specs.Rules.Verification.{wrong, is_program}
use Rattle.meaning.specs.Rules.Evaluable.{Shape, is_logic, shape, shapes, nth_shape, fits, fits_tree, is_root}
use Rattle.meaning.specs.Rules.Answers.{Assignment, answer, answers, step, nth}
use Rattle.meaning.specs.Claims.Column.{WellLaid, Sound}
use Rattle.meaning.proofs.Laws.KindLaws.{word_of, kind_word}
use Rattle.meaning.proofs.Laws.BoolLaws.{true_false, and_left, and_right, not_is_false, or_left_false}
use Rattle.meaning.proofs.Laws.TreeLaws.{tree_at}
use Rattle.meaning.proofs.Laws.ReachLaws.{reach_child}
use Rattle.lists.specs.Scan.{some_at}
use Rattle.lists.specs.Laid.{part_fits, children_below_lem}

-- ---- a node that has an answer: reachable, and no Program
pub record Logic (ns ps : List ℕ) (n : ℕ) : Type 0 where
  pub inside : n < node_count ns
  pub marked : 0 < mark_of ns ps n
  pub no_program : kind_at ns n ≢ program_word

-- a kind before the registers has one word
pub only_word : (k : ℕ) (κ : Kind) → kind_of k ≡ κ → word_of κ < 11 → k ≡ word_of κ
only_word k κ e h = rw e at (kind_word k (rw e h))

-- ---- a leaf that has an answer
abbrev pub IsLeaf : Kind → Type 0
IsLeaf κ = (κ ≡ Const) ⊎ (κ ≡ DC) ⊎ (κ ≡ Var)

pub leaf_datum : (ns : List ℕ) (n : ℕ) → IsLeaf (kind_of (kind_at ns n)) → datum_at ns n ≡ first_at ns n
unfolding datum_at
leaf_datum ns n leaf =
    ⊎_elim (λ e. rw (only_word (kind_at ns n) Const e (omega arith)))
    (⊎_elim (λ e. rw (only_word (kind_at ns n) DC e (omega arith))) (λ e. rw (only_word (kind_at ns n) Var e (omega arith)))) leaf

-- ---- the children of node n: their trees, shapes and answers
abbrev pub child_trees : List ℕ → List ℕ → ℕ → Forest
child_trees ns ps n = forest (tree_of ns ps) (children_at ns ps n)

unfoldable pub answers_at : List ℕ → List ℕ → Assignment → ℕ → List Answer
answers_at ns ps α n = answers α (child_trees ns ps n)

unfoldable pub shapes_at : List ℕ → List ℕ → ℕ → List Shape
shapes_at ns ps n = shapes (child_trees ns ps n)

module _ (f : ℕ → Tree) where
  pub shapes_length : (cs : List ℕ) → length (shapes (forest f cs)) ≡ length cs
  shapes_length [] = refl
  shapes_length (c ∷ cs) = ap suc (shapes_length cs)

  pub answers_length : (α : Assignment) (cs : List ℕ) → length (answers α (forest f cs)) ≡ length cs
  answers_length α [] = refl
  answers_length α (c ∷ cs) = ap suc (answers_length α cs)

  pub nth_shape_lem : (cs : List ℕ) (i : ℕ) → i < length cs → nth_shape (shapes (forest f cs)) i ≡ shape (f (get_or cs i 0))
  nth_shape_lem [] i h = absurd (omega arith)
  nth_shape_lem (c ∷ cs) zero h = refl
  nth_shape_lem (c ∷ cs) (suc i) h = nth_shape_lem cs i (omega arith)

  pub nth_answer : (α : Assignment) (cs : List ℕ) (i : ℕ) → i < length cs → nth (answers α (forest f cs)) i ≡ answer α (f (get_or cs i 0))
  nth_answer α [] i h = absurd (omega arith)
  nth_answer α (c ∷ cs) zero h = refl
  nth_answer α (c ∷ cs) (suc i) h = nth_answer α cs i (omega arith)

-- each entry of a list is in it
-- kinds 0 to 3 have no children
leaf_arity : (k : ℕ) → k < 4 → may_have (kind_of k) 0 ≡ true
leaf_arity zero h = refl
leaf_arity (suc zero) h = refl
leaf_arity (suc (suc zero)) h = refl
leaf_arity (suc (suc (suc zero))) h = refl
leaf_arity (suc (suc (suc (suc k)))) h = absurd (omega arith)

module _ (ns ps : List ℕ) (s : Sound ns ps) (n : ℕ) (inside : n < node_count ns) where
  well : WellLaid ns ps n
  well = s.0 n inside

  -- ---- layout
  pub children_length : variable_word < kind_at ns n → length (children_at ns ps n) ≡ count_at ns n
  unfolding children_at
  children_length h =
      rw (lt-ltb variable_word (kind_at ns n) h, length-take (count_at ns n) (drop (first_at ns n) ps), length-drop (first_at ns n) ps)
      (omega (arith, part_fits ns ps n well h))

  leaf_length : kind_at ns n < 4 → length (children_at ns ps n) ≡ 0
  unfolding children_at
  leaf_length h = rw (le-ltb variable_word (kind_at ns n) (omega arith))

  -- "The number of children is decided by the kind"
  pub arity : may_have (kind_of (kind_at ns n)) (length (children_at ns ps n)) ≡ true
  arity = elim (dec_lt variable_word (kind_at ns n)) [
    | yes h ↦
        rw (children_length h)
        (and_left (may_have (kind_of (kind_at ns n)) (count_at ns n)) (first_fits (kind_at ns n) (first_at ns n) (count_at ns n) (length ps)) well.1)
    | no h ↦ let l : kind_at ns n < 4 = omega arith in rw (leaf_length l) (leaf_arity (kind_at ns n) l)
  ]

  -- "Const: first is 0 or 1"
  pub constant_bit : kind_at ns n ≡ const_word → datum_at ns n < 2
  unfolding datum_at
  constant_bit e =
      let fits : first_fits (kind_at ns n) (first_at ns n) (count_at ns n) (length ps) ≡ true =
      and_right (may_have (kind_of (kind_at ns n)) (count_at ns n)) (first_fits (kind_at ns n) (first_at ns n) (count_at ns n) (length ps)) well.1 in
      rw e (ltb-true (first_at ns n) 2 (rw e at fits))

  pub child_below : (i : ℕ) → i < length (children_at ns ps n) → get_or (children_at ns ps n) i 0 < n
  child_below = well.2

  -- ---- the tree, and the answer from the children's
  pub tree_is : tree_of ns ps n ≡ node (kind_at ns n) (datum_at ns n) (child_trees ns ps n)
  tree_is = tree_at ns ps n (children_below_lem ns ps n well)

  pub answer_is : (α : Assignment) (κ : Kind) → kind_of (kind_at ns n) ≡ κ
      → answer α (tree_of ns ps n) ≡ step α κ (datum_at ns n) (answers_at ns ps α n)
  unfolding answers_at
  answer_is α κ e = rw (tree_is, e)

  -- a Program has the shape of one, so a node of another shape is none
  pub logic_kind : is_logic (shape (tree_of ns ps n)) ≡ true → kind_at ns n ≢ program_word
  logic_kind h e = true_false (rw (tree_is, e) at h) refl

  -- ---- verification and fit, of a reachable node
  module _ (marked : 0 < mark_of ns ps n) where
    pub child_marked : (i : ℕ) → i < length (children_at ns ps n) → 0 < mark_of ns ps (get_or (children_at ns ps n) i 0)
    child_marked i h = reach_child ns ps n (get_or (children_at ns ps n) i 0) inside (child_below i h) marked (some_at (children_at ns ps n) i h)

    pub not_wrong : wrong (kind_of (kind_at ns n)) (mark_of ns ps n - 1) (trees (child_trees ns ps n)) ≡ false
    not_wrong = rw tree_is at (s.1.0 n inside (lt-ltb 0 (mark_of ns ps n) marked))

    pub fitting : fits (kind_of (kind_at ns n)) (shapes_at ns ps n) ≡ true
    unfolding shapes_at
    fitting =
        let t = tree_of ns ps n in
        let fine : (not (fits_tree t) || is_root ns n && is_program t) ≡ false = s.1.1.1 n inside (lt-ltb 0 (mark_of ns ps n) marked) in
        let fit : fits_tree t ≡ true = not_is_false (fits_tree t) (or_left_false (not (fits_tree t)) (is_root ns n && is_program t) fine) in
        rw tree_is at fit
