-- Verification looks at a node's children no further than their kind word and datum (Rules/Verification, `wrong`); so does
-- the code, and these laws say that it is enough.
use Rattle.std.specs.Prelude.{ℕ, suc, ◌-◌, ◌^◌, ◌<◌, ◌≡◌, refl, List, [], ◌∷◌, Bool, true, cond, not, ◌&&◌, ◌||◌, length, get_or, ltb, leb, eqb}
use Rattle.std.proofs.Common.{sym, ap, ap₂, subst, ◌∙◌, arith, ltb-true, lt-ltb, le-ltb, le-leb}
use Rattle.std.proofs.Math.Bool.{or-true}
use Rattle.std.proofs.Math.Decide.{dec_lt}
use Rattle.std.proofs.lemmas.Bool.{lt-leb}
use Rattle.std.proofs.lemmas.Grind.{get_or_default_zero}
use Rattle.meaning.proofs.Laws.BoolLaws.{and_left, and_right}
use Rattle.meaning.proofs.Laws.TreeLaws.{tree_at}
use Rattle.meaning.specs.Rules.Limits.{most_operands}
use Rattle.meaning.specs.Rules.Numbers.{not_verified}
use Rattle.meaning.specs.declared.kinds.Kind.{Kind}
use Rattle.meaning.specs.declared.kinds.Kind.TheVariants.{Const, Program, DC, Var, Nor, Mux, And, Xor, Not, Lut, Bus, Reg, Arg, Cycle, Unknown}
use Rattle.meaning.specs.Rules.Kinds.{kind_of, program_word, bus_word}
use Rattle.meaning.specs.Rules.Trees.{Tree, node, none, trees, forest, node_count, kind_at, datum_at, children_at, tree_of}
use Rattle.meaning.specs.Rules.Refusals.{every, some}
use Rattle.meaning.specs.Rules.Reach.{mark_of}
use Rattle.meaning.specs.Rules.Tables.{table_fits}
use Rattle.meaning.specs.Rules.Verification.{is_program, is_bus, lut_wrong, arg_wrong, wrong, wrong_tree, verify_fault}
use Rattle.lists.specs.Laid.{Laid, children_below_lem}

-- node k without its children, and a list of such
abbrev pub leaf_of : List ℕ → ℕ → Tree
leaf_of ns k = node (kind_at ns k) (datum_at ns k) none

abbrev pub leaves : List ℕ → List ℕ → List Tree
leaves ns ks = trees (forest (leaf_of ns) ks)

-- numbers of nodes
abbrev pub AreNodes : List ℕ → List ℕ → Type 0
AreNodes ns ks = (i : ℕ) → i < length ks → get_or ks i 0 < node_count ns

-- a child, as a walk along the children meets it
pub is_node : (ns ks : List ℕ) → AreNodes ns ks → (k i : ℕ) → i < length ks → k ≡ get_or ks i k → k < node_count ns
is_node ns ks nodes k i h e = omega (arith, nodes i h, get_or_default_zero ks i k h)

-- ---- tests of a list of children, by their words
pub some_leaves : (ns : List ℕ) (p : Tree → Bool) (ks : List ℕ) → some p (leaves ns ks) ≡ some (λ k. p (leaf_of ns k)) ks
some_leaves ns p [] = refl
some_leaves ns p (k ∷ ks) = ap (λ (b : Bool). p (leaf_of ns k) || b) (some_leaves ns p ks)

-- ---- a Lut's rule is the range test of the truth-table routines
leaves_length : (ns ks : List ℕ) → length (leaves ns ks) ≡ length ks
leaves_length ns [] = refl
leaves_length ns (k ∷ ks) = ap suc (leaves_length ns ks)

at_or_above : (x d : ℕ) → leb x d ≡ not (ltb d x)
at_or_above x d = elim (dec_lt d x) [ yes h ↦ rw (lt-leb x d h, lt-ltb d x h) | no h ↦ rw (le-leb x d (omega arith), le-ltb d x (omega arith)) ]

-- over k operands, and of a word d
out_of_range : (k d : ℕ) (other : Bool) → d < 2 ^ 64
    → (ltb most_operands k || other || ltb k most_operands && leb (2 ^ (2 ^ k)) d) ≡ (other || not (table_fits d k))
out_of_range k d other h = elim (dec_lt k most_operands) [
  | yes l ↦ rw (le-ltb most_operands k (omega arith), lt-ltb k most_operands l, le-leb k most_operands (omega arith)) (ap (λ (b : Bool). other || b) (at_or_above (2 ^ (2 ^ k)) d))
  | no l ↦ elim (dec_lt most_operands k) [
    | yes m ↦ rw (lt-ltb most_operands k m, lt-leb k most_operands m) (sym (or-true other))
    | no m ↦
        let six : k ≡ most_operands = omega arith in
        subst (λ (k : ℕ). (ltb most_operands k || other || ltb k most_operands && leb (2 ^ (2 ^ k)) d) ≡ (other || not (table_fits d k))) (sym six)
        (rw (lt-ltb d (2 ^ (2 ^ most_operands)) h) refl)
  ]
]

pub lut_words : (ns ks : List ℕ) → 0 < length ks → datum_at ns (get_or ks 0 0) < 2 ^ 64
    → lut_wrong (leaves ns ks) ≡ (not (eqb (kind_at ns (get_or ks 0 0)) program_word) || not (table_fits (datum_at ns (get_or ks 0 0)) (length ks - 1)))
lut_words ns [] h l = absurd (omega arith)
lut_words ns (k ∷ ks) h l =
    let size : length (leaves ns ks) ≡ length (k ∷ ks) - 1 = omega (arith, leaves_length ns ks) in
    out_of_range (length (leaves ns ks)) (datum_at ns k) (not (eqb (kind_at ns k) program_word)) l
    ∙ ap (λ (m : ℕ). not (eqb (kind_at ns k) program_word) || not (table_fits (datum_at ns k) m)) size

-- ---- the children of a node, and the same without their children
abbrev bare : Tree → Tree
bare (node k d cs) = node k d none

abbrev bare_all : List Tree → List Tree
bare_all [] = []
bare_all (t ∷ ts) = bare t ∷ bare_all ts

some_program : (ts : List Tree) → some is_program (bare_all ts) ≡ some is_program ts
some_program [] = refl
some_program (node k d cs ∷ ts) = ap (λ (b : Bool). eqb k program_word || b) (some_program ts)

some_bus : (ts : List Tree) → some (λ t. is_program t || is_bus t) (bare_all ts) ≡ some (λ t. is_program t || is_bus t) ts
some_bus [] = refl
some_bus (node k d cs ∷ ts) = ap (λ (b : Bool). (eqb k program_word || eqb k bus_word) || b) (some_bus ts)

bare_length : (ts : List Tree) → length (bare_all ts) ≡ length ts
bare_length [] = refl
bare_length (t ∷ ts) = ap suc (bare_length ts)

bare_lut : (ts : List Tree) → lut_wrong (bare_all ts) ≡ lut_wrong ts
bare_lut [] = refl
bare_lut (node k d cs ∷ ts) = rw (bare_length ts)

bare_arg : (depth : ℕ) (ts : List Tree) → arg_wrong depth (bare_all ts) ≡ arg_wrong depth ts
bare_arg depth [] = refl
bare_arg depth (node k d cs ∷ ts) = refl

bare_wrong : (kind : Kind) (depth : ℕ) (ts : List Tree) → wrong kind depth (bare_all ts) ≡ wrong kind depth ts
bare_wrong Const depth ts = refl
bare_wrong Program depth ts = refl
bare_wrong DC depth ts = refl
bare_wrong Var depth ts = refl
bare_wrong Nor depth ts = some_program ts
bare_wrong Mux depth ts = refl
bare_wrong And depth ts = some_program ts
bare_wrong Xor depth ts = some_program ts
bare_wrong Not depth ts = refl
bare_wrong Lut depth ts = bare_lut ts
bare_wrong Bus depth ts = some_bus ts
bare_wrong Reg depth ts = refl
bare_wrong Arg depth ts = bare_arg depth ts
bare_wrong Cycle depth ts = refl
bare_wrong Unknown depth ts = refl

module _ (ns ps : List ℕ) (laid : Laid ns ps) where
  leaves_bare : (i : ℕ) → i < node_count ns → (ks : List ℕ) → every (λ k. ltb k i) ks ≡ true
      → leaves ns ks ≡ bare_all (trees (forest (tree_of ns ps) ks))
  leaves_bare i h [] b = refl
  leaves_bare i h (k ∷ ks) b =
      let small : k < i = ltb-true k i (and_left (ltb k i) (every (λ k. ltb k i) ks) b) in
      ap₂ (λ (t : Tree) (ts : List Tree). t ∷ ts) (sym (ap bare (tree_at ns ps k (children_below_lem ns ps k (laid k (omega arith))))))
      (leaves_bare i h ks (and_right (ltb k i) (every (λ k. ltb k i) ks) b))

  wrong_words : (i depth : ℕ) → i < node_count ns
      → wrong_tree depth (tree_of ns ps i) ≡ wrong (kind_of (kind_at ns i)) depth (leaves ns (children_at ns ps i))
  wrong_words i depth h =
      ap (wrong_tree depth) (tree_at ns ps i (children_below_lem ns ps i (laid i h)))
      ∙ sym (bare_wrong (kind_of (kind_at ns i)) depth (trees (forest (tree_of ns ps) (children_at ns ps i))))
      ∙ ap (wrong (kind_of (kind_at ns i)) depth) (sym (leaves_bare i h (children_at ns ps i) (children_below_lem ns ps i (laid i h))))

  -- ---- number 6 at a node, by its mark
  pub fault_unreached : (i : ℕ) → mark_of ns ps i ≡ 0 → verify_fault ns ps i ≡ 0
  unfolding verify_fault
  fault_unreached i h = rw h

  pub fault_reached : (i : ℕ) (b : Bool) → i < node_count ns → 0 < mark_of ns ps i
      → wrong (kind_of (kind_at ns i)) (mark_of ns ps i - 1) (leaves ns (children_at ns ps i)) ≡ b → verify_fault ns ps i ≡ cond b not_verified 0
  unfolding verify_fault
  fault_reached i b h m e = rw (lt-ltb 0 (mark_of ns ps i) m, wrong_words i (mark_of ns ps i - 1) h, e)

  -- the children of a node are nodes
  pub are_nodes : (i : ℕ) → i < node_count ns → AreNodes ns (children_at ns ps i)
  are_nodes i h k l = omega (arith, (laid i h).2 k l)
