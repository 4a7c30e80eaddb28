-- 000's walk path by path and the marks agree (document 01, "Verification": "Yes or no equals the Rust's"): a node that
-- passes its test under the least number of Cycle nodes over it passes under more, and some path has the least number.
use Rattle.std.specs.Prelude.{ℕ, zero, suc, ◌+◌, ◌-◌, ◌≤◌, ◌<◌, ◌≡◌, ◌↔◌, [], List, ◌∷◌, cond, ◌&&◌, ltb, leb}
use Rattle.std.proofs.Math.Path.{refl, subst}
use Rattle.std.proofs.Common.{sym, ap, ◌∙◌, arith}
use Rattle.std.proofs.Math.Bool.{Bool, true, false, not, or-true}
use Rattle.std.proofs.Math.Decide.{dec_lt}
use Rattle.std.proofs.Math.Dec.{eqb}
use borrow.Author.Tests.{eqb-true, eq-eqb, ne_eqb, ltb-true, lt-ltb, leb-false, lt-leb}
use Rattle.meaning.specs.declared.Refusal.{Refusal}
use Rattle.meaning.specs.Rules.Kinds.{Kind, Const, Program, DC, Var, Nor, Mux, And, Xor, Not, Lut, Bus, Reg, Arg, Cycle, Unknown, kind_of, cycle_word}
use Rattle.meaning.specs.Rules.Trees.{Tree, node, kind_word, datum, children, trees, forest, node_count, kind_at, children_at, tree_of, root_of}
use Rattle.meaning.specs.Rules.Refusals.{◌then◌, some}
use Rattle.meaning.specs.Rules.Layout.{sizes, work_for, room, children_below, layout}
use Rattle.meaning.specs.Rules.Reach.{mark_of, PathTo, at_root, down, cycles, is_child}
use Rattle.meaning.specs.Rules.Verification.{is_program, wrong, wrong_tree, verification}
use Rattle.meaning.specs.Rules.PathByPath.{depth_under, verify_rec, verify_rec_all, verify_expr}
use Rattle.meaning.specs.Rules.Calls.{verify_refusal}
use Rattle.meaning.specs.Claims.Column.{WellLaid, Verifies, All}
use Rattle.meaning.proofs.Laws.BoolLaws.{true_false, and_left, and_right, and_both, not_is_true, or_left_false, or_right_false}
use Rattle.meaning.proofs.Laws.TestLaws.{is_lt, every_is, neither_of}
use Rattle.meaning.proofs.Laws.TreeLaws.{tree_at}
use Rattle.meaning.proofs.Laws.NumberLaws.{then_go, other_number}
use Rattle.meaning.proofs.Laws.ColumnLaws.{room_passed, layout_passed, verification_says, verification_passed}
use Rattle.meaning.proofs.Laws.PathLaws.{mark_path, mark_least, path_small}
use Rattle.meaning.proofs.Laws.RootLaws.{every_in}

-- ---- more Cycle nodes over a node never make it wrong: only an Arg looks at their number
arg_deeper : (d e : ℕ) (cs : List Tree) → e ≤ d → wrong Arg e cs ≡ false → wrong Arg d cs ≡ false
arg_deeper d e [] l h = h
arg_deeper d e (p ∷ ts) l h =
    let program : not (is_program p) ≡ false = or_left_false (not (is_program p)) (leb e (datum p)) h in
    let index : datum p < e = leb-false e (datum p) (or_right_false (not (is_program p)) (leb e (datum p)) h) in
    neither_of (not (is_program p)) (leb d (datum p)) program (lt-leb d (datum p) (omega arith))

wrong_deeper : (k : Kind) (d e : ℕ) (cs : List Tree) → e ≤ d → wrong k e cs ≡ false → wrong k d cs ≡ false
wrong_deeper Const d e cs l h = h
wrong_deeper Program d e cs l h = h
wrong_deeper DC d e cs l h = h
wrong_deeper Var d e cs l h = h
wrong_deeper Nor d e cs l h = h
wrong_deeper Mux d e cs l h = h
wrong_deeper And d e cs l h = h
wrong_deeper Xor d e cs l h = h
wrong_deeper Not d e cs l h = h
wrong_deeper Lut d e cs l h = h
wrong_deeper Bus d e cs l h = h
wrong_deeper Reg d e cs l h = h
wrong_deeper Arg d e cs l h = arg_deeper d e cs l h
wrong_deeper Cycle d e cs l h = h
wrong_deeper Unknown d e cs l h = h

tree_deeper : (t : Tree) (d e : ℕ) → e ≤ d → wrong_tree e t ≡ false → wrong_tree d t ≡ false
tree_deeper (node k x cs) d e l h = wrong_deeper (kind_of k) d e (trees cs) l h

-- ---- the walk at one node, and over the children of a node of a list
walk_at : (d : ℕ) (t : Tree) → verify_rec d t ≡ (not (wrong_tree d t) && verify_rec_all (depth_under (kind_word t) d) (children t))
walk_at d (node k x cs) = refl

walk_all : (d : ℕ) (f : ℕ → Tree) (cs : List ℕ) → ((c : ℕ) → some (eqb c) cs ≡ true → verify_rec d (f c) ≡ true)
    → verify_rec_all d (forest f cs) ≡ true
walk_all d f [] h = refl
walk_all d f (c ∷ cs) h =
    and_both (verify_rec d (f c)) (verify_rec_all d (forest f cs)) (h c (rw (eq-eqb c c refl) refl))
    (walk_all d f cs (λ x k. h x (rw k (or-true (eqb x c)))))

walk_each : (d : ℕ) (f : ℕ → Tree) (cs : List ℕ) → verify_rec_all d (forest f cs) ≡ true
    → (c : ℕ) → some (eqb c) cs ≡ true → verify_rec d (f c) ≡ true
walk_each d f [] h c k = absurd (true_false k refl)
walk_each d f (x ∷ cs) h c k = go (eqb c x) refl (walk_each d f cs (and_right (verify_rec d (f x)) (verify_rec_all d (forest f cs)) h) c)
  where
    go : (b : Bool) → eqb c x ≡ b → (some (eqb c) cs ≡ true → verify_rec d (f c) ≡ true) → verify_rec d (f c) ≡ true
    go true e ih =
        subst (λ (y : ℕ). verify_rec d (f y) ≡ true) (sym (eqb-true c x e)) (and_left (verify_rec d (f x)) (verify_rec_all d (forest f cs)) h)
    go false e ih = ih (rw e at k)

-- a path's count and the walk's
under_is : (b : Bool) (d : ℕ) → cond b (suc d) d ≡ d + cond b 1 0
under_is true d = omega arith
under_is false d = omega arith

-- ---- of a list past number 5
module _ (ns ps : List ℕ) (laid : All ns ps (WellLaid ns ps)) where
  below_at : (i : ℕ) → i < node_count ns → children_below ns ps i ≡ true
  below_at i h = (every_is (λ c. ltb c i) (λ c. is_lt c i) (children_at ns ps i)).1 (laid i h).2

  child_below : (i c : ℕ) → i < node_count ns → is_child ns ps c i ≡ true → c < i
  child_below i c h k = ltb-true c i (every_in (λ c. ltb c i) (children_at ns ps i) (below_at i h) c k)

  -- the walk at node i: its own test, and the walk over its children
  walk_node : (i d : ℕ) → i < node_count ns
      → verify_rec d (tree_of ns ps i) ≡ (not (wrong_tree d (tree_of ns ps i)) && verify_rec_all (d + cycles ns i) (forest (tree_of ns ps) (children_at ns ps i)))
  walk_node i d h =
      let kind : kind_word (tree_of ns ps i) ≡ kind_at ns i = ap kind_word (tree_at ns ps i (below_at i h)) in
      let kids : children (tree_of ns ps i) ≡ forest (tree_of ns ps) (children_at ns ps i) = ap children (tree_at ns ps i (below_at i h)) in
      let depth : depth_under (kind_word (tree_of ns ps i)) d ≡ d + cycles ns i =
      ap (λ (k : ℕ). depth_under k d) kind ∙ under_is (eqb (kind_at ns i) cycle_word) d in
      walk_at d (tree_of ns ps i) ∙ rw (depth, kids)

  -- no fault at any mark: every path verifies
  walk_within : All ns ps (Verifies ns ps) → (b i d : ℕ) → i < b → PathTo ns ps i d → verify_rec d (tree_of ns ps i) ≡ true
  walk_within fine zero i d l p = absurd (omega arith)
  walk_within fine (suc b) i d l p =
      let small : i < node_count ns = path_small ns ps p in
      let mark : (0 < mark_of ns ps i) × (mark_of ns ps i ≤ suc d) = mark_least ns ps p in
      let least : wrong_tree (mark_of ns ps i - 1) (tree_of ns ps i) ≡ false = fine i small (lt-ltb 0 (mark_of ns ps i) mark.0) in
      let own : wrong_tree d (tree_of ns ps i) ≡ false = tree_deeper (tree_of ns ps i) d (mark_of ns ps i - 1) (omega (arith, mark.1)) least in
      let rest : verify_rec_all (d + cycles ns i) (forest (tree_of ns ps) (children_at ns ps i)) ≡ true =
      walk_all (d + cycles ns i) (tree_of ns ps) (children_at ns ps i)
      (λ c k.
      let under : c < i = child_below i c small k in
      walk_within fine b c (d + cycles ns i) (omega arith) (down {i = c} {j = i} {d = d} p under k)) in
      walk_node i d small ∙ rw (own, rest) refl

  -- the root verifies: so does every node, on every path to it
  walk_down : verify_rec 0 (root_of ns ps) ≡ true → {i d : ℕ} → PathTo ns ps i d → verify_rec d (tree_of ns ps i) ≡ true
  unfolding root_of
  walk_down h (at_root {i = i} e) = subst (λ (x : ℕ). verify_rec 0 (tree_of ns ps x) ≡ true) (omega arith) h
  walk_down h (down {i = i} {j = j} {d = d} p l c) =
      let own : Bool = not (wrong_tree d (tree_of ns ps j)) in
      let rest : Bool = verify_rec_all (d + cycles ns j) (forest (tree_of ns ps) (children_at ns ps j)) in
      walk_each (d + cycles ns j) (tree_of ns ps) (children_at ns ps j)
      (and_right own rest (sym (walk_node j d (path_small ns ps p)) ∙ walk_down h p)) i c

  walk_own : (i d : ℕ) → i < node_count ns → verify_rec d (tree_of ns ps i) ≡ true → wrong_tree d (tree_of ns ps i) ≡ false
  walk_own i d h v =
      not_is_true (wrong_tree d (tree_of ns ps i))
      (and_left (not (wrong_tree d (tree_of ns ps i))) (verify_rec_all (d + cycles ns i) (forest (tree_of ns ps) (children_at ns ps i))) (sym (walk_node i d h) ∙ v))

  marks_fine : verify_rec 0 (root_of ns ps) ≡ true → All ns ps (Verifies ns ps)
  marks_fine h i small r =
      let p : PathTo ns ps i (mark_of ns ps i - 1) = mark_path ns ps i small (ltb-true 0 (mark_of ns ps i) r) in
      walk_own i (mark_of ns ps i - 1) small (walk_down h p)

  root_walk : 0 < node_count ns → All ns ps (Verifies ns ps) → verify_rec 0 (root_of ns ps) ≡ true
  unfolding root_of
  root_walk h fine =
      walk_within fine (node_count ns) (node_count ns - 1) 0 (omega arith) (at_root {i = node_count ns - 1} (omega arith))

  pub walk_exactly : All ns ps (Verifies ns ps) ↔ (verify_expr ns ps ≡ true)
  unfolding verify_expr
  walk_exactly = elim (dec_lt 0 (node_count ns)) [
    | yes h ↦
        let some : eqb (node_count ns) 0 ≡ false = ne_eqb (node_count ns) 0 (λ e. omega arith) in
        rw some (root_walk h, marks_fine)
    | no h ↦
        let empty : eqb (node_count ns) 0 ≡ true = eq-eqb (node_count ns) 0 (omega arith) in
        rw empty (λ fine. refl, λ e i small. absurd (omega arith))
  ]

module _ (ns ps : List ℕ) where
  pub verifies_as_walked : (layout ns ps).number ≡ 0 → ((verification ns ps).number ≡ 0) ↔ (verify_expr ns ps ≡ true)
  verifies_as_walked h =
      let walk : All ns ps (Verifies ns ps) ↔ (verify_expr ns ps ≡ true) = walk_exactly ns ps ((layout_passed ns ps).when.0 h) in
      (λ z. walk.0 ((verification_passed ns ps).when.0 z), λ v. (verification_passed ns ps).when.1 (walk.1 v))

  pub refuses_as_walked : (layout ns ps).number ≡ 0 → ((verification ns ps).number ≡ 6) ↔ (verify_expr ns ps ≡ false)
  refuses_as_walked h = other_number (verification_says ns ps) (verifies_as_walked h)

  -- past 1, 2, 10 and 3 to 5 the call answers as verification does
  pub call_verifies : (work : ℕ) → (sizes ns ps).number ≡ 0 → work_for ns ps ≤ work → (layout ns ps).number ≡ 0
      → verify_refusal ns ps work ≡ verification ns ps
  unfolding verify_refusal
  call_verifies work s w l =
      let rest : Refusal = layout ns ps then verification ns ps in
      then_go (sizes ns ps) (room (work_for ns ps) work then rest) s
      ∙ then_go (room (work_for ns ps) work) rest ((room_passed (work_for ns ps) work).when.1 w)
      ∙ then_go (layout ns ps) (verification ns ps) l
