-- What one node does to the marks of its children. The definition in meaning's Rules/Reach looks from a node up to its
-- parents; code goes from the root down, and each reached node hands its mark on.
use Rattle.std.specs.Prelude.{ℕ, zero, suc, ◌+◌, ◌*◌, ◌≤◌, ◌<◌, ◌≡◌, Bool, true, false, cond, length, get_or, set, drop, eqb}
use Rattle.std.proofs.Math.Path.{refl, ap}
use Rattle.std.proofs.Common.{sym, ◌∙◌, arith, add-one, drop_of_length-le}
use mathlib.Core.List.{List, [], ◌∷◌}
use Rattle.std.proofs.Math.Decide.{ℕ_discrete}
use Rattle.std.proofs.Math.Seq.{drop-cons}
use Rattle.std.proofs.Math.Dec.{ltb}
use borrow.Author.Tests.{lt-ltb, eq-eqb, ne_eqb, ltb-true}
use Rattle.meaning.proofs.Laws.BoolLaws.{and_left, and_right}
use Rattle.meaning.specs.Rules.Limits.{work_per_node}
use Rattle.meaning.specs.Rules.Trees.{children_at}
use Rattle.meaning.specs.Rules.Refusals.{every, some}
use Rattle.meaning.specs.Rules.Reach.{is_cycle, nearer}
use Rattle.columns.specs.Columns.{place, cell, mark_column, with_column}
use Rattle.columns.specs.ColumnLaws.{changed, with_column_lem, with_same, with_stored}

-- ---- the nearer of two marks
-- a child that stands twice gets no nearer by the second time
nearer_again : (a b : ℕ) → nearer a (nearer a b) ≡ nearer a b
nearer_again zero b = refl
nearer_again (suc a) zero = ap suc (omega arith)
nearer_again (suc a) (suc b) = ap suc (omega arith)

-- ---- at first the root alone, the last of n nodes, is reached
abbrev pub only_root : ℕ → ℕ → ℕ
only_root n i = cond (eqb (suc i) n) 1 0

-- ---- a mark m handed on to each of a list of children
abbrev pub lower_one : ℕ → ℕ → ℕ → List ℕ → List ℕ
lower_one base m c work = set work (place mark_column (base + c)) (nearer m (cell work mark_column (base + c)))

unfoldable pub lowered : ℕ → ℕ → List ℕ → List ℕ → List ℕ
lowered base m [] work = work
lowered base m (c ∷ cs) work = lowered base m cs (lower_one base m c work)

-- what node p does: where it is reached, it hands its mark on to its children, a Cycle node one more
abbrev pub handed_on : List ℕ → ℕ → ℕ → ℕ
handed_on ns p m = cond (is_cycle ns p) (suc m) m

unfoldable pub turn : List ℕ → List ℕ → ℕ → ℕ → List ℕ → List ℕ
turn ns ps base p work =
    let m = cell work mark_column (base + p) in
    cond (ltb 0 m) (lowered base (handed_on ns p m) (children_at ns ps p) work) work

-- ---- the loop over the children
module _ (base m : ℕ) (cs work : List ℕ) (i : ℕ) where
  pub lowered_more : i < length cs → lowered base m (drop (i + 1) cs) (lower_one base m (get_or cs i 0) work) ≡ lowered base m (drop i cs) work
  unfolding lowered
  lowered_more h = rw (add-one i, drop-cons cs i 0 h)

  pub lowered_done : length cs ≤ i → lowered base m (drop i cs) work ≡ work
  unfolding lowered
  lowered_done h = rw (drop_of_length-le cs h)

module _ (ns ps : List ℕ) (base p : ℕ) (work : List ℕ) where
  pub turn_reached : 0 < cell work mark_column (base + p)
      → turn ns ps base p work ≡ lowered base (handed_on ns p (cell work mark_column (base + p))) (children_at ns ps p) work
  unfolding turn
  turn_reached h = rw (lt-ltb 0 (cell work mark_column (base + p)) h)

  pub turn_unreached : cell work mark_column (base + p) ≡ 0 → turn ns ps base p work ≡ work
  unfolding turn
  turn_unreached h = rw h

-- ---- each child's mark becomes the nearer of its own and the one handed on; every other mark stays
abbrev pub lower : ℕ → List ℕ → (ℕ → ℕ) → ℕ → ℕ
lower m cs f i = cond (some (eqb i) cs) (nearer m (f i)) (f i)

module _ (base m n : ℕ) (work : List ℕ) (room : work_per_node * (base + n) ≤ length work) where
  one : (f : ℕ → ℕ) (c : ℕ) → c < n
      → lower_one base m c (with_column mark_column base n f work) ≡ with_column mark_column base n (changed mark_column base f c (nearer m (f c))) work
  one f c h =
      ap (λ (v : ℕ). set (with_column mark_column base n f work) (place mark_column (base + c)) (nearer m v)) (with_column_lem mark_column base n f work (omega arith) room c h)
      ∙ with_stored mark_column base n f work c (nearer m (f c)) h

  -- child c first, then the children cs, is all of them
  both : (f : ℕ → ℕ) (c : ℕ) (cs : List ℕ) (i : ℕ) → lower m cs (changed mark_column base f c (nearer m (f c))) i ≡ lower m (c ∷ cs) f i
  both f c cs i = elim (ℕ_discrete i c) [
    | yes e ↦ rw (eq-eqb i c e) (ap (λ (x : ℕ). cond (some (eqb i) cs) (nearer m (nearer m (f x))) (nearer m (f x))) (sym e) ∙ settle (some (eqb i) cs) (f i))
    | no e ↦ rw (ne_eqb i c e) refl
  ]
    where
      settle : (b : Bool) (x : ℕ) → cond b (nearer m (nearer m x)) (nearer m x) ≡ nearer m x
      settle true x = nearer_again m x
      settle false x = refl

  pub lowered_column : (f : ℕ → ℕ) (cs : List ℕ) → every (λ c. ltb c n) cs ≡ true
      → lowered base m cs (with_column mark_column base n f work) ≡ with_column mark_column base n (lower m cs f) work
  unfolding lowered
  lowered_column f [] below = refl
  lowered_column f (c ∷ cs) below =
      let small : c < n = ltb-true c n (and_left (ltb c n) (every (λ c. ltb c n) cs) below) in
      ap (lowered base m cs) (one f c small)
      ∙ lowered_column (changed mark_column base f c (nearer m (f c))) cs (and_right (ltb c n) (every (λ c. ltb c n) cs) below)
      ∙ with_same mark_column base n (lower m cs (changed mark_column base f c (nearer m (f c)))) (lower m (c ∷ cs) f) work (λ i l. both f c cs i)
