-- The marks are right: a node's mark is 1 + the least number of Cycle nodes over it on any path from the root, and 0 where
-- there is no path. (The definition in `Refusals` computes; this is what it computes.)
use Rattle.std.specs.Prelude.{ℕ, zero, suc, ◌+◌, ◌-◌, ◌≤◌, ◌<◌, ◌≡◌, refl, ◌⊎◌, [], List, ◌∷◌, Bool, true, false, cond, ◌&&◌, length, get_or, ltb, eqb}
use Rattle.std.proofs.Common.{sym, ap, ap₂, subst, ◌∙◌, inl, inr, le_trans, arith, lt-ltb, ltb-true}
use Rattle.std.proofs.Math.Decide.{dec_lt}
use Rattle.meaning.proofs.Laws.BoolLaws.{and_both, and_left, and_right}
use Rattle.meaning.specs.Rules.Trees.{node_count, kind_at, children_at}
use Rattle.meaning.specs.Rules.Refusals.{some}
use Rattle.meaning.specs.Rules.Reach.{nearer, through, through_all, mark_of, PathTo, cycles, at_root, down}
use Rattle.meaning.proofs.Laws.ReachLaws.{root_mark, mark_from}

-- the nearer of two marks is one of them, and not above either
nearer_le_left : (a b : ℕ) → 0 < a → nearer a b ≤ a
nearer_le_left zero b h = absurd (omega arith)
nearer_le_left (suc a) zero h = omega arith
nearer_le_left (suc a) (suc b) h = omega arith

nearer_le_right : (a b : ℕ) → 0 < b → nearer a b ≤ b
nearer_le_right zero b h = omega arith
nearer_le_right (suc a) zero h = absurd (omega arith)
nearer_le_right (suc a) (suc b) h = omega arith

nearer_pos : (a b : ℕ) → 0 < a → 0 < nearer a b
nearer_pos zero b h = absurd (omega arith)
nearer_pos (suc a) zero h = omega arith
nearer_pos (suc a) (suc b) h = omega arith

nearer_pos' : (a b : ℕ) → 0 < b → 0 < nearer a b
nearer_pos' zero b h = h
nearer_pos' (suc a) zero h = omega arith
nearer_pos' (suc a) (suc b) h = omega arith

nearer_one : (a b : ℕ) → (nearer a b ≡ a) ⊎ (nearer a b ≡ b)
nearer_one zero b = inr refl
nearer_one (suc a) zero = inl refl
nearer_one (suc a) (suc b) = elim (dec_lt a b) [ yes h ↦ inl (omega arith) | no h ↦ inr (omega arith) ]

through_is : (ns ps : List ℕ) (i j m : ℕ) → 0 < m → some (eqb i) (children_at ns ps j) ≡ true → through ns ps i j m ≡ m + cycles ns j
through_is ns ps i j m h k = rw (and_both (ltb 0 m) (some (eqb i) (children_at ns ps j)) (lt-ltb 0 m h) k) (go (eqb (kind_at ns j) 16))
  where
    go : (b : Bool) → cond b (suc m) m ≡ m + cond b 1 0
    go true = omega arith
    go false = omega arith

module _ (ns ps : List ℕ) where
  -- ---- no path has fewer Cycle nodes than the mark says
  all_le : (i j : ℕ) (ms : List ℕ) (m : ℕ) → m < length ms → 0 < through ns ps i (j + m) (get_or ms m 0)
      → (0 < through_all ns ps i j ms) × (through_all ns ps i j ms ≤ through ns ps i (j + m) (get_or ms m 0))
  all_le i j [] m l h = absurd (omega arith)
  all_le i j (x ∷ ms) zero l h =
      let e : j + 0 ≡ j = omega arith in
      let pos : 0 < through ns ps i j x = rw e at h in
      rw e (nearer_pos (through ns ps i j x) (through_all ns ps i (suc j) ms) pos, nearer_le_left (through ns ps i j x) (through_all ns ps i (suc j) ms) pos)
  all_le i j (x ∷ ms) (suc m) l h =
      let e : j + suc m ≡ suc j + m = omega arith in
      let rest = all_le i (suc j) ms m (omega arith) (rw e at h) in
      let pos : 0 < through_all ns ps i (suc j) ms = rest.0 in
      rw e (
        nearer_pos' (through ns ps i j x) (through_all ns ps i (suc j) ms) pos,
        le_trans (nearer_le_right (through ns ps i j x) (through_all ns ps i (suc j) ms) pos) rest.1,
      )

  pub path_small : {i d : ℕ} → PathTo ns ps i d → i < node_count ns
  path_small (at_root e) = omega arith
  path_small (down p l c) = omega (arith, path_small p)

  pub mark_least : {i d : ℕ} → PathTo ns ps i d → (0 < mark_of ns ps i) × (mark_of ns ps i ≤ suc d)
  mark_least (at_root {i = i} e) = (omega (arith, root_mark ns ps i e), omega (arith, root_mark ns ps i e))
  mark_least (down {i = i} {j = j} {d = d} p l c) =
      let (pos, small) = mark_least p in
      let a = mark_from ns ps i (omega (arith, path_small p)) in
      let m = j - suc i in
      let at : suc i + m ≡ j = omega arith in
      let parent : get_or a.marks_above m 0 ≡ mark_of ns ps j = sym (a.each m) ∙ ap (mark_of ns ps) at in
      let step : through ns ps i (suc i + m) (get_or a.marks_above m 0) ≡ mark_of ns ps j + cycles ns j =
      ap₂ (λ (x y : ℕ). through ns ps i x y) at parent ∙ through_is ns ps i j (mark_of ns ps j) pos c in
      let r = all_le i (suc i) a.marks_above m (omega (arith, a.size, path_small p)) (omega (arith, step)) in
      (omega (arith, r.0, a.here), omega (arith, r.1, a.here, step))

  -- ---- and one path has as many
  all_attained : (i j : ℕ) (ms : List ℕ) → 0 < through_all ns ps i j ms
      → (m : ℕ) × (m < length ms) × (through_all ns ps i j ms ≡ through ns ps i (j + m) (get_or ms m 0))
  all_attained i j [] h = absurd (omega arith)
  all_attained i j (x ∷ ms) h = go (nearer_one (through ns ps i j x) (through_all ns ps i (suc j) ms)) (all_attained i (suc j) ms)
    where
      go : (nearer (through ns ps i j x) (through_all ns ps i (suc j) ms) ≡ through ns ps i j x) ⊎ (nearer (through ns ps i j x) (through_all ns ps i (suc j) ms) ≡ through_all ns ps i (suc j) ms)
          → (0 < through_all ns ps i (suc j) ms → (m : ℕ) × (m < length ms) × (through_all ns ps i (suc j) ms ≡ through ns ps i (suc j + m) (get_or ms m 0)))
          → (m : ℕ) × (m < length (x ∷ ms)) × (nearer (through ns ps i j x) (through_all ns ps i (suc j) ms) ≡ through ns ps i (j + m) (get_or (x ∷ ms) m 0))
      go (inl e) ih = (0, omega arith, e ∙ ap (λ (y : ℕ). through ns ps i y x) (omega arith))
      go (inr e) ih =
          let (m, l, q) = ih (omega (arith, e)) in
          (suc m, omega arith, e ∙ q ∙ ap (λ (y : ℕ). through ns ps i y (get_or ms m 0)) (omega arith))

  -- a mark that comes through a parent: the parent's mark and the edge
  through_parts : (i j m : ℕ) → 0 < through ns ps i j m
      → (0 < m) × (some (eqb i) (children_at ns ps j) ≡ true) × (through ns ps i j m ≡ m + cycles ns j)
  through_parts i j m h = go (ltb 0 m && some (eqb i) (children_at ns ps j)) refl
    where
      go : (b : Bool) → (ltb 0 m && some (eqb i) (children_at ns ps j)) ≡ b
          → (0 < m) × (some (eqb i) (children_at ns ps j) ≡ true) × (through ns ps i j m ≡ m + cycles ns j)
      go true e =
          let pos : 0 < m = ltb-true 0 m (and_left (ltb 0 m) (some (eqb i) (children_at ns ps j)) e) in
          let edge : some (eqb i) (children_at ns ps j) ≡ true = and_right (ltb 0 m) (some (eqb i) (children_at ns ps j)) e in
          (pos, edge, through_is ns ps i j m pos edge)
      go false e = let none : 0 < 0 = rw e at h in absurd (omega arith)

  path_within : (b i : ℕ) → node_count ns ≤ i + b → i < node_count ns → 0 < mark_of ns ps i → PathTo ns ps i (mark_of ns ps i - 1)
  path_within zero i l h p = absurd (omega arith)
  path_within (suc b) i l h p = go (dec_lt (suc i) (node_count ns)) (path_within b)
    where
      go : Dec (suc i < node_count ns)
          → ((j : ℕ) → node_count ns ≤ j + b → j < node_count ns → 0 < mark_of ns ps j → PathTo ns ps j (mark_of ns ps j - 1))
          → PathTo ns ps i (mark_of ns ps i - 1)
      go (no k) ih =
          let last : suc i ≡ node_count ns = omega arith in
          subst (λ (d : ℕ). PathTo ns ps i d) (omega (arith, root_mark ns ps i last)) (at_root last)
      go (yes k) ih =
          let a = mark_from ns ps i k in
          let (m, small, q) = all_attained i (suc i) a.marks_above (subst (λ (x : ℕ). 0 < x) a.here p) in
          let j = suc i + m in
          let e : mark_of ns ps i ≡ through ns ps i j (mark_of ns ps j) = a.here ∙ q ∙ ap (λ (y : ℕ). through ns ps i j y) (sym (a.each m)) in
          let (pos, edge, sum) = through_parts i j (mark_of ns ps j) (subst (λ (x : ℕ). 0 < x) e p) in
          subst (λ (d : ℕ). PathTo ns ps i d) (omega (arith, e, sum, pos))
          (down {i = i} {j = j} (ih j (omega arith) (omega (arith, a.size)) pos) (omega arith) edge)

  -- a reachable node has a path with as many Cycle nodes as its mark says
  pub mark_path : (i : ℕ) → i < node_count ns → 0 < mark_of ns ps i → PathTo ns ps i (mark_of ns ps i - 1)
  mark_path i h p = path_within (node_count ns) i (omega arith) h p
