-- Reachability: the root is reachable, and so is each child of a reachable node.
use Rattle.std.specs.Prelude.{ℕ, zero, suc, ◌+◌, ◌-◌, ◌<◌, ◌≡◌, refl, [], List, ◌∷◌, Bool, true, false, cond, length, ltb, eqb}
use Rattle.std.proofs.Common.{sym, ap, ap₂, ◌∙◌, arith, zero-add, suc-add, add-zero, lt-ltb}
use Rattle.std.proofs.Math.Path.{subst}
use Rattle.std.proofs.Math.ListN.{get_or}
use Rattle.meaning.proofs.Laws.BoolLaws.{and_both}
use Rattle.meaning.specs.Rules.Trees.{node_count, kind_at, children_at}
use Rattle.meaning.specs.Rules.Refusals.{some}
use Rattle.meaning.specs.Rules.Reach.{nearer, through, through_all, marks_of_last, marks, mark_of}

nearer_left : (a b : ℕ) → 0 < a → 0 < nearer a b
nearer_left zero b h = absurd (omega arith)
nearer_left (suc a) zero h = omega arith
nearer_left (suc a) (suc b) h = omega arith

nearer_right : (a b : ℕ) → 0 < b → 0 < nearer a b
nearer_right zero b h = h
nearer_right (suc a) zero h = omega arith
nearer_right (suc a) (suc b) h = omega arith

module _ (ns ps : List ℕ) where
  through_pos : (c j m : ℕ) → 0 < m → some (eqb c) (children_at ns ps j) ≡ true → 0 < through ns ps c j m
  through_pos c j m h k = rw (and_both (ltb 0 m) (some (eqb c) (children_at ns ps j)) (lt-ltb 0 m h) k) (go (eqb (kind_at ns j) 16))
    where
      go : (b : Bool) → 0 < cond b (suc m) m
      go true = omega arith
      go false = h

  all_pos : (c j : ℕ) (ms : List ℕ) (m : ℕ) → m < length ms → 0 < through ns ps c (j + m) (get_or ms m 0) → 0 < through_all ns ps c j ms
  all_pos c j [] m l h = absurd (omega arith)
  all_pos c j (x ∷ ms) zero l h = nearer_left _ _ (rw add-zero at h)
  all_pos c j (x ∷ ms) (suc m) l h =
      nearer_right (through ns ps c j x) _ (all_pos c (suc j) ms m (omega arith) (subst (λ (i : ℕ). 0 < through ns ps c i (get_or ms m 0)) (omega arith) h))

  module _ (n : ℕ) where
    pub marks_length : (d : ℕ) → length (marks_of_last ns ps n d) ≡ d
    marks_length zero = refl
    marks_length (suc zero) = refl
    marks_length (suc (suc d)) = ap suc (marks_length (suc d))

    shift : (d m : ℕ) → get_or (marks_of_last ns ps n (suc d)) (suc m) 0 ≡ get_or (marks_of_last ns ps n d) m 0
    shift zero m = refl
    shift (suc d) m = refl

    shifts : (e d m : ℕ) → get_or (marks_of_last ns ps n (e + d)) (e + m) 0 ≡ get_or (marks_of_last ns ps n d) m 0
    shifts zero d m = rw (zero-add d, zero-add m)
    shifts (suc e) d m = rw (suc-add e d, suc-add e m) (shift (e + d) (e + m) ∙ shifts e d m)

  -- the mark of node i + m, from the marks of the last n - i nodes
  pub mark_is : (i m d : ℕ) → i + d ≡ node_count ns → mark_of ns ps (i + m) ≡ get_or (marks_of_last ns ps (node_count ns) d) m 0
  unfolding marks
  mark_is i m d e = subst (λ (x : ℕ). get_or (marks_of_last ns ps (node_count ns) x) (i + m) 0 ≡ get_or (marks_of_last ns ps (node_count ns) d) m 0) e (shifts (node_count ns) i d m)

  pub root_mark : (i : ℕ) → suc i ≡ node_count ns → mark_of ns ps i ≡ 1
  root_mark i e = ap (mark_of ns ps) (sym (add-zero i)) ∙ mark_is i 0 1 (omega arith)

  pub reach_root : (i : ℕ) → suc i ≡ node_count ns → 0 < mark_of ns ps i
  reach_root i e = omega (arith, root_mark i e)

  -- the marks above node c, and node c's mark through them
  pub record Above (c : ℕ) : Type 0 where
    pub marks_above : List ℕ
    pub size : suc c + length marks_above ≡ node_count ns
    pub each : (m : ℕ) → mark_of ns ps (suc c + m) ≡ get_or marks_above m 0
    pub here : mark_of ns ps c ≡ through_all ns ps c (suc c) marks_above

  pub mark_from : (c : ℕ) → suc c < node_count ns → Above c
  mark_from c h = go (node_count ns - suc (suc c)) (omega arith)
    where
      go : (d : ℕ) → c + suc (suc d) ≡ node_count ns → Above c
      go d e =
          let above = marks_of_last ns ps (node_count ns) (suc d) in
          let at : mark_of ns ps (c + 0) ≡ through_all ns ps (node_count ns - suc (suc d)) (node_count ns - suc d) above = mark_is c 0 (suc (suc d)) e in
          let low : node_count ns - suc (suc d) ≡ c = omega arith in
          let next : node_count ns - suc d ≡ suc c = omega arith in
          record {
            marks_above = above;
            size = omega (arith, marks_length (node_count ns) (suc d));
            each = λ m. mark_is (suc c) m (suc d) (omega arith);
            here = ap (mark_of ns ps) (sym (add-zero c)) ∙ at ∙ ap₂ (λ (a b : ℕ). through_all ns ps a b above) low next;
          }

  pub reach_child : (j c : ℕ) → j < node_count ns → c < j → 0 < mark_of ns ps j → some (eqb c) (children_at ns ps j) ≡ true → 0 < mark_of ns ps c
  reach_child j c hj hc hm hs =
      let a = mark_from c (omega arith) in
      let m = j - suc c in
      let at : suc c + m ≡ j = omega arith in
      let step : 0 < through ns ps c (suc c + m) (get_or a.marks_above m 0) =
      through_pos c (suc c + m) (get_or a.marks_above m 0) (subst (λ (x : ℕ). 0 < x) (ap (mark_of ns ps) (sym at) ∙ a.each m) hm)
      (subst (λ (i : ℕ). some (eqb c) (children_at ns ps i) ≡ true) (sym at) hs) in
      subst (λ (x : ℕ). 0 < x) (sym a.here) (all_pos c (suc c) a.marks_above m (omega (arith, a.size)) step)
