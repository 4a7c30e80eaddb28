-- The marks on the way down. A node's mark is the nearest of those that come through the nodes above it (Rules/Reach,
-- `through_all`, a fold over the marks from a node on); so after the nodes above p have handed on, each lower node holds that
-- fold as far as p, and the nodes from p on hold their marks. One turn is one clause of the fold.
use Rattle.std.specs.Prelude.{ℕ, zero, suc, ◌+◌, ◌-◌, ◌*◌, ◌≤◌, ◌<◌, ◌≡◌, refl, List, [], ◌∷◌, Bool, true, false, cond, ◌&&◌, length, get_or, ltb, eqb}
use Rattle.std.proofs.Common.{sym, ap, ap₂, ◌∙◌, arith, zero-add, suc-add, drop_of_length-le, drop-cons, lt-ltb, le-ltb, eq-eqb, ne_eqb, ltb-true}
use Rattle.std.proofs.Math.Path.{subst}
use Rattle.std.proofs.Math.Decide.{dec_lt, ℕ_discrete}
use Rattle.std.proofs.Math.ListN.{drop}
use Rattle.meaning.proofs.Laws.BoolLaws.{and_left, and_right, and_both}
use Rattle.meaning.specs.Rules.Limits.{work_per_node}
use Rattle.meaning.specs.Rules.Trees.{node_count, children_at}
use Rattle.meaning.specs.Rules.Refusals.{every, some}
use Rattle.meaning.specs.Rules.Layout.{children_below}
use Rattle.meaning.specs.Rules.Reach.{is_cycle, is_child, nearer, through, through_all, marks_of_last, marks, mark_of}
use Rattle.meaning.proofs.Laws.ReachLaws.{marks_length, root_mark}
use Rattle.columns.specs.Columns.{cell, mark_column, with_column}
use Rattle.columns.specs.ColumnLaws.{with_length, with_column_lem, with_same, with_again}
use Rattle.marks.specs.Handing.{only_root, handed_on, lower, turn, turn_reached, turn_unreached, lowered_column}

module _ (ns ps : List ℕ) where
  -- ---- the marks from node e on are the marks of the last nodes
  drop_one : (n d e : ℕ) → drop (suc e) (marks_of_last ns ps n (suc d)) ≡ drop e (marks_of_last ns ps n d)
  drop_one n zero e = refl
  drop_one n (suc d) e = refl

  drop_marks : (n e d : ℕ) → drop e (marks_of_last ns ps n (e + d)) ≡ marks_of_last ns ps n d
  drop_marks n zero d = rw (zero-add d)
  drop_marks n (suc e) d = rw (suc-add e d) (drop_one n (e + d) e ∙ drop_marks n e d)

  marks_from : (e d : ℕ) → e + d ≡ node_count ns → drop e (marks ns ps) ≡ marks_of_last ns ps (node_count ns) d
  unfolding marks
  marks_from e d h =
      subst (λ (x : ℕ). drop e (marks_of_last ns ps (node_count ns) x) ≡ marks_of_last ns ps (node_count ns) d) h (drop_marks (node_count ns) e d)

  all_marks : length (marks ns ps) ≡ node_count ns
  unfolding marks
  all_marks = marks_length ns ps (node_count ns) (node_count ns)

  -- ---- the mark that comes to node i through the nodes from j on
  abbrev from : ℕ → ℕ → ℕ
  from j i = through_all ns ps i j (drop j (marks ns ps))

  from_step : (j i : ℕ) → j < node_count ns → from j i ≡ nearer (through ns ps i j (mark_of ns ps j)) (from (suc j) i)
  from_step j i h = rw (drop-cons (marks ns ps) j 0 (rw all_marks h))

  from_end : (j i : ℕ) → node_count ns ≤ j → from j i ≡ 0
  from_end j i h = let short : length (marks ns ps) ≤ j = rw all_marks h in rw (drop_of_length-le (marks ns ps) short)

  mark_from_above : (i : ℕ) → suc i < node_count ns → mark_of ns ps i ≡ from (suc i) i
  mark_from_above i h = go (node_count ns - suc (suc i)) (omega arith)
    where
      go : (d : ℕ) → i + suc (suc d) ≡ node_count ns → mark_of ns ps i ≡ from (suc i) i
      go d e =
          let first : mark_of ns ps i ≡ get_or (drop i (marks ns ps)) 0 0 =
          ap (λ (l : List ℕ). get_or l 0 0) (sym (drop-cons (marks ns ps) i 0 (rw all_marks (omega arith)))) in
          let low : node_count ns - suc (suc d) ≡ i = omega arith in
          let next : node_count ns - suc d ≡ suc i = omega arith in
          first ∙ ap (λ (l : List ℕ). get_or l 0 0) (marks_from i (suc (suc d)) e)
          ∙ ap₂ (λ (a b : ℕ). through_all ns ps a b (marks_of_last ns ps (node_count ns) (suc d))) low next
          ∙ ap (λ (l : List ℕ). through_all ns ps i (suc i) l) (sym (marks_from (suc i) (suc d) (omega arith)))

  -- ---- no mark is above the number of nodes, so that one more is still a word
  nearer_le : (a b most : ℕ) → a ≤ most → b ≤ most → nearer a b ≤ most
  nearer_le zero b most h k = k
  nearer_le (suc a) zero most h k = h
  nearer_le (suc a) (suc b) most h k = omega arith

  through_le : (i j m : ℕ) → through ns ps i j m ≤ suc m
  through_le i j m = go (ltb 0 m && is_child ns ps i j) (is_cycle ns j)
    where
      go : (a b : Bool) → cond a (cond b (suc m) m) 0 ≤ suc m
      go true true = omega arith
      go true false = omega arith
      go false b = omega arith

  all_le : (i j : ℕ) (ms : List ℕ) (most : ℕ) → ((k : ℕ) → get_or ms k 0 ≤ most) → through_all ns ps i j ms ≤ suc most
  all_le i j [] most h = omega arith
  all_le i j (m ∷ ms) most h =
      nearer_le (through ns ps i j m) (through_all ns ps i (suc j) ms) (suc most)
      (let t = through_le i j m in let z = h 0 in omega arith) (all_le i (suc j) ms most (λ k. h (suc k)))

  last_le : (n d k : ℕ) → get_or (marks_of_last ns ps n d) k 0 ≤ d
  last_le n zero k = omega arith
  last_le n (suc zero) zero = omega arith
  last_le n (suc zero) (suc k) = omega arith
  last_le n (suc (suc d)) zero = all_le (n - suc (suc d)) (n - suc d) (marks_of_last ns ps n (suc d)) (suc d) (last_le n (suc d))
  last_le n (suc (suc d)) (suc k) = omega (arith, last_le n (suc d) k)

  pub mark_small : (i : ℕ) → mark_of ns ps i ≤ node_count ns
  unfolding marks
  mark_small i = last_le (node_count ns) (node_count ns) i

  -- ---- the marks on the way: the nodes from p on are settled, and those above p have handed on
  unfoldable pub so_far : ℕ → ℕ → ℕ
  so_far p i = cond (ltb i p) (from (suc p) i) (mark_of ns ps i)

  pub settled : (p i : ℕ) → p ≤ i → so_far p i ≡ mark_of ns ps i
  unfolding so_far
  settled p i h = rw (le-ltb i p h)

  waiting : (p i : ℕ) → i < p → so_far p i ≡ from (suc p) i
  unfolding so_far
  waiting p i h = rw (lt-ltb i p h)

  -- one node down, for a node below it
  waiting_next : (p i : ℕ) → suc p < node_count ns → i ≤ p
      → so_far p i ≡ nearer (through ns ps i (suc p) (mark_of ns ps (suc p))) (so_far (suc p) i)
  waiting_next p i h l =
      elim (dec_lt i p) [
        | yes k ↦ waiting p i k
        | no k ↦ let e : i ≡ p = omega arith in settled p i (omega arith) ∙ mark_from_above i (omega arith) ∙ ap (λ (x : ℕ). from (suc x) i) e
      ]
      ∙ from_step (suc p) i h ∙ ap (nearer (through ns ps i (suc p) (mark_of ns ps (suc p)))) (sym (waiting (suc p) i (omega arith)))

  -- a node that is not below p is no child of p
  no_child : (p i : ℕ) (cs : List ℕ) → every (λ c. ltb c p) cs ≡ true → p ≤ i → some (eqb i) cs ≡ false
  no_child p i [] h l = refl
  no_child p i (c ∷ cs) h l =
      let small : c < p = ltb-true c p (and_left (ltb c p) (every (λ c. ltb c p) cs) h) in
      rw (ne_eqb i c (λ e. omega arith)) (no_child p i cs (and_right (ltb c p) (every (λ c. ltb c p) cs) h) l)

  through_none : (i p m : ℕ) → children_below ns ps p ≡ true → p ≤ i → through ns ps i p m ≡ 0
  through_none i p m below l = rw (no_child p i (children_at ns ps p) below l) (go (ltb 0 m))
    where
      go : (t : Bool) → cond (t && false) (handed_on ns p m) 0 ≡ 0
      go true = refl
      go false = refl

  -- one node down, for every node
  next : (p i : ℕ) → suc p < node_count ns → children_below ns ps (suc p) ≡ true
      → nearer (through ns ps i (suc p) (mark_of ns ps (suc p))) (so_far (suc p) i) ≡ so_far p i
  next p i h below = elim (dec_lt p i) [
    | yes k ↦ rw (through_none i (suc p) (mark_of ns ps (suc p)) below k) (settled (suc p) i k ∙ sym (settled p i (omega arith)))
    | no k ↦ sym (waiting_next p i h (omega arith))
  ]

  -- ---- what a turn does to a mark is what the fold's clause says
  turned_reached : (p m x i : ℕ) → 0 < m → lower (handed_on ns p m) (children_at ns ps p) (λ j. x) i ≡ nearer (through ns ps i p m) x
  turned_reached p m x i h = rw (lt-ltb 0 m h) (go (some (eqb i) (children_at ns ps p)))
    where
      go : (b : Bool) → cond b (nearer (handed_on ns p m) x) x ≡ nearer (cond b (handed_on ns p m) 0) x
      go true = refl
      go false = refl

  turned_unreached : (p m x i : ℕ) → m ≡ 0 → nearer (through ns ps i p m) x ≡ x
  turned_unreached p m x i h = rw h

  below_all : (p : ℕ) (cs : List ℕ) (n : ℕ) → p < n → every (λ c. ltb c p) cs ≡ true → every (λ c. ltb c n) cs ≡ true
  below_all p [] n l h = refl
  below_all p (c ∷ cs) n l h =
      let small : c < p = ltb-true c p (and_left (ltb c p) (every (λ c. ltb c p) cs) h) in
      and_both (ltb c n) (every (λ c. ltb c n) cs) (lt-ltb c n (omega arith)) (below_all p cs n l (and_right (ltb c p) (every (λ c. ltb c p) cs) h))

  -- ---- the work space on the way down, by what it was when the root alone was marked
  first : (i : ℕ) → i < node_count ns → only_root (node_count ns) i ≡ so_far (node_count ns - 1) i
  first i l = elim (ℕ_discrete (suc i) (node_count ns)) [
    | yes e ↦ rw (eq-eqb (suc i) (node_count ns) e) (sym (settled (node_count ns - 1) i (omega arith) ∙ root_mark ns ps i e))
    | no e ↦
        rw (ne_eqb (suc i) (node_count ns) e)
        (sym (waiting (node_count ns - 1) i (omega arith) ∙ from_end (suc (node_count ns - 1)) i (omega arith)))
  ]

  module _ (base : ℕ) (start : List ℕ) where
    abbrev pub marked : ℕ → List ℕ
    marked p = with_column mark_column base (node_count ns) (so_far p) start

    pub marked_length : (p : ℕ) → length (marked p) ≡ length start
    marked_length p = with_length mark_column base (node_count ns) (so_far p) start

    module _ (room : work_per_node * (base + node_count ns) ≤ length start) where
      -- the node whose turn it is holds its own mark
      pub own_mark : (p : ℕ) → p < node_count ns → cell (marked p) mark_column (base + p) ≡ mark_of ns ps p
      own_mark p h = with_column_lem mark_column base (node_count ns) (so_far p) start (omega arith) room p h ∙ settled p p (omega arith)

      -- one turn takes the marks from suc p to p
      pub turn_marks : (p : ℕ) → suc p < node_count ns → children_below ns ps (suc p) ≡ true → turn ns ps base (suc p) (marked (suc p)) ≡ marked p
      turn_marks p h below = elim (dec_lt 0 (mark_of ns ps (suc p))) [
        | yes k ↦
            turn_reached ns ps base (suc p) (marked (suc p)) (rw (own_mark (suc p) h) k)
            ∙ lowered_column base (handed (cell (marked (suc p)) mark_column (base + suc p))) (node_count ns) start room (so_far (suc p)) children
            (below_all (suc p) children (node_count ns) h below)
            ∙ with_same mark_column base (node_count ns) (lower (handed (cell (marked (suc p)) mark_column (base + suc p))) children (so_far (suc p))) (so_far p) start
            (λ i l. ap (λ (m : ℕ). lower (handed m) children (so_far (suc p)) i) (own_mark (suc p) h)
            ∙ turned_reached (suc p) (mark_of ns ps (suc p)) (so_far (suc p) i) i k ∙ next p i h below)
        | no k ↦
            let none : mark_of ns ps (suc p) ≡ 0 = omega arith in
            turn_unreached ns ps base (suc p) (marked (suc p)) (own_mark (suc p) h ∙ none)
            ∙ with_same mark_column base (node_count ns) (so_far (suc p)) (so_far p) start
            (λ i l. sym (turned_unreached (suc p) (mark_of ns ps (suc p)) (so_far (suc p) i) i none) ∙ next p i h below)
      ]
        where
          children : List ℕ
          children = children_at ns ps (suc p)

          handed : ℕ → ℕ
          handed m = handed_on ns (suc p) m

    -- the way starts where the root alone is marked, and ends where every node holds its mark
    module _ (work : List ℕ) (rooted : start ≡ with_column mark_column base (node_count ns) (only_root (node_count ns)) work) where
      over : (f : ℕ → ℕ) → with_column mark_column base (node_count ns) f start ≡ with_column mark_column base (node_count ns) f work
      over f =
          ap (with_column mark_column base (node_count ns) f) rooted
          ∙ with_again mark_column base (node_count ns) f (only_root (node_count ns)) work

      pub start_marks : start ≡ marked (node_count ns - 1)
      start_marks =
          rooted ∙ with_same mark_column base (node_count ns) (only_root (node_count ns)) (so_far (node_count ns - 1)) work first
          ∙ sym (over (so_far (node_count ns - 1)))

      pub end_marks : marked 0 ≡ with_column mark_column base (node_count ns) (mark_of ns ps) work
      end_marks = over (so_far 0) ∙ with_same mark_column base (node_count ns) (so_far 0) (mark_of ns ps) work (λ i l. settled 0 i (omega arith))
