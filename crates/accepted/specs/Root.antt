-- The root of a list past number 8 has an answer, and so has a shape that is a bit's or a bus's.
use Rattle.std.specs.Prelude.{ℕ, suc, ◌+◌, ◌-◌, ◌≤◌, ◌<◌, ◌≡◌, refl, ◌≢◌, List, true, false, not, ◌&&◌, length}
use Rattle.std.proofs.Common.{arith, eq-eqb, lt-ltb}
use Rattle.meaning.specs.Rules.Kinds.{kind_of, program_word, cycle_word}
use Rattle.meaning.specs.Rules.Trees.{node_count, kind_at, tree_of}
use Rattle.meaning.specs.Rules.Reach.{mark_of}
use Rattle.meaning.specs.Rules.Verification.{is_program}
use Rattle.meaning.specs.Rules.Evaluable.{Shape, is_bit, is_logic, alike, same_shape, nth_shape, shape_step, shape, fits, fits_tree, is_root}
use Rattle.meaning.specs.Claims.Column.{Sound}
use Rattle.meaning.proofs.Laws.BoolLaws.{true_false, and_left, and_right, or_right_false}
use Rattle.meaning.proofs.Laws.ReachLaws.{reach_root}
use Rattle.lists.specs.Cases.{range}
use Rattle.accepted.specs.Nodes.{Logic, shapes_at, tree_is, fitting}

-- a node that fits its children has a shape that is no Program's, unless it is a Program
step_logic : (ss : List Shape) (k : ℕ) → k ≤ cycle_word → k ≢ program_word → fits (kind_of k) ss ≡ true → is_logic (shape_step (kind_of k) ss) ≡ true
step_logic ss k known =
    range (λ k. k ≢ program_word → fits (kind_of k) ss ≡ true → is_logic (shape_step (kind_of k) ss) ≡ true) 0 17 (
      (λ n f. refl),
      (
        (λ n f. absurd (n refl)),
        (
          (λ n f. refl),
          (
            (λ n f. refl),
            (
              (λ n f. both f),
              (
                (λ n f. arms f),
                (
                  (λ n f. both f),
                  (
                    (λ n f. both f),
                    (
                      (λ n f. f),
                      (
                        (λ n f. refl),
                        (
                          (λ n f. lt-ltb 0 (length ss + 2) (omega arith)),
                          (
                            (λ n f. refl),
                            (
                              (λ n f. refl),
                              (
                                (λ n f. refl),
                                (
                                  (λ n f. refl),
                                  (
                                    (λ n f. refl),
                                    (
                                      (λ n f. f),
                                      tt,
                                    ),
                                  ),
                                ),
                              ),
                            ),
                          ),
                        ),
                      ),
                    ),
                  ),
                ),
              ),
            ),
          ),
        ),
      ),
    ) k (omega arith) (omega arith)
  where
    both : alike (nth_shape ss 0) (nth_shape ss 1) ≡ true → is_logic (nth_shape ss 0) ≡ true
    both f = and_left (is_logic (nth_shape ss 0)) (same_shape (nth_shape ss 0) (nth_shape ss 1)) f

    arms : (is_bit (nth_shape ss 0) && alike (nth_shape ss 1) (nth_shape ss 2)) ≡ true → is_logic (nth_shape ss 1) ≡ true
    arms f =
        and_left (is_logic (nth_shape ss 1)) (same_shape (nth_shape ss 1) (nth_shape ss 2))
        (and_right (is_bit (nth_shape ss 0)) (alike (nth_shape ss 1) (nth_shape ss 2)) f)

module _ (ns ps : List ℕ) (s : Sound ns ps) where
  pub logic_shape : (n : ℕ) → Logic ns ps n → is_logic (shape (tree_of ns ps n)) ≡ true
  unfolding shapes_at
  logic_shape n g =
      rw (tree_is ns ps s n g.inside)
      (step_logic (shapes_at ns ps n) (kind_at ns n) (s.0 n g.inside).0 g.no_program (fitting ns ps s n g.inside g.marked))

  -- "a Program at the root is its own" fault, so the root is none
  pub root_logic : Logic ns ps (node_count ns - 1)
  root_logic =
      let root = node_count ns - 1 in
      let rooted : 0 < node_count ns = s.1.1.0 in
      let last : suc root ≡ node_count ns = omega arith in
      let inside : root < node_count ns = omega arith in
      let marked : 0 < mark_of ns ps root = reach_root ns ps root last in
      record { inside = inside; marked = marked; no_program = λ e. true_false (program root last inside e) (fine root inside marked) }
    where
      fine : (n : ℕ) → n < node_count ns → 0 < mark_of ns ps n → (is_root ns n && is_program (tree_of ns ps n)) ≡ false
      fine n inside marked =
          or_right_false (not (fits_tree (tree_of ns ps n))) (is_root ns n && is_program (tree_of ns ps n))
          (s.1.1.1 n inside (lt-ltb 0 (mark_of ns ps n) marked))

      program : (n : ℕ) → suc n ≡ node_count ns → n < node_count ns → kind_at ns n ≡ program_word → (is_root ns n && is_program (tree_of ns ps n)) ≡ true
      program n last inside e = rw (eq-eqb (suc n) (node_count ns) last, tree_is ns ps s n inside, e)
