-- What code answers, an Ok with what was found or an Err with the refusal, is the whole answer of the rules.
use Rattle.std.specs.Prelude.{ℕ, ◌^◌, ◌≡◌, ◌≢◌, refl, List, Bool, true, false, cond, ◌&&◌, ◌||◌, length, leb, eqb, Result, Ok, Err}
use Rattle.std.proofs.Common.{ap, sym, ◌∙◌, arith, eqb-true}
use Rattle.std.proofs.lemmas.Bool.{eqb-false}
use Rattle.meaning.specs.declared.Refusal.{Refusal}
use Rattle.meaning.specs.declared.Answer.{Answer}
use Rattle.meaning.specs.Rules.Trees.{Tree, same, node_count, root_of}
use Rattle.meaning.specs.Rules.Answers.{answer, blank}
use Rattle.meaning.specs.Rules.Assignments.{inputs, upto, drive, given}
use Rattle.meaning.specs.Rules.Refusals.{done, is_done, answered, answered_with, refusal_said, ◌then◌}
use Rattle.meaning.specs.Rules.Layout.{sizes, work_for, room, layout}
use Rattle.meaning.specs.Rules.Verification.{verification}
use Rattle.meaning.specs.Rules.Evaluable.{sound}
use Rattle.meaning.specs.Rules.Canonical.{gates, canonical_nodes, canonical_pool}
use Rattle.meaning.specs.Rules.Comparison.{Comparison, assignments, deciding_index, equivalent, decided_at, compare_trees, comparison_refused, comparison_result, comparison_said}
use Rattle.meaning.specs.Rules.Separation.{Separation, run_cleared, crossing_index, separated, crossing_at, separate_tree, separation_refused, separation_result, separation_said}
use Rattle.meaning.specs.Rules.Calls.{verify_refusal, verify, evaluate_refusal, evaluation, evaluation_result, evaluation_said, evaluate, compare_refusal, comparison, compare}
use Rattle.meaning.specs.Rules.Calls.{separate_refusal, separation, separate, fits_lists, canonical_refusal, canonical, canonical_result, canonical_said, canonicalise}
use Rattle.meaning.proofs.Laws.RefusalLaws.{with_done, with_refused}
use Rattle.meaning.proofs.Laws.NumberLaws.{ZeroDone, require_zero, lowest_zero, then_zero}
use Rattle.meaning.proofs.Laws.ColumnLaws.{sizes_zero, sound_zero}

-- ---- a refusal read back
back_by : {A : Type 0} (r : Refusal) (x : A) → ZeroDone r → (b : Bool) → is_done r ≡ b → refusal_said (cond b (Ok x) (Err r)) ≡ r
back_by r x z true e = sym (z.is (eqb-true r.number 0 e))
back_by r x z false e = refl

pub said_back : {A : Type 0} (r : Refusal) (x : A) → ZeroDone r → refusal_said (answered_with r x) ≡ r
said_back r x z = back_by r x z (is_done r) refl

-- ---- what is handed back: an Err is the refusal itself, and there is none behind an Ok
module _ {A : Type 0} (q : Refusal) (x : A) where
  err_by : (r : Refusal) (b : Bool) → is_done q ≡ b → Err r ≡ cond b (Ok x) (Err q) → (r ≡ q) × (q.number ≢ 0)
  err_by r true e h = absurd cc
  err_by r false e h = (cc, eqb-false q.number 0 e)

  pub handed_err : (r : Refusal) → Err r ≡ answered_with q x → r ≡ q
  handed_err r h = (err_by r (is_done q) refl h).0

  pub handed_refuses : (r : Refusal) → Err r ≡ answered_with q x → q.number ≢ 0
  handed_refuses r h = (err_by r (is_done q) refl h).1

  ok_by : (y : A) (b : Bool) → is_done q ≡ b → Ok y ≡ cond b (Ok x) (Err q) → q.number ≡ 0
  ok_by y true e h = eqb-true q.number 0 e
  ok_by y false e h = absurd cc

  pub handed_ok : (y : A) → Ok y ≡ answered_with q x → q.number ≡ 0
  handed_ok y h = ok_by y (is_done q) refl h

evaluation_by : (r : Refusal) (a : Answer) → ZeroDone r → (b : Bool) → is_done r ≡ b
    → evaluation_said (cond b (Ok (cond b a blank)) (Err r)) ≡ record { refusal = r; answer = cond b a blank }
evaluation_by r a z true e = ap (λ (x : Refusal). record { refusal = x; answer = a }) (sym (z.is (eqb-true r.number 0 e)))
evaluation_by r a z false e = refl

canonical_by : (r : Refusal) (n p : ℕ) → ZeroDone r → (b : Bool) → is_done r ≡ b
    → canonical_said (cond b (Ok (record { nodes = cond b n 0; pool = cond b p 0 })) (Err r)) ≡ record { refusal = r; nodes = cond b n 0; pool = cond b p 0 }
canonical_by r n p z true e = ap (λ (x : Refusal). record { refusal = x; nodes = n; pool = p }) (sym (z.is (eqb-true r.number 0 e)))
canonical_by r n p z false e = refl

-- ---- the calls
module _ (ns ps : List ℕ) where
  verify_zero : (work : ℕ) → ZeroDone (verify_refusal ns ps work)
  unfolding verify_refusal layout verification
  verify_zero work =
      then_zero (sizes_zero ns ps) (then_zero (require_zero (leb (work_for ns ps) work) 9) (then_zero (lowest_zero _ _) (lowest_zero _ _)))

  pub verify_back : (work : List ℕ) → refusal_said (answered (verify ns ps work).answer) ≡ (verify ns ps work).answer
  unfolding verify
  verify_back work = said_back (verify_refusal ns ps (length work)) tt (verify_zero (length work))

  evaluate_zero : (bytes : List ℕ) (work out : ℕ) → ZeroDone (evaluate_refusal ns ps bytes work out)
  unfolding evaluate_refusal
  evaluate_zero bytes work out =
      then_zero (sizes_zero ns ps) (then_zero (require_zero _ 9) (then_zero (sound_zero ns ps) (then_zero (require_zero _ 11) (require_zero _ 18))))

  pub evaluate_back : (bytes work out : List ℕ)
      → refusal_said (evaluation_result (evaluate ns ps bytes work out).answer) ≡ (evaluate ns ps bytes work out).answer.refusal
  unfolding evaluate evaluation
  evaluate_back bytes work out =
      said_back (evaluate_refusal ns ps bytes (length work) (length out)) _ (evaluate_zero bytes (length work) (length out))

  -- and the root's answer with it
  pub evaluation_back : (bytes work out : List ℕ)
      → evaluation_said (evaluation_result (evaluate ns ps bytes work out).answer) ≡ (evaluate ns ps bytes work out).answer
  unfolding evaluate evaluation
  evaluation_back bytes work out =
      let r = evaluate_refusal ns ps bytes (length work) (length out) in
      evaluation_by r (answer (given bytes) (root_of ns ps)) (evaluate_zero bytes (length work) (length out)) (is_done r) refl

  canonical_zero : (work out_nodes out_pool : ℕ) → ZeroDone (canonical_refusal ns ps work out_nodes out_pool)
  unfolding canonical_refusal gates
  canonical_zero work out_nodes out_pool =
      then_zero (sizes_zero ns ps) (then_zero (require_zero _ 9) (then_zero (sound_zero ns ps) (then_zero (lowest_zero _ _) (require_zero _ 18))))

  pub canonical_back : (work out_nodes out_pool : List ℕ)
      → canonical_said (canonical_result (canonicalise ns ps work out_nodes out_pool).answer) ≡ (canonicalise ns ps work out_nodes out_pool).answer
  unfolding canonicalise canonical
  canonical_back work out_nodes out_pool =
      let r = canonical_refusal ns ps (length work) (length out_nodes) (length out_pool) in
      canonical_by r (length (canonical_nodes ns ps)) (length (canonical_pool ns ps)) (canonical_zero (length work) (length out_nodes) (length out_pool))
      (is_done r) refl

-- ---- a comparison and a separation that refuse nothing carry no refusal
tree_compared : (t u : Tree) → (compare_trees t u).refusal ≡ done
unfolding compare_trees
tree_compared t u = by_end (same t u || eqb (deciding_index t u) (assignments t))
  where
    last : Comparison
    last = decided_at (deciding_index t u) (answer (drive (inputs t) (deciding_index t u)) t) (answer (drive (inputs t) (deciding_index t u)) u)

    by_end : (b : Bool) → (cond b equivalent last).refusal ≡ done
    by_end true = refl
    by_end false = refl

tree_judged : (t : Tree) (n run : ℕ) → (separate_tree t n run).refusal ≡ done
unfolding separate_tree
tree_judged t n run = by_end (eqb (crossing_index t n run) (2 ^ n))
  where
    last : Separation
    last = crossing_at (crossing_index t n run) (answer (drive (upto n) (crossing_index t n run)) t) (answer (run_cleared run (drive (upto n) (crossing_index t n run))) t)

    by_end : (b : Bool) → (cond b separated last).refusal ≡ done
    by_end true = refl
    by_end false = refl

found_back : (c : Comparison) → c.refusal ≡ done → comparison_said (comparison_result c) ≡ c
found_back c e = rw e refl

refused_back : (r : Refusal) → r.number ≢ 0 → comparison_said (comparison_result (comparison_refused r)) ≡ comparison_refused r
refused_back r h = ap comparison_said (with_refused r _ h)

pub compare_back : (ns ps ms qs work : List ℕ) → comparison_said (comparison_result (compare ns ps ms qs work).answer) ≡ (compare ns ps ms qs work).answer
unfolding compare comparison
compare_back ns ps ms qs work = by_row (is_done (compare_refusal ns ps ms qs (length work))) refl
  where
    c : Comparison
    c = compare_trees (root_of ns ps) (root_of ms qs)

    r : Refusal
    r = compare_refusal ns ps ms qs (length work)

    by_row : (b : Bool) → is_done r ≡ b → comparison_said (comparison_result (cond b c (comparison_refused r))) ≡ cond b c (comparison_refused r)
    by_row true e = found_back c (tree_compared (root_of ns ps) (root_of ms qs))
    by_row false e = refused_back r (eqb-false r.number 0 e)

judged_back : (s : Separation) → s.refusal ≡ done → separation_said (separation_result s) ≡ s
judged_back s e = rw e refl

pub separate_back : (ns ps : List ℕ) (n run : ℕ) (work : List ℕ) → separation_said (separation_result (separate ns ps n run work).answer) ≡ (separate ns ps n run work).answer
unfolding separate separation
separate_back ns ps n run work = by_row (is_done (separate_refusal ns ps n run (length work))) refl
  where
    s : Separation
    s = separate_tree (root_of ns ps) n run

    r : Refusal
    r = separate_refusal ns ps n run (length work)

    by_row : (b : Bool) → is_done r ≡ b → separation_said (separation_result (cond b s (separation_refused r))) ≡ cond b s (separation_refused r)
    by_row true e = judged_back s (tree_judged (root_of ns ps) n run)
    by_row false e = ap separation_said (with_refused r _ (eqb-false r.number 0 e))
