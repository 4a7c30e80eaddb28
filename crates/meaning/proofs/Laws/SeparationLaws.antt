-- A tree judged: Separate exactly when demand 3 says, else the lowest crossing assignment.
use Prim.Native.Nat.{ℕ, ◌^◌, ◌≤◌, ◌<◌}
use Rattle.std.specs.Prelude.{◌≡◌, ◌↔◌, ◌≢◌, List, Bool, true, false, cond, eqb}
use Rattle.std.proofs.Math.Path.{refl, ap, ap₂, fun_ext}
use Rattle.std.proofs.Common.{sym, subst, ◌∙◌, arith, eq-eqb, ne_eqb, ltb-false, le-ltb}
use Rattle.std.proofs.Math.Bool.{not}
use Rattle.std.proofs.Math.Decide.{dec_lt}
use Rattle.meaning.specs.declared.Answer.{Answer}
use Rattle.meaning.specs.declared.Judgement.TheVariants.{Separate}
use Rattle.meaning.specs.Rules.Separation.{Separation}
use Rattle.meaning.proofs.Laws.WordLaws.{bit_above}
use Rattle.meaning.proofs.Laws.BoolLaws.{true_false, not_is_true, not_is_false}
use Rattle.meaning.proofs.Laws.SearchLaws.{IsLowest, lowest_is}
use Rattle.meaning.specs.Rules.Search.{lowest}
use Rattle.meaning.specs.Rules.Trees.{Tree, same, root_of}
use Rattle.meaning.specs.Rules.Answers.{Assignment, answer}
use Rattle.meaning.specs.Rules.Refusals.{is_done, done}
use Rattle.meaning.specs.Rules.Assignments.{drive, upto, Assigns, is_in}
use Rattle.meaning.specs.Rules.Layout.{sizes, work_for, room}
use Rattle.meaning.specs.Rules.Evaluable.{sound}
use Rattle.meaning.specs.Rules.Separation.{in_bounds, is_marked, run_cleared, crosses, crossing_index, separated, crossing_at, separate_tree, separation_refused}
use Rattle.meaning.specs.Rules.Calls.{separate_refusal, separation}
use Rattle.meaning.proofs.Laws.RefusalLaws.{then_rest, require_done, marks_below, is_done_lem}
use Rattle.meaning.specs.Rules.Comparison.{same_answer}
use Rattle.meaning.proofs.Laws.AssignmentLaws.{same_answer_eq, same_answer_refl, drive_assigns, number, number_lt, assigns_number, in_upto, upto_length}
use Rattle.meaning.specs.Claims.Terms.{AgreeUnmarked, NoCrossing, as_run, as_cleared, Crosses}

module _ (t : Tree) (n run : ℕ) (below : run < 2 ^ n) where
  found_crossing : IsLowest (crosses t n run) 0 (2 ^ n) (crossing_index t n run)
  unfolding crossing_index
  found_crossing = lowest_is (crosses t n run) (2 ^ n)

  same_before : (j : ℕ) → j < crossing_index t n run → as_run t n run j ≡ as_cleared t n run j
  same_before j h =
      same_answer_eq (as_run t n run j) (as_cleared t n run j)
      (not_is_false (same_answer (as_run t n run j) (as_cleared t n run j)) (found_crossing.before j (omega arith) h))

  differ_at : crossing_index t n run < 2 ^ n → as_run t n run (crossing_index t n run) ≡ as_cleared t n run (crossing_index t n run) → ⊥
  differ_at h e =
      true_false (subst (λ (x : Answer). same_answer (as_run t n run (crossing_index t n run)) x ≡ true) e (same_answer_refl (as_run t n run (crossing_index t n run))))
      (not_is_true (same_answer (as_run t n run (crossing_index t n run)) (as_cleared t n run (crossing_index t n run))) (found_crossing.passes h))

  -- clearing the run bits of an assignment of the n variables leaves an assignment of them
  cleared_assigns : (α : Assignment) → Assigns (upto n) α → Assigns (upto n) (run_cleared run α)
  cleared_assigns α a = record { on = λ v h. bit (is_marked run v) v (a.on v h); off = λ v h. free v h }
    where
      bit : (b : Bool) (v : ℕ) → α v < 2 → cond b 0 (α v) < 2
      bit true v h = omega arith
      bit false v h = h

      free : (v : ℕ) → is_in v (upto n) ≡ false → run_cleared run α v ≡ 2
      free v h =
          let above : n ≤ v = ltb-false v n (sym (in_upto n v) ∙ h) in
          let unmarked : is_marked run v ≡ false = ap (λ (b : ℕ). eqb b 1) (bit_above run n v below above) in
          rw unmarked (a.off v h)

  -- assignments that agree on the unmarked variables are one when cleared
  cleared_same : (α β : Assignment) → Assigns (upto n) α → Assigns (upto n) β → AgreeUnmarked n run α β → run_cleared run α ≡ run_cleared run β
  cleared_same α β a b e = fun_ext (λ v. go v (is_marked run v) refl (dec_lt v n))
    where
      go : (v : ℕ) (m : Bool) → is_marked run v ≡ m → Dec (v < n) → run_cleared run α v ≡ run_cleared run β v
      go v true h d = rw h
      go v false h (yes k) = rw h (e v k h)
      go v false h (no k) =
          let out : is_in v (upto n) ≡ false = in_upto n v ∙ le-ltb v n (omega arith) in
          rw h (a.off v out ∙ sym (b.off v out))

  -- each assignment answers as its cleared self
  each_cleared : crossing_index t n run ≡ 2 ^ n → (α : Assignment) → Assigns (upto n) α → answer α t ≡ answer (run_cleared run α) t
  each_cleared e α a =
      subst (λ (β : Assignment). answer β t ≡ answer (run_cleared run β) t) (assigns_number (upto n) α a)
      (same_before (number (upto n) α) (omega (arith, e, rw (upto_length n) at (number_lt (upto n) α a.on))))

  no_crossing : crossing_index t n run ≡ 2 ^ n → NoCrossing t n run
  no_crossing e α β a b same =
      each_cleared e α a ∙ ap (λ (γ : Assignment). answer γ t) (cleared_same α β a b same) ∙ sym (each_cleared e β b)

  cleared_agrees : (α : Assignment) → AgreeUnmarked n run α (run_cleared run α)
  cleared_agrees α v k h = rw h refl

  none_found : NoCrossing t n run → crossing_index t n run ≡ 2 ^ n
  none_found all = elim (dec_lt (crossing_index t n run) (2 ^ n)) [
    | yes h ↦
        let α = drive (upto n) (crossing_index t n run) in
        let a = drive_assigns (upto n) (crossing_index t n run) in
        absurd (differ_at h (all α (run_cleared run α) a (cleared_assigns α a) (cleared_agrees α)))
    | no h ↦ omega (arith, found_crossing.within)
  ]

  separate_is : crossing_index t n run ≡ 2 ^ n → separate_tree t n run ≡ separated
  unfolding separate_tree
  separate_is e = rw (eq-eqb (crossing_index t n run) (2 ^ n) e)

  crossing_is : (crossing_index t n run ≡ 2 ^ n → ⊥)
      → separate_tree t n run ≡ crossing_at (crossing_index t n run) (as_run t n run (crossing_index t n run)) (as_cleared t n run (crossing_index t n run))
  unfolding separate_tree
  crossing_is e = rw (ne_eqb (crossing_index t n run) (2 ^ n) e)

  -- "Separate exactly when any two assignments that agree on all unmarked variables give the root the same answer"
  pub separate_exactly : ((separate_tree t n run).judgement ≡ Separate) ↔ NoCrossing t n run
  separate_exactly = (λ h. go h (dec_lt (crossing_index t n run) (2 ^ n)), λ h. ap (λ (s : Separation). s.judgement) (separate_is (none_found h)))
    where
      go : (separate_tree t n run).judgement ≡ Separate → Dec (crossing_index t n run < 2 ^ n) → NoCrossing t n run
      go h (yes k) = absurd (let z : ◌≡◌ {A = ℕ} 0 1 = cc (ap (λ (s : Separation). s.judgement) (crossing_is (λ e. omega arith))) in omega arith)
      go h (no k) = no_crossing (omega (arith, found_crossing.within))

  pub otherwise_crossing : (separate_tree t n run).judgement ≢ Separate → Crosses t n run (separate_tree t n run)
  otherwise_crossing h =
      let no : crossing_index t n run ≡ 2 ^ n → ⊥ = λ e. h (ap (λ (s : Separation). s.judgement) (separate_is e)) in
      let k : crossing_index t n run < 2 ^ n = omega (arith, found_crossing.within, no) in
      rw (crossing_is no) (record { judgement = refl; exists = k; differs = differ_at k; lowest = same_before; answers = (refl, refl) })

-- a tree judged answers with no refusal
pub judged_no_refusal : (t : Tree) (n run : ℕ) → (separate_tree t n run).refusal ≡ done
unfolding separate_tree
judged_no_refusal t n run = go (eqb (crossing_index t n run) (2 ^ n))
  where
    go : (b : Bool) → (cond b separated (crossing_at (crossing_index t n run) (as_run t n run (crossing_index t n run)) (as_cleared t n run (crossing_index t n run)))).refusal ≡ done
    go true = refl
    go false = refl

-- ---- a call that is not refused
module _ (ns ps : List ℕ) (n run work : ℕ) (done : (separation ns ps n run work).refusal.number ≡ 0) where
  pub judged_done : is_done (separate_refusal ns ps n run work) ≡ true
  unfolding separation
  judged_done = is_done_lem (λ s. s.refusal) (separate_refusal ns ps n run work) (separate_tree (root_of ns ps) n run) (separation_refused (separate_refusal ns ps n run work)) refl done

  pub judged_tree : separation ns ps n run work ≡ separate_tree (root_of ns ps) n run
  unfolding separation
  judged_tree = rw judged_done

  pub judged_bounds : in_bounds ns n run ≡ true
  unfolding separate_refusal
  judged_bounds =
      require_done (in_bounds ns n run) 10
      (then_rest (sound ns ps) _ (then_rest (room (work_for ns ps) work) _ (then_rest (sizes ns ps) _ judged_done)))

  pub judged_marks : run < 2 ^ n
  judged_marks = marks_below ns n run judged_bounds

-- ---- trees that answer alike are judged alike
module _ (t u : Tree) (n run : ℕ) (below : run < 2 ^ n) (alike : (α : Assignment) → Assigns (upto n) α → answer α u ≡ answer α t) where
  alike_run : (i : ℕ) → as_run u n run i ≡ as_run t n run i
  alike_run i = alike (drive (upto n) i) (drive_assigns (upto n) i)

  alike_cleared : (i : ℕ) → as_cleared u n run i ≡ as_cleared t n run i
  alike_cleared i =
      alike (run_cleared run (drive (upto n) i)) (cleared_assigns t n run below (drive (upto n) i) (drive_assigns (upto n) i))

  alike_index : crossing_index u n run ≡ crossing_index t n run
  unfolding crossing_index
  alike_index =
      ap (λ (p : ℕ → Bool). lowest p (2 ^ n))
      (fun_ext (λ i. ap₂ (λ (x y : Answer). not (same_answer x y)) (alike_run i) (alike_cleared i)))

  pub alike_separation : separate_tree u n run ≡ separate_tree t n run
  unfolding separate_tree
  alike_separation = rw (alike_index, alike_run (crossing_index t n run), alike_cleared (crossing_index t n run)) refl
