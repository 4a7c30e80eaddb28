-- A chain of tests that is done has every test done.
use Rattle.std.specs.Prelude.{ℕ, suc, ◌^◌, ◌≤◌, ◌<◌, ◌⊎◌, ◌≢◌, ◌≡◌, refl, List, Bool, true, false, ◌&&◌, cond, ltb, leb, length, replicate, Result, Ok, Err, ⊤}
use Rattle.std.proofs.Common.{inl, inr, ◌∙◌, ap, sym, arith}
use Rattle.std.proofs.Common.{eqb}
use borrow.Author.Tests.{eqb-true, ltb-true, leb-true, leb-false, eqb-false, eq-eqb, ne_eqb}
use Rattle.meaning.specs.declared.Refusal.{Refusal}
use Rattle.meaning.proofs.Laws.BoolLaws.{and_left, and_right}
use Rattle.meaning.proofs.Laws.SearchLaws.{lowest_is}
use Rattle.meaning.specs.Rules.Kinds.{variable_word}
use Rattle.meaning.specs.Rules.Trees.{node_count, kind_at, first_at}
use Rattle.meaning.specs.Rules.Search.{lowest}
use Rattle.meaning.specs.Rules.Limits.{most_inputs}
use Rattle.meaning.specs.Rules.Lent.{output_after, cleared}
use Rattle.meaning.specs.Rules.Separation.{outside, variables_below, in_bounds}
use Rattle.meaning.specs.Rules.Refusals.{is_done, answered, answered_with, asked, numbered, ◌then◌, require, leaves_work, work_after}

-- ---- what code answers for a refusal, and what its answer says of the refusal
abbrev said : {E : Type 0} → Bool → E → Result ⊤ E
said b x = cond b (Ok tt) (Err x)

ok_when : {E : Type 0} (b : Bool) (x : E) → said b x ≡ Ok tt → b ≡ true
ok_when true x h = refl
ok_when false x h = grind arith

err_when : {E : Type 0} (b : Bool) (x e : E) → said b x ≡ Err e → (b ≡ false) × (x ≡ e)
err_when true x e h = grind arith
err_when false x e h = (refl, grind arith)

abbrev said_with : {A E : Type 0} → Bool → E → A → Result A E
said_with b e x = cond b (Ok x) (Err e)

found_when : {A E : Type 0} (b : Bool) (e : E) (x y : A) → said_with b e x ≡ Ok y → (b ≡ true) × (x ≡ y)
found_when true e x y h = (refl, grind arith)
found_when false e x y h = grind arith

refused_when : {A E : Type 0} (b : Bool) (e : E) (x : A) (d : E) → said_with b e x ≡ Err d → (b ≡ false) × (e ≡ d)
refused_when true e x d h = grind arith
refused_when false e x d h = (refl, grind arith)

module _ {A : Type 0} (r : Refusal) (x : A) where
  pub with_done : r.number ≡ 0 → answered_with r x ≡ Ok x
  with_done h = rw (eq-eqb r.number 0 h)

  pub with_refused : r.number ≢ 0 → answered_with r x ≡ Err r
  with_refused h = rw (ne_eqb r.number 0 h)

  pub found_of_ok : (y : A) → answered_with r x ≡ Ok y → (r.number ≡ 0) × (x ≡ y)
  found_of_ok y h = (eqb-true r.number 0 (found_when (is_done r) r x y h).0, (found_when (is_done r) r x y h).1)

  pub refused_of_any : (e : Refusal) → answered_with r x ≡ Err e → (r ≡ e) × (r.number ≢ 0)
  refused_of_any e h = ((refused_when (is_done r) r x e h).1, eqb-false r.number 0 (refused_when (is_done r) r x e h).0)

module _ (r : Refusal) where
  pub answered_done : r.number ≡ 0 → answered r ≡ Ok tt
  answered_done h = rw (eq-eqb r.number 0 h)

  pub answered_refused : r.number ≢ 0 → answered r ≡ Err r
  answered_refused h = rw (ne_eqb r.number 0 h)

  pub done_of_ok : answered r ≡ Ok tt → r.number ≡ 0
  done_of_ok h = eqb-true r.number 0 (ok_when (is_done r) r h)

  pub refused_of_err : (e : Refusal) → answered r ≡ Err e → (r ≡ e) × (r.number ≢ 0)
  refused_of_err e h = ((err_when (is_done r) r e h).1, eqb-false r.number 0 (err_when (is_done r) r e h).0)

-- a test that names no node is asked with a number that is not 0
pub asked_is : (test : Bool) (number : ℕ) → asked test (suc number) ≡ answered (require test (suc number))
asked_is true number = refl
asked_is false number = sym (answered_refused (require false (suc number)) (λ e. omega (arith, e)))

-- ---- and for the number of a test of one node
module _ (n : ℕ) where
  pub none_of_ok : numbered n ≡ Ok tt → n ≡ 0
  none_of_ok h = eqb-true n 0 (ok_when (eqb n 0) n h)

  pub number_of_err : (e : ℕ) → numbered n ≡ Err e → (n ≡ e) × (n ≢ 0)
  number_of_err e h = ((err_when (eqb n 0) n e h).1, eqb-false n 0 (err_when (eqb n 0) n e h).0)

pub then_first : (r s : Refusal) → is_done (r then s) ≡ true → is_done r ≡ true
then_first r s h = go (is_done r) refl
  where
    go : (b : Bool) → is_done r ≡ b → is_done r ≡ true
    go true e = e
    go false e = rw e at h

pub then_rest : (r s : Refusal) → is_done (r then s) ≡ true → is_done s ≡ true
then_rest r s h = rw (then_first r s h) at h

pub require_done : (test : Bool) (number : ℕ) → is_done (require test (suc number)) ≡ true → test ≡ true
require_done true number h = refl
require_done false number h = absurd (omega (arith, eqb-true (suc number) 0 h))

-- number 11 passed: n is at most 30, every variable is below n, and every mark below bit n
module _ (ns : List ℕ) (n run : ℕ) (h : in_bounds ns n run ≡ true) where
  n_and_variables : (leb n most_inputs && variables_below ns n) ≡ true
  unfolding in_bounds
  n_and_variables = and_left (leb n most_inputs && variables_below ns n) (ltb run (2 ^ n)) h

  pub bounds_few : n ≤ most_inputs
  bounds_few = leb-true n most_inputs (and_left (leb n most_inputs) (variables_below ns n) n_and_variables)

  pub bounds_variables : variables_below ns n ≡ true
  bounds_variables = and_right (leb n most_inputs) (variables_below ns n) n_and_variables

  pub marks_below : run < 2 ^ n
  unfolding in_bounds
  marks_below = ltb-true run (2 ^ n) (and_right (leb n most_inputs && variables_below ns n) (ltb run (2 ^ n)) h)

pub variable_below : (ns : List ℕ) (n : ℕ) → variables_below ns n ≡ true → (i : ℕ) → i < node_count ns → kind_at ns i ≡ variable_word → first_at ns i < n
unfolding variables_below
variable_below ns n all i h kind =
    let none : lowest (outside ns n) (node_count ns) ≡ node_count ns = eqb-true (lowest (outside ns n) (node_count ns)) (node_count ns) all in
    let free : outside ns n i ≡ false = (lowest_is (outside ns n) (node_count ns)).before i (omega arith) (omega (arith, none)) in
    leb-false n (first_at ns i) (rw (eq-eqb (kind_at ns i) variable_word kind) at free)

pub then_both : (r s : Refusal) → is_done r ≡ true → is_done s ≡ true → is_done (r then s) ≡ true
then_both r s h k = rw h k

pub done_require : (test : Bool) (number : ℕ) → test ≡ true → is_done (require test number) ≡ true
done_require test number h = rw h

-- an outcome that carries the call's refusal, where that is done: no test refused
pub is_done_lem : {A : Type 0} (refusal : A → Refusal) (r : Refusal) (answered refused : A) → refusal refused ≡ r
    → (refusal (cond (is_done r) answered refused)).number ≡ 0 → is_done r ≡ true
is_done_lem refusal r answered refused e h = go (is_done r) refl
  where
    go : (b : Bool) → is_done r ≡ b → is_done r ≡ true
    go true d = d
    go false d = absurd (eqb-false r.number 0 d (ap (λ (x : Refusal). x.number) (sym e) ∙ (rw d at h)))

-- ---- lent slices after a call
pub refused_output : (r : Refusal) (words old : List ℕ) → r.number ≢ 0 → output_after (is_done r) words old ≡ old
refused_output r words old h = rw (ne_eqb r.number 0 h)

pub work_kept : (r : Refusal) (work : List ℕ) → (r.number ≡ 1) ⊎ (r.number ≡ 2) ⊎ (r.number ≡ 10) → work_after r work ≡ work
unfolding work_after
work_kept r work h = rw (leaves r.number h)
  where
    leaves : (n : ℕ) → (n ≡ 1) ⊎ (n ≡ 2) ⊎ (n ≡ 10) → leaves_work n ≡ true
    leaves n (inl e) = rw e
    leaves n (inr (inl e)) = rw e
    leaves n (inr (inr e)) = rw e

pub work_cleared : (r : Refusal) (work : List ℕ) → r.number ≢ 1 → r.number ≢ 2 → r.number ≢ 10 → work_after r work ≡ replicate (length work) 0
unfolding work_after cleared
work_cleared r work a b c = rw (ne_eqb r.number 1 a, ne_eqb r.number 2 b, ne_eqb r.number 10 c)
