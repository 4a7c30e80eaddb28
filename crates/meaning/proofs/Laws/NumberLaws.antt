-- Rows of tests: which test of a row says a number, once over the row (document 01, "Order").
use Rattle.std.specs.Prelude.{ℕ, suc, ◌<◌, ◌≡◌, refl, ◌↔◌, ◌⊎◌, List, [], ◌∷◌, ◌++◌, Bool, true, false, ◌||◌, cond, ltb, eqb}
use Rattle.std.proofs.Common.{sym, ap, subst, ◌∙◌, inl, inr, ⊎_elim, arith, eqb-true, eq-eqb, ne_eqb, lt-ltb, le-ltb, ltb-true, ltb-false}
use Rattle.std.proofs.Math.Bool.{or-true}
use Rattle.std.proofs.Math.Decide.{dec_lt}
use Rattle.std.proofs.lemmas.Bool.{eqb-false}
use Rattle.meaning.specs.declared.Refusal.{Refusal}
use Rattle.meaning.specs.Rules.Search.{lowest}
use Rattle.meaning.specs.Rules.Refusals.{done, refuse, is_done, ◌then◌, require, at_lowest, every}
use Rattle.meaning.specs.Rules.Assignments.{is_in}
use Rattle.meaning.specs.Claims.Terms.{NoNode, Exactly, Passed, Says, LowestFaulty}
use Rattle.meaning.proofs.Laws.BoolLaws.{true_false, not_true, and_left, and_right}
use Rattle.meaning.proofs.Laws.SearchLaws.{IsLowest, lowest_is, lowest_only}
use Rattle.meaning.proofs.Laws.AssignmentLaws.{in_append}

-- ---- a row, by its first test
module _ (r s : Refusal) where
  pub then_go : r.number ≡ 0 → (r then s) ≡ s
  then_go h = rw (eq-eqb r.number 0 h)

  pub then_stop : (r.number ≡ 0 → ⊥) → (r then s) ≡ r
  then_stop h = rw (ne_eqb r.number 0 h)

  -- something of a row, where its first test passes and where it refuses
  pub by_first : (P : Refusal → Type 0) → (r.number ≡ 0 → P s) → ((r.number ≡ 0 → ⊥) → P r) → P (r then s)
  by_first P go stop = first (is_done r) refl
    where
      first : (b : Bool) → is_done r ≡ b → P (r then s)
      first true e = let h = eqb-true r.number 0 e in subst P (sym (then_go h)) (go h)
      first false e = let h = eqb-false r.number 0 e in subst P (sym (then_stop h)) (stop h)

-- a row may be cut anywhere
pub then_joined : (r s t : Refusal) → ((r then s) then t) ≡ (r then s then t)
then_joined r s t =
    by_first r s (λ x. (x then t) ≡ (r then s then t)) (λ z. sym (then_go r (s then t) z)) (λ z. then_stop r t z ∙ sym (then_stop r (s then t) z))

-- ---- which numbers a test can say
or_more : (z a b : Bool) → (z || a) ≡ true → (z || (a || b)) ≡ true
or_more true a b h = refl
or_more false true b h = refl
or_more false false b h = absurd (true_false h refl)

or_other : (z a b : Bool) → (z || b) ≡ true → (z || (a || b)) ≡ true
or_other true a b h = refl
or_other false true b h = refl
or_other false false b h = h

in_left : (n : ℕ) (a b : List ℕ) → is_in n (0 ∷ a) ≡ true → is_in n (0 ∷ (a ++ b)) ≡ true
in_left n a b h = rw (in_append n a b) (or_more (eqb n 0) (is_in n a) (is_in n b) h)

in_right : (n : ℕ) (a b : List ℕ) → is_in n (0 ∷ b) ≡ true → is_in n (0 ∷ (a ++ b)) ≡ true
in_right n a b h = rw (in_append n a b) (or_other (eqb n 0) (is_in n a) (is_in n b) h)

pub then_says : {r s : Refusal} {a b : List ℕ} → Says r a → Says s b → Says (r then s) (a ++ b)
then_says {r} {s} {a} {b} p q = record {
  within = by_first r s (λ x. is_in x.number (0 ∷ (a ++ b)) ≡ true) (λ h. in_right s.number a b q.within) (λ h. in_left r.number a b p.within);
}

pub require_says : (test : Bool) (n : ℕ) → Says (require test n) (n ∷ [])
require_says true n = record { within = refl }
require_says false n = record { within = rw (eq-eqb n n refl) (or-true (eqb n 0)) }

pub never : {r : Refusal} {a : List ℕ} → Says r a → (n : ℕ) → is_in n (0 ∷ a) ≡ false → r.number ≡ n → ⊥
never {r} {a} p n h e = true_false (subst (λ (x : ℕ). is_in x (0 ∷ a) ≡ true) e p.within) h

-- ---- a test that says one number: 0, or it
pub one_number : {r : Refusal} {n : ℕ} → Says r (n ∷ []) → (r.number ≡ 0 → ⊥) → r.number ≡ n
one_number {r} {n} s h = eqb-true r.number n (go (eqb r.number 0) refl (eqb r.number n) s.within)
  where
    go : (a : Bool) → eqb r.number 0 ≡ a → (b : Bool) → (a || (b || false)) ≡ true → b ≡ true
    go true e b k = absurd (h (eqb-true r.number 0 e))
    go false e true k = refl
    go false e false k = k

-- exactly one of two answers: a test's 0 is a definition's yes, so its one number is the no
pub other_number : {r : Refusal} {n : ℕ} {b : Bool} → Says r (suc n ∷ []) → ((r.number ≡ 0) ↔ (b ≡ true)) → (r.number ≡ suc n) ↔ (b ≡ false)
other_number {r} {n} {b} s e = (
  λ h. not_true b (λ t. omega (arith, h, e.1 t)),
  λ f. one_number s (λ z. true_false (e.0 z) f),
)

-- numbers from 11 on are none from 1 to 10
pub late_apart : (a : List ℕ) → every (λ m. ltb 10 m) a ≡ true → (n : ℕ) → n < 10 → is_in (suc n) a ≡ false
late_apart [] h n l = refl
late_apart (x ∷ xs) h n l =
    let above : 10 < x = ltb-true 10 x (and_left (ltb 10 x) (every (λ m. ltb 10 m) xs) h) in
    rw (ne_eqb (suc n) x (λ e. omega arith)) (late_apart xs (and_right (ltb 10 x) (every (λ m. ltb 10 m) xs) h) n l)

-- ---- one test
abbrev number_of : Refusal → ℕ
number_of r = r.number

refuse_path : {m n i j : ℕ} → m ≡ n → i ≡ j → refuse m i ≡ refuse n j
refuse_path p q = cc

says_no : (test : Bool) (n i : ℕ) → require test (suc n) ≡ refuse (suc n) i → (i ≡ 0) × (test ≡ false)
says_no true n i h = absurd (omega (arith, ap number_of h))
says_no false n i h = (sym (ap (λ (r : Refusal). r.node) h), refl)

no_says : (test : Bool) (n i : ℕ) → (i ≡ 0) × (test ≡ false) → require test (suc n) ≡ refuse (suc n) i
no_says test n i h = rw (h.1, h.0)

says_yes : (test : Bool) (n : ℕ) → (require test (suc n)).number ≡ 0 → test ≡ true
says_yes true n h = refl
says_yes false n h = absurd (omega arith)

yes_says : (test : Bool) (n : ℕ) → test ≡ true → (require test (suc n)).number ≡ 0
yes_says test n h = rw h

pub require_exactly : (test : Bool) (n : ℕ) {P : Type 0} → ((test ≡ false) ↔ P) → Exactly (require test (suc n)) (suc n) (NoNode P)
require_exactly test n e = record {
  when = λ i. (λ h. let s = says_no test n i h in (s.0, e.0 s.1), λ p. no_says test n i (p.0, e.1 p.1));
}

pub require_passed : (test : Bool) (n : ℕ) {P : Type 0} → ((test ≡ true) ↔ P) → Passed (require test (suc n)) P
require_passed test n e = record { when = (λ h. e.0 (says_yes test n h), λ p. yes_says test n (e.1 p)) }

-- ---- a test node by node
module _ (n : ℕ) (fault : ℕ → ℕ) where
  abbrev faulty : ℕ → Bool
  faulty i = ltb 0 (fault i)

  found : IsLowest faulty 0 n (lowest faulty n)
  found = lowest_is faulty n

  pub lowest_there : lowest faulty n < n → at_lowest n fault ≡ refuse (fault (lowest faulty n)) (lowest faulty n)
  unfolding at_lowest
  lowest_there h = rw (lt-ltb (lowest faulty n) n h)

  pub lowest_none : (lowest faulty n < n → ⊥) → at_lowest n fault ≡ done
  unfolding at_lowest
  lowest_none h = rw (le-ltb (lowest faulty n) n (omega (arith, found.within)))

  fine_below : (j : ℕ) → j < lowest faulty n → fault j ≡ 0
  fine_below j h = omega (arith, ltb-false 0 (fault j) (found.before j (omega arith) h))

  none_faulty : (lowest faulty n < n → ⊥) → (j : ℕ) → j < n → fault j ≡ 0
  none_faulty h j l = fine_below j (omega (arith, h))

  pub lowest_says : (a : List ℕ) → ((i : ℕ) → is_in (fault i) (0 ∷ a) ≡ true) → Says (at_lowest n fault) a
  lowest_says a h = elim (dec_lt (lowest faulty n) n) [
    | yes l ↦ record { within = subst (λ (r : Refusal). is_in r.number (0 ∷ a) ≡ true) (sym (lowest_there l)) (h (lowest faulty n)) }
    | no l ↦ record { within = rw (lowest_none l) refl }
  ]

  module _ {Fine : ℕ → Type 0} (fine : (i : ℕ) → (fault i ≡ 0) ↔ Fine i) where
    pub lowest_passed : Passed (at_lowest n fault) ((i : ℕ) → i < n → Fine i)
    lowest_passed = go (dec_lt (lowest faulty n) n)
      where
        go : Dec (lowest faulty n < n) → Passed (at_lowest n fault) ((i : ℕ) → i < n → Fine i)
        go (yes l) = record {
          when = (λ h. absurd (omega (arith, ap number_of (lowest_there l), ltb-true 0 (fault (lowest faulty n)) (found.passes l))), λ f. ap number_of (lowest_there l) ∙ (fine (lowest faulty n)).1 (f (lowest faulty n) l));
        }
        go (no l) = record { when = (λ h i k. (fine i).0 (none_faulty l i k), λ f. ap number_of (lowest_none l)) }

    pub lowest_exactly : (k : ℕ) {Faulty : ℕ → Type 0} → ((i : ℕ) → (fault i ≡ suc k) ↔ Faulty i)
        → Exactly (at_lowest n fault) (suc k) (LowestFaulty n Fine Faulty)
    lowest_exactly k {Faulty} bad = record { when = λ i. (told i, tells i) }
      where
        told : (i : ℕ) → at_lowest n fault ≡ refuse (suc k) i → LowestFaulty n Fine Faulty i
        told i h = go (dec_lt (lowest faulty n) n)
          where
            go : Dec (lowest faulty n < n) → LowestFaulty n Fine Faulty i
            go (yes l) =
                let r = sym (lowest_there l) ∙ h in
                let at : lowest faulty n ≡ i = ap (λ (r : Refusal). r.node) r in
                subst (LowestFaulty n Fine Faulty) at (record { exists = l; here = (bad (lowest faulty n)).0 (ap number_of r); below = λ j m. (fine j).0 (fine_below j m) })
            go (no l) = absurd (omega (arith, ap number_of (sym (lowest_none l) ∙ h)))

        tells : (i : ℕ) → LowestFaulty n Fine Faulty i → at_lowest n fault ≡ refuse (suc k) i
        tells i f = lowest_there l ∙ refuse_path (ap fault at ∙ (bad i).1 f.here) at
          where
            at : lowest faulty n ≡ i
            at = lowest_only faulty n i (record {
              after = omega arith;
              within = omega (arith, f.exists);
              passes = λ l. lt-ltb 0 (fault i) (omega (arith, (bad i).1 f.here));
              before = λ j a b. le-ltb 0 (fault j) (omega (arith, (fine j).1 (f.below j b)));
            })

            l : lowest faulty n < n
            l = omega (arith, at, f.exists)

-- a test node by node is done exactly when no node has a fault
module _ (n : ℕ) (fault : ℕ → ℕ) where
  none_when : Passed (at_lowest n fault) ((i : ℕ) → i < n → fault i ≡ 0)
  none_when = lowest_passed n fault {Fine = λ i. fault i ≡ 0} (λ i. (λ e. e, λ e. e))

  pub no_fault : is_done (at_lowest n fault) ≡ true → (i : ℕ) → i < n → fault i ≡ 0
  no_fault h = none_when.when.0 (eqb-true (at_lowest n fault).number 0 h)

  pub all_done : ((i : ℕ) → i < n → fault i ≡ 0) → is_done (at_lowest n fault) ≡ true
  all_done h = eq-eqb (at_lowest n fault).number 0 (none_when.when.1 h)

-- ---- a number in a row: the test that says it stands first, stands later, or two tests say it
module _ {r s : Refusal} {n : ℕ} where
  pub here : {a : List ℕ} {P : ℕ → Type 0} → Exactly r (suc n) P → Says s a → is_in (suc n) (0 ∷ a) ≡ false → Exactly (r then s) (suc n) P
  here {P = P} e q other = record {
    when = λ i. by_first r s (λ x. (x ≡ refuse (suc n) i) ↔ P i)
        (λ z. (λ h. absurd (never q (suc n) other (ap number_of h)), λ p. absurd (omega (arith, z, ap number_of ((e.when i).1 p)))))
        (λ z. e.when i);
  }

  pub skip : {a : List ℕ} {P : ℕ → Type 0} {Q : Type 0} → Says r a → is_in (suc n) (0 ∷ a) ≡ false → Passed r Q → Exactly s (suc n) P
      → Exactly (r then s) (suc n) (λ i. Q × P i)
  skip {P = P} {Q = Q} p other pass e = record {
    when = λ i. by_first r s (λ x. (x ≡ refuse (suc n) i) ↔ (Q × P i))
        (λ z. (λ h. (pass.when.0 z, (e.when i).0 h), λ f. (e.when i).1 f.1))
        (λ z. (λ h. absurd (never p (suc n) other (ap number_of h)), λ f. absurd (z (pass.when.1 f.0))));
  }

  pub either : {P P' : ℕ → Type 0} {Q : Type 0} → Exactly r (suc n) P → Passed r Q → Exactly s (suc n) P'
      → Exactly (r then s) (suc n) (λ i. P i ⊎ (Q × P' i))
  either {P = P} {P' = P'} {Q = Q} e pass e' = record {
    when = λ i. by_first r s (λ x. (x ≡ refuse (suc n) i) ↔ (P i ⊎ (Q × P' i)))
        (λ z. (λ h. inr (pass.when.0 z, (e'.when i).0 h), ⊎_elim (λ p. absurd (omega (arith, z, ap number_of ((e.when i).1 p)))) (λ f. (e'.when i).1 f.1)))
        (λ z. (λ h. inl ((e.when i).0 h), ⊎_elim (λ p. (e.when i).1 p) (λ f. absurd (z (pass.when.1 f.0)))));
  }

pub both_passed : {r s : Refusal} {P Q : Type 0} → Passed r P → Passed s Q → Passed (r then s) (P × Q)
both_passed {r} {s} {P} {Q} p q = record {
  when = by_first r s (λ x. (x.number ≡ 0) ↔ (P × Q))
      (λ z. (λ h. (p.when.0 z, q.when.0 h), λ f. q.when.1 f.1)) (λ z. (λ h. absurd (z h), λ f. absurd (z (p.when.1 f.0))));
}

-- ---- number 0 names no node: a row that is 0 is done
pub record ZeroDone (r : Refusal) : Type 0 where
  pub is : r.number ≡ 0 → r ≡ done

pub require_zero : (test : Bool) (n : ℕ) → ZeroDone (require test (suc n))
require_zero true n = record { is = λ h. refl }
require_zero false n = record { is = λ h. absurd (omega arith) }

pub lowest_zero : (n : ℕ) (fault : ℕ → ℕ) → ZeroDone (at_lowest n fault)
lowest_zero n fault = elim (dec_lt (lowest (faulty n fault) n) n) [
  | yes l ↦ record {
    is = λ h. absurd (omega (arith, ap number_of (lowest_there n fault l), ltb-true 0 (fault (lowest (faulty n fault) n)) ((found n fault).passes l)));
  }
  | no l ↦ record { is = λ h. lowest_none n fault l }
]

pub then_zero : {r s : Refusal} → ZeroDone r → ZeroDone s → ZeroDone (r then s)
then_zero {r} {s} p q = record { is = by_first r s (λ x. x.number ≡ 0 → x ≡ done) (λ z. q.is) (λ z. p.is) }

-- an outcome that carries `done` where the row is done, and else the row's refusal, carries the row's refusal
pub carries : {A : Type 0} (refusal : A → Refusal) (r : Refusal) (answered refused : A) → ZeroDone r
    → refusal answered ≡ done → refusal refused ≡ r → refusal (cond (is_done r) answered refused) ≡ r
carries refusal r answered refused z a b = go (is_done r) refl
  where
    go : (t : Bool) → is_done r ≡ t → refusal (cond (is_done r) answered refused) ≡ r
    go true e = rw e (a ∙ sym (z.is (eqb-true r.number 0 e)))
    go false e = rw e b
