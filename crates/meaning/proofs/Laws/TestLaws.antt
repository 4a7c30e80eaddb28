-- Tests and what they test: each Bool test of a rule as the statement that it stands for, true and false.
use Rattle.std.specs.Prelude.{ℕ, zero, suc, ◌+◌, ◌/◌, ◌%◌, ◌^◌, ◌≤◌, ◌<◌, ◌≡◌, refl, ◌↔◌, ◌⊎◌, ◌≢◌, List, [], ◌∷◌, Bool, true, false, cond, not, ◌&&◌, ◌||◌, length, get_or, ltb, leb, eqb}
use Rattle.std.proofs.Common.{sym, ap, ◌∙◌, inl, inr, ⊎_elim, arith, pow-suc, one-mul, le-div_iff_mul-le, shr-shr, pow_pos, eqb-true, eq-eqb, ne_eqb, lt-ltb, le-ltb, ltb-true, ltb-false, leb-true, leb-false, le-leb}
use Rattle.std.proofs.Math.Bool.{or-true}
use Rattle.std.proofs.Math.Decide.{dec_lt}
use Rattle.std.proofs.lemmas.Bool.{eqb-false, lt-leb}
use Rattle.meaning.specs.Rules.Words.{bit_at}
use Rattle.meaning.specs.Rules.Search.{lowest}
use Rattle.meaning.specs.Rules.Numbers.{unknown_kind, bad_layout, bad_child}
use Rattle.meaning.specs.Rules.Trees.{Tree, same}
use Rattle.meaning.specs.Rules.Refusals.{every}
use Rattle.meaning.specs.Rules.Assignments.{is_in}
use Rattle.meaning.proofs.Laws.WordLaws.{bit_above}
use Rattle.meaning.proofs.Laws.BoolLaws.{true_false, not_true, and_left, and_right, and_both, or_cases, or_left_false, or_right_false}
use Rattle.meaning.proofs.Laws.TreeLaws.{same_eq, eq_same}
use Rattle.meaning.proofs.Laws.SearchLaws.{lowest_is, lowest_only}

-- ---- numbers
pub is_eq : (a b : ℕ) → (eqb a b ≡ true) ↔ (a ≡ b)
is_eq a b = (eqb-true a b, eq-eqb a b)

pub is_ne : (a b : ℕ) → (eqb a b ≡ false) ↔ (a ≢ b)
is_ne a b = (eqb-false a b, ne_eqb a b)

pub is_le : (a b : ℕ) → (leb a b ≡ true) ↔ (a ≤ b)
is_le a b = (leb-true a b, le-leb a b)

pub is_above : (a b : ℕ) → (leb a b ≡ false) ↔ (b < a)
is_above a b = (leb-false a b, lt-leb a b)

pub is_lt : (a b : ℕ) → (ltb a b ≡ true) ↔ (a < b)
is_lt a b = (ltb-true a b, lt-ltb a b)

pub is_from : (a b : ℕ) → (ltb a b ≡ false) ↔ (b ≤ a)
is_from a b = (ltb-false a b, le-ltb a b)

-- ---- both of two tests, and one of them failing
pub both : {p q : Bool} {P Q : Type 0} → ((p ≡ true) ↔ P) → ((q ≡ true) ↔ Q) → ((p && q) ≡ true) ↔ (P × Q)
both {p} {q} e f = (λ h. (e.0 (and_left p q h), f.0 (and_right p q h)), λ r. and_both p q (e.1 r.0) (f.1 r.1))

and_fails : (p q : Bool) → (p && q) ≡ false → (p ≡ false) ⊎ (q ≡ false)
and_fails true q h = inr h
and_fails false q h = inl refl

fails_and : (p q : Bool) → (p ≡ false) ⊎ (q ≡ false) → (p && q) ≡ false
fails_and true q (inl h) = absurd (true_false refl h)
fails_and true q (inr h) = h
fails_and false q h = refl

pub one_fails : {p q : Bool} {P Q : Type 0} → ((p ≡ false) ↔ P) → ((q ≡ false) ↔ Q) → ((p && q) ≡ false) ↔ (P ⊎ Q)
one_fails {p} {q} e f = (
  λ h. ⊎_elim (λ a. inl (e.0 a)) (λ b. inr (f.0 b)) (and_fails p q h),
  λ r. fails_and p q (⊎_elim (λ a. inl (e.1 a)) (λ b. inr (f.1 b)) r),
)

-- of nodes that count: one that counts and is faulty, and one that is fine if it counts
pub counts_and : (p q : Bool) → ((p && q) ≡ true) ↔ ((p ≡ true) × (q ≡ true))
counts_and p q = (λ h. (and_left p q h, and_right p q h), λ r. and_both p q r.0 r.1)

pub fine_if : (p q : Bool) → ((p && q) ≡ false) ↔ (p ≡ true → q ≡ false)
fine_if true q = (λ h k. h, λ f. f refl)
fine_if false q = (λ h k. absurd (true_false k refl), λ f. refl)

-- ---- every element of a list, whatever it is a list of
pub every_nth : {A : Type 0} (none : A) (p : A → Bool) (xs : List A) (i : ℕ) → every p xs ≡ true → i < length xs → p (get_or xs i none) ≡ true
every_nth none p [] i h l = absurd (omega arith)
every_nth none p (x ∷ xs) zero h l = and_left (p x) (every p xs) h
every_nth none p (x ∷ xs) (suc i) h l = every_nth none p xs i (and_right (p x) (every p xs) h) (omega arith)

-- ---- of a test that stands for P: true of every element, or false of one
module _ (p : ℕ → Bool) {P : ℕ → Type 0} where
  every_at : ((x : ℕ) → (p x ≡ true) ↔ P x) → (xs : List ℕ) → every p xs ≡ true → (j : ℕ) → j < length xs → P (get_or xs j 0)
  every_at e xs h j l = (e (get_or xs j 0)).0 (every_nth 0 p xs j h l)

  at_every : ((x : ℕ) → (p x ≡ true) ↔ P x) → (xs : List ℕ) → ((j : ℕ) → j < length xs → P (get_or xs j 0)) → every p xs ≡ true
  at_every e [] f = refl
  at_every e (x ∷ xs) f = and_both (p x) (every p xs) ((e x).1 (f 0 (omega arith))) (at_every e xs (λ j l. f (suc j) (omega arith)))

  pub every_is : ((x : ℕ) → (p x ≡ true) ↔ P x) → (xs : List ℕ) → (every p xs ≡ true) ↔ ((j : ℕ) → j < length xs → P (get_or xs j 0))
  every_is e xs = (every_at e xs, at_every e xs)

  fails_at : ((x : ℕ) → (p x ≡ false) ↔ P x) → (xs : List ℕ) → every p xs ≡ false → (j : ℕ) × (j < length xs) × P (get_or xs j 0)
  fails_at e [] h = absurd (true_false refl h)
  fails_at e (x ∷ xs) h =
      ⊎_elim (λ k. (0, omega arith, (e x).0 k)) (λ k. let r = fails_at e xs k in (suc r.0, omega (arith, r.1), r.2)) (and_fails (p x) (every p xs) h)

  at_fails : ((x : ℕ) → (p x ≡ false) ↔ P x) → (xs : List ℕ) (j : ℕ) → j < length xs → P (get_or xs j 0) → every p xs ≡ false
  at_fails e [] j l h = absurd (omega arith)
  at_fails e (x ∷ xs) zero l h = fails_and (p x) (every p xs) (inl ((e x).1 h))
  at_fails e (x ∷ xs) (suc j) l h = fails_and (p x) (every p xs) (inr (at_fails e xs j (omega arith) h))

  pub every_fails : ((x : ℕ) → (p x ≡ false) ↔ P x) → (xs : List ℕ) → (every p xs ≡ false) ↔ ((j : ℕ) × (j < length xs) × P (get_or xs j 0))
  every_fails e xs = (fails_at e xs, λ f. at_fails e xs f.0 f.1 f.2)

  -- none of the numbers below n passes, or one does
  pub none_is : ((i : ℕ) → (p i ≡ false) ↔ P i) → (n : ℕ) → (eqb (lowest p n) n ≡ true) ↔ ((i : ℕ) → i < n → P i)
  none_is e n = (
    λ h i l. (e i).0 ((lowest_is p n).before i (omega arith) (omega (arith, eqb-true (lowest p n) n h))),
    λ f. eq-eqb (lowest p n) n (lowest_only p n n (record { after = omega arith; within = omega arith; passes = λ l. absurd (omega arith); before = λ j a b. (e j).1 (f j b) })),
  )

  pub one_is : ((i : ℕ) → (p i ≡ true) ↔ P i) → (n : ℕ) → (eqb (lowest p n) n ≡ false) ↔ ((i : ℕ) × (i < n) × P i)
  one_is e n = (
    λ h. let l : lowest p n < n = omega (arith, (lowest_is p n).within, eqb-false (lowest p n) n h) in (lowest p n, l, (e (lowest p n)).0 ((lowest_is p n).passes l)),
    λ f. ne_eqb (lowest p n) n (λ q. true_false ((e f.0).1 f.2) ((lowest_is p n).before f.0 (omega arith) (omega (arith, q, f.1)))),
  )

-- ---- a word of 2 ^ n or more has a bit at n or above, and no other has
some_bit : (fuel x : ℕ) → x < 2 ^ fuel → 0 < x → (j : ℕ) × (bit_at x j ≡ 1)
some_bit zero x h l = absurd (omega arith)
some_bit (suc fuel) x h l = elim (dec_lt 0 (x % 2)) [
  | yes k ↦ (0, omega arith)
  | no k ↦
      let small : x / 2 < 2 ^ fuel = omega (arith, pow-suc 2 fuel) in
      let r = some_bit fuel (x / 2) small (omega arith) in
      let e : 1 + r.0 ≡ suc r.0 = omega arith in
      (suc r.0, ap (λ (y : ℕ). y % 2) (rw (← e) (sym (shr-shr x 1 r.0))) ∙ r.1)
]

below_power : (x : ℕ) → x < 2 ^ x
below_power zero = omega arith
below_power (suc x) = omega (arith, pow-suc 2 x, below_power x)

pub high_bit : (x n : ℕ) → (ltb x (2 ^ n) ≡ false) ↔ ((v : ℕ) × (n ≤ v) × (bit_at x v ≡ 1))
high_bit x n = (λ h. up h, λ f. le-ltb x (2 ^ n) (back f.0 f.1 f.2))
  where
    up : ltb x (2 ^ n) ≡ false → (v : ℕ) × (n ≤ v) × (bit_at x v ≡ 1)
    up h =
        let large : 2 ^ n ≤ x = ltb-false x (2 ^ n) h in
        let some : 0 < x / 2 ^ n = (le-div_iff_mul-le (pow_pos n)).1 (omega (arith, one-mul (2 ^ n))) in
        let r = some_bit (x / 2 ^ n) (x / 2 ^ n) (below_power (x / 2 ^ n)) some in
        (n + r.0, omega arith, ap (λ (y : ℕ). y % 2) (sym (shr-shr x n r.0)) ∙ r.1)

    back : (v : ℕ) → n ≤ v → bit_at x v ≡ 1 → 2 ^ n ≤ x
    back v l e = elim (dec_lt x (2 ^ n)) [
      | yes k ↦ absurd (omega (arith, e, bit_above x n v k l))
      | no k ↦ omega arith
    ]

-- ---- numbers that a fault stands for
pub flagged : (b : Bool) (k : ℕ) → (cond b (suc k) 0 ≡ suc k) ↔ (b ≡ true)
flagged true k = (λ h. refl, λ h. refl)
flagged false k = (λ h. absurd (omega arith), λ h. absurd (true_false h refl))

pub unflagged : (b : Bool) (k : ℕ) → (cond b (suc k) 0 ≡ 0) ↔ (b ≡ false)
unflagged true k = (λ h. absurd (omega arith), λ h. absurd (true_false refl h))
unflagged false k = (λ h. refl, λ h. refl)

pub flag_says : (b : Bool) (k : ℕ) → is_in (cond b k 0) (0 ∷ k ∷ []) ≡ true
flag_says true k = rw (eq-eqb k k refl) (or-true (eqb k 0))
flag_says false k = refl

-- "lowest number if it has two": the first of three tests that fails
abbrev graded : Bool → Bool → Bool → ℕ
graded a b c = cond a unknown_kind (cond (not b) bad_layout (cond (not c) bad_child 0))

pub graded_says : (a b c : Bool) → is_in (graded a b c) (0 ∷ 3 ∷ 4 ∷ 5 ∷ []) ≡ true
graded_says true b c = refl
graded_says false false c = refl
graded_says false true false = refl
graded_says false true true = refl

pub graded_none : {P Q : Type 0} (a b c : Bool) → ((a ≡ false) ↔ P) → ((c ≡ true) ↔ Q) → (graded a b c ≡ 0) ↔ (P × (b ≡ true) × Q)
graded_none true b c e f = (λ h. absurd (omega arith), λ r. absurd (true_false refl (e.1 r.0)))
graded_none false false c e f = (λ h. absurd (omega arith), λ r. absurd (true_false r.1 refl))
graded_none false true false e f = (λ h. absurd (omega arith), λ r. absurd (true_false (f.1 r.2) refl))
graded_none false true true e f = (λ h. (e.0 refl, refl, f.0 refl), λ r. refl)

pub graded_first : {P : Type 0} (a b c : Bool) → ((a ≡ true) ↔ P) → (graded a b c ≡ 3) ↔ P
graded_first true b c e = (λ h. e.0 refl, λ r. refl)
graded_first false false c e = (λ h. absurd (omega arith), λ r. absurd (true_false (e.1 r) refl))
graded_first false true false e = (λ h. absurd (omega arith), λ r. absurd (true_false (e.1 r) refl))
graded_first false true true e = (λ h. absurd (omega arith), λ r. absurd (true_false (e.1 r) refl))

pub graded_second : {P : Type 0} (a b c : Bool) → ((a ≡ false) ↔ P) → (graded a b c ≡ 4) ↔ (P × (b ≡ false))
graded_second true b c e = (λ h. absurd (omega arith), λ r. absurd (true_false refl (e.1 r.0)))
graded_second false false c e = (λ h. (e.0 refl, refl), λ r. refl)
graded_second false true false e = (λ h. absurd (omega arith), λ r. absurd (true_false refl r.1))
graded_second false true true e = (λ h. absurd (omega arith), λ r. absurd (true_false refl r.1))

pub graded_third : {P Q : Type 0} (a b c : Bool) → ((a ≡ false) ↔ P) → ((c ≡ false) ↔ Q) → (graded a b c ≡ 5) ↔ (P × (b ≡ true) × Q)
graded_third true b c e f = (λ h. absurd (omega arith), λ r. absurd (true_false refl (e.1 r.0)))
graded_third false false c e f = (λ h. absurd (omega arith), λ r. absurd (true_false r.1 refl))
graded_third false true false e f = (λ h. (e.0 refl, refl, f.0 refl), λ r. refl)
graded_third false true true e f = (λ h. absurd (omega arith), λ r. absurd (true_false refl (f.1 r.2)))

-- ---- trees, and one of two tests
pub same_is : (t u : Tree) → (same t u ≡ true) ↔ (t ≡ u)
same_is t u = (same_eq t u, eq_same t u)

pub same_not : (t u : Tree) → (same t u ≡ false) ↔ (t ≢ u)
same_not t u = (λ h e. true_false (eq_same t u e) h, λ h. not_true (same t u) (λ s. h (same_eq t u s)))

pub one_of : {p q : Bool} {P Q : Type 0} → ((p ≡ true) ↔ P) → ((q ≡ true) ↔ Q) → ((p || q) ≡ true) ↔ (P ⊎ Q)
one_of {p} {q} e f = (
  λ h. ⊎_elim (λ a. inl (e.0 a)) (λ b. inr (f.0 b)) (or_cases p q h),
  λ r. ⊎_elim (λ a. rw (e.1 a) refl) (λ b. rw (f.1 b) (or-true p)) r,
)

pub neither_of : (p q : Bool) → p ≡ false → q ≡ false → (p || q) ≡ false
neither_of p q h k = rw (h, k)

pub neither : {p q : Bool} {P Q : Type 0} → ((p ≡ false) ↔ P) → ((q ≡ false) ↔ Q) → ((p || q) ≡ false) ↔ (P × Q)
neither {p} {q} e f = (λ h. (e.0 (or_left_false p q h), f.0 (or_right_false p q h)), λ r. neither_of p q (e.1 r.0) (f.1 r.1))
