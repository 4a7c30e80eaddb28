-- Every assignment of a list of variables has a number, and answers are the same exactly if the test says so.
use Rattle.std.specs.Prelude.{ℕ, zero, suc, ◌+◌, ◌*◌, ◌/◌, ◌%◌, ◌^◌, ◌<◌, ◌≡◌, refl, List, ◌∷◌, ◌++◌, [], Bool, true, false, cond, ◌&&◌, ◌||◌, length, ltb, eqb}
use Rattle.std.proofs.Common.{zero-le, sym, ap, ap₂, ◌∙◌, subst, pow-suc, arith, length-append, add-one, eqb-true, eq-eqb, ne_eqb, lt-ltb, le-ltb}
use Rattle.std.proofs.Math.Path.{fun_ext}
use Rattle.std.proofs.Math.Bool.{or-true, false-or, or-false, or_assoc, and-true, and-false}
use Rattle.std.proofs.Math.Decide.{dec_lt}
use Rattle.meaning.specs.declared.Failure.{Failure}
use Rattle.meaning.specs.declared.Failure.TheVariants.{Undriven, DontCare, Register, Argument}
use Rattle.meaning.specs.declared.Answer.{Answer}
use Rattle.meaning.specs.declared.Answer.TheVariants.{Value, Failed}
use Rattle.meaning.proofs.Laws.BoolLaws.{true_false, and_left, and_right, and_both}
use Rattle.meaning.specs.Rules.Answers.{Assignment, failure_number}
use Rattle.meaning.specs.Rules.Assignments.{select, drive, upto, Assigns, is_in}
use Rattle.meaning.specs.Rules.Comparison.{same_answer}

-- ---- `same_answer` decides equality of answers
failure_eq : (f g : Failure) → failure_number f ≡ failure_number g → f ≡ g
failure_eq Undriven Undriven h = refl
failure_eq Undriven DontCare h = absurd (omega arith)
failure_eq Undriven Register h = absurd (omega arith)
failure_eq Undriven Argument h = absurd (omega arith)
failure_eq DontCare Undriven h = absurd (omega arith)
failure_eq DontCare DontCare h = refl
failure_eq DontCare Register h = absurd (omega arith)
failure_eq DontCare Argument h = absurd (omega arith)
failure_eq Register Undriven h = absurd (omega arith)
failure_eq Register DontCare h = absurd (omega arith)
failure_eq Register Register h = refl
failure_eq Register Argument h = absurd (omega arith)
failure_eq Argument Undriven h = absurd (omega arith)
failure_eq Argument DontCare h = absurd (omega arith)
failure_eq Argument Register h = absurd (omega arith)
failure_eq Argument Argument h = refl

pub same_answer_eq : (x y : Answer) → same_answer x y ≡ true → x ≡ y
same_answer_eq (Value w x) (Value u y) h =
    ap₂ Value (eqb-true w u (and_left (eqb w u) (eqb x y) h)) (eqb-true x y (and_right (eqb w u) (eqb x y) h))
same_answer_eq (Value w x) (Failed g) h = absurd (true_false h refl)
same_answer_eq (Failed f) (Value u y) h = absurd (true_false h refl)
same_answer_eq (Failed f) (Failed g) h = ap Failed (failure_eq f g (eqb-true (failure_number f) (failure_number g) h))

pub same_answer_refl : (x : Answer) → same_answer x x ≡ true
same_answer_refl (Value w x) = and_both (eqb w w) (eqb x x) (eq-eqb w w refl) (eq-eqb x x refl)
same_answer_refl (Failed f) = eq-eqb (failure_number f) (failure_number f) refl

pub eq_same_answer : (x y : Answer) → x ≡ y → same_answer x y ≡ true
eq_same_answer x y e = subst (λ (z : Answer). same_answer x z ≡ true) e (same_answer_refl x)

-- ---- assignments and their numbers

drive_hit : (x : ℕ) (xs : List ℕ) (i v : ℕ) → eqb v x ≡ true → drive (x ∷ xs) i v ≡ i % 2
drive_hit x xs i v h = rw h

drive_on : (x : ℕ) (xs : List ℕ) (i v : ℕ) → eqb v x ≡ false → drive (x ∷ xs) i v ≡ drive xs (i / 2) v
drive_on x xs i v h = rw h

pub drive_bit : (vs : List ℕ) (i v : ℕ) → is_in v vs ≡ true → drive vs i v < 2
drive_bit [] i v h = absurd (true_false h refl)
drive_bit (x ∷ xs) i v h = go (eqb v x) refl (drive_bit xs (i / 2) v)
  where
    go : (b : Bool) → eqb v x ≡ b → (is_in v xs ≡ true → drive xs (i / 2) v < 2) → drive (x ∷ xs) i v < 2
    go true e ih = rw (drive_hit x xs i v e) (omega arith)
    go false e ih = rw (drive_on x xs i v e) (ih (rw e at h))

pub drive_other : (vs : List ℕ) (i v : ℕ) → is_in v vs ≡ false → drive vs i v ≡ 2
drive_other [] i v h = refl
drive_other (x ∷ xs) i v h = go (eqb v x) refl (drive_other xs (i / 2) v)
  where
    go : (b : Bool) → eqb v x ≡ b → (is_in v xs ≡ false → drive xs (i / 2) v ≡ 2) → drive (x ∷ xs) i v ≡ 2
    go true e ih = absurd (true_false (rw e) h)
    go false e ih = rw (drive_on x xs i v e) (ih (rw e at h))

pub drive_assigns : (vs : List ℕ) (i : ℕ) → Assigns vs (drive vs i)
drive_assigns vs i = record { on = drive_bit vs i; off = drive_other vs i }

-- the number of an assignment: bit j is the byte of the j-th variable
abbrev pub number : List ℕ → Assignment → ℕ
number [] α = 0
number (x ∷ xs) α = number xs α * 2 + α x

in_head : (x : ℕ) (xs : List ℕ) → is_in x (x ∷ xs) ≡ true
in_head x xs = rw (eq-eqb x x refl)

in_tail : (v x : ℕ) (xs : List ℕ) → is_in v xs ≡ true → is_in v (x ∷ xs) ≡ true
in_tail v x xs h = rw h (or-true (eqb v x))

pub number_lt : (vs : List ℕ) (α : Assignment) → ((v : ℕ) → is_in v vs ≡ true → α v < 2) → number vs α < 2 ^ length vs
number_lt [] α h = omega arith
number_lt (x ∷ xs) α h =
    rw (pow-suc 2 (length xs)) (omega (arith, number_lt xs α (λ v k. h v (in_tail v x xs k)), h x (in_head x xs)))

pub drive_number : (vs : List ℕ) (α : Assignment) → ((v : ℕ) → is_in v vs ≡ true → α v < 2)
    → (v : ℕ) → is_in v vs ≡ true → drive vs (number vs α) v ≡ α v
drive_number [] α h v e = absurd (true_false e refl)
drive_number (x ∷ xs) α h v e = go (eqb v x) refl (drive_number xs α (λ u k. h u (in_tail u x xs k)) v)
  where
    bit : α x < 2
    bit = h x (in_head x xs)

    go : (b : Bool) → eqb v x ≡ b → (is_in v xs ≡ true → drive xs (number xs α) v ≡ α v)
        → drive (x ∷ xs) (number (x ∷ xs) α) v ≡ α v
    go true k ih =
        drive_hit x xs (number (x ∷ xs) α) v k ∙ (omega (arith, bit)) ∙ ap α (sym (eqb-true v x k))
    go false k ih =
        drive_on x xs (number (x ∷ xs) α) v k ∙ ap (λ (i : ℕ). drive xs i v) (omega (arith, bit)) ∙ ih (rw k at e)

-- every assignment of vs is the assignment of its number
pub assigns_number : (vs : List ℕ) (α : Assignment) → Assigns vs α → drive vs (number vs α) ≡ α
assigns_number vs α a = fun_ext (λ v. go v (is_in v vs) refl)
  where
    go : (v : ℕ) (b : Bool) → is_in v vs ≡ b → drive vs (number vs α) v ≡ α v
    go v true e = drive_number vs α a.on v e
    go v false e = drive_other vs (number vs α) v e ∙ sym (a.off v e)

-- ---- the variables below n
pub in_append : (v : ℕ) (xs ys : List ℕ) → is_in v (xs ++ ys) ≡ (is_in v xs || is_in v ys)
in_append v [] ys = sym (false-or (is_in v ys))
in_append v (x ∷ xs) ys = rw (in_append v xs ys) (sym (or_assoc (eqb v x) (is_in v xs) (is_in v ys)))

in_last : (b : Bool) (n v : ℕ) → is_in v (cond b (n ∷ []) []) ≡ (eqb v n && b)
in_last true n v = or-false (eqb v n) ∙ sym (and-true (eqb v n))
in_last false n v = sym (and-false (eqb v n))

-- the numbers below n that pass
pub in_select : (p : ℕ → Bool) (n v : ℕ) → is_in v (select p n) ≡ (ltb v n && p v)
in_select p zero v = sym (ap (λ (b : Bool). b && p v) (le-ltb v 0 zero-le))
in_select p (suc n) v = in_append v (select p n) _ ∙ rw (in_select p n v, in_last (p n) n v) (go (dec_lt v n) (dec_lt n v))
  where
    go : Dec (v < n) → Dec (n < v) → ((ltb v n && p v) || (eqb v n && p n)) ≡ (ltb v (suc n) && p v)
    go (yes h) d = rw (lt-ltb v n h, ne_eqb v n (λ e. omega arith), lt-ltb v (suc n) (omega arith)) (or-false (p v))
    go (no h) (yes k) = rw (le-ltb v n (omega arith), ne_eqb v n (λ e. omega arith), le-ltb v (suc n) (omega arith)) refl
    go (no h) (no k) =
        let e : v ≡ n = omega arith in
        rw (le-ltb v n (omega arith), eq-eqb v n e, lt-ltb v (suc n) (omega arith)) (ap p (sym e))

pub in_upto : (n v : ℕ) → is_in v (upto n) ≡ ltb v n
in_upto n v = in_select (λ v. true) n v ∙ and-true (ltb v n)

pub upto_length : (n : ℕ) → length (upto n) ≡ n
upto_length zero = refl
upto_length (suc n) = length-append (upto n) (n ∷ []) ∙ rw (upto_length n, add-one)
