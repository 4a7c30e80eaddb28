-- Kinds and their words: the kinds that a range of words stands for, those that one word alone stands for, and what a
-- rule that asks for a word says of the kind.
use Rattle.std.specs.Prelude.{ℕ, zero, suc, ◌+◌, ◌-◌, ◌≤◌, ◌<◌, ◌≡◌, refl, List, [], ◌∷◌, true, get_or, ltb, leb, eqb}
use Rattle.std.proofs.Common.{subst, arith, leb-true, lt-ltb, le-ltb, ne_eqb}
use Rattle.std.proofs.Math.ListN.{get_or-eq_default}
use Rattle.meaning.specs.Rules.Kinds.{Kind, Const, Program, DC, Var, Nor, Mux, And, Xor, Not, Lut, Bus, Reg, Arg, Cycle, Unknown, kinds, kind_of, variable_word, lut_word, cycle_word, has_children, is_gate}
use Rattle.meaning.specs.Rules.Refusals.{every}
use Rattle.meaning.proofs.Laws.BoolLaws.{and_left, and_right}

-- ---- the four registers, and everything above 16
from_eleven : (j : ℕ) → j < 4 → kind_of (11 + j) ≡ Reg
from_eleven zero h = refl
from_eleven (suc zero) h = refl
from_eleven (suc (suc zero)) h = refl
from_eleven (suc (suc (suc zero))) h = refl
from_eleven (suc (suc (suc (suc j)))) h = absurd (omega arith)

pub register_kind : (k : ℕ) → 11 ≤ k → k ≤ 14 → kind_of k ≡ Reg
register_kind k h l =
    let e : 11 + (k - 11) ≡ k = omega arith in
    subst (λ (x : ℕ). kind_of x ≡ Reg) e (from_eleven (k - 11) (omega arith))

pub unknown_kind : (k : ℕ) → 16 < k → kind_of k ≡ Unknown
unknown_kind k h = get_or-eq_default kinds Unknown h

-- ---- a kind that stands once in the order of kinds has one word

-- the first word of each kind; the registers have four
abbrev pub word_of : Kind → ℕ
word_of Const = 0
word_of Program = 1
word_of DC = 2
word_of Var = 3
word_of Nor = 4
word_of Mux = 5
word_of And = 6
word_of Xor = 7
word_of Not = 8
word_of Lut = 9
word_of Bus = 10
word_of Reg = 11
word_of Arg = 15
word_of Cycle = 16
word_of Unknown = 17

-- from the registers on
late : (ks : List Kind) → every (λ k. leb 11 (word_of k)) ks ≡ true → (i : ℕ) → leb 11 (word_of (get_or ks i Unknown)) ≡ true
late [] h i = refl
late (k ∷ ks) h zero = and_left (leb 11 (word_of k)) (every (λ k. leb 11 (word_of k)) ks) h
late (k ∷ ks) h (suc i) = late ks (and_right (leb 11 (word_of k)) (every (λ k. leb 11 (word_of k)) ks) h) i

-- before them, the word is the kind's own
pub kind_word : (k : ℕ) → word_of (kind_of k) < 11 → k ≡ word_of (kind_of k)
kind_word zero h = refl
kind_word (suc zero) h = refl
kind_word (suc (suc zero)) h = refl
kind_word (suc (suc (suc zero))) h = refl
kind_word (suc (suc (suc (suc zero)))) h = refl
kind_word (suc (suc (suc (suc (suc zero))))) h = refl
kind_word (suc (suc (suc (suc (suc (suc zero)))))) h = refl
kind_word (suc (suc (suc (suc (suc (suc (suc zero))))))) h = refl
kind_word (suc (suc (suc (suc (suc (suc (suc (suc zero)))))))) h = refl
kind_word (suc (suc (suc (suc (suc (suc (suc (suc (suc zero))))))))) h = refl
kind_word (suc (suc (suc (suc (suc (suc (suc (suc (suc (suc zero)))))))))) h = refl
kind_word (suc (suc (suc (suc (suc (suc (suc (suc (suc (suc (suc k))))))))))) h =
    let above : 11 ≤ word_of (get_or (Reg ∷ Reg ∷ Reg ∷ Reg ∷ Arg ∷ Cycle ∷ []) k Unknown) = leb-true 11 (word_of (get_or (Reg ∷ Reg ∷ Reg ∷ Reg ∷ Arg ∷ Cycle ∷ []) k Unknown)) (late (Reg ∷ Reg ∷ Reg ∷ Reg ∷ Arg ∷ Cycle ∷ []) refl k) in
    absurd (omega (arith, above, h))

-- a test of a word that tells neither the registers nor the words above 16 apart is a test of the kind
pub asked_of_kind : {A : Type 0} (p : ℕ → A) → ((k : ℕ) → 11 ≤ k → k ≤ 14 → p k ≡ p 11) → ((k : ℕ) → 16 < k → p k ≡ p 17)
    → (k : ℕ) → p k ≡ p (word_of (kind_of k))
asked_of_kind p registers above zero = refl
asked_of_kind p registers above (suc zero) = refl
asked_of_kind p registers above (suc (suc zero)) = refl
asked_of_kind p registers above (suc (suc (suc zero))) = refl
asked_of_kind p registers above (suc (suc (suc (suc zero)))) = refl
asked_of_kind p registers above (suc (suc (suc (suc (suc zero))))) = refl
asked_of_kind p registers above (suc (suc (suc (suc (suc (suc zero)))))) = refl
asked_of_kind p registers above (suc (suc (suc (suc (suc (suc (suc zero))))))) = refl
asked_of_kind p registers above (suc (suc (suc (suc (suc (suc (suc (suc zero)))))))) = refl
asked_of_kind p registers above (suc (suc (suc (suc (suc (suc (suc (suc (suc zero))))))))) = refl
asked_of_kind p registers above (suc (suc (suc (suc (suc (suc (suc (suc (suc (suc zero)))))))))) = refl
asked_of_kind p registers above (suc (suc (suc (suc (suc (suc (suc (suc (suc (suc (suc zero))))))))))) = refl
asked_of_kind p registers above (suc (suc (suc (suc (suc (suc (suc (suc (suc (suc (suc (suc zero)))))))))))) = registers 12 (omega arith) (omega arith)
asked_of_kind p registers above (suc (suc (suc (suc (suc (suc (suc (suc (suc (suc (suc (suc (suc zero))))))))))))) = registers 13 (omega arith) (omega arith)
asked_of_kind p registers above (suc (suc (suc (suc (suc (suc (suc (suc (suc (suc (suc (suc (suc (suc zero)))))))))))))) = registers 14 (omega arith) (omega arith)
asked_of_kind p registers above (suc (suc (suc (suc (suc (suc (suc (suc (suc (suc (suc (suc (suc (suc (suc zero))))))))))))))) = refl
asked_of_kind p registers above (suc (suc (suc (suc (suc (suc (suc (suc (suc (suc (suc (suc (suc (suc (suc (suc zero)))))))))))))))) = refl
asked_of_kind p registers above (suc (suc (suc (suc (suc (suc (suc (suc (suc (suc (suc (suc (suc (suc (suc (suc (suc k))))))))))))))))) = above (suc (suc (suc (suc (suc (suc (suc (suc (suc (suc (suc (suc (suc (suc (suc (suc (suc k))))))))))))))))) (omega arith)

-- "kinds 4 to 16", "a kind above 16", "kinds 4 to 8"
pub parent_word : (k : ℕ) → has_children k ≡ has_children (word_of (kind_of k))
parent_word = asked_of_kind has_children (λ k h l. lt-ltb variable_word k (omega arith)) (λ k h. lt-ltb variable_word k (omega arith))

pub unknown_word : (k : ℕ) → ltb cycle_word k ≡ ltb cycle_word (word_of (kind_of k))
unknown_word = asked_of_kind (ltb cycle_word) (λ k h l. le-ltb cycle_word k (omega arith)) (λ k h. lt-ltb cycle_word k h)

pub gate_word : (k : ℕ) → is_gate k ≡ is_gate (word_of (kind_of k))
gate_word =
    asked_of_kind is_gate (λ k h l. rw (lt-ltb variable_word k (omega arith), le-ltb k lut_word (omega arith)))
    (λ k h. rw (lt-ltb variable_word k (omega arith), le-ltb k lut_word (omega arith)))

-- one word, of a kind that has no other
pub same_word : (w : ℕ) → w < 11 → (k : ℕ) → eqb k w ≡ eqb (word_of (kind_of k)) w
same_word w l =
    asked_of_kind (λ k. eqb k w) (λ k h m. rw (ne_eqb k w (λ e. omega arith), ne_eqb 11 w (λ e. omega arith)))
    (λ k h. rw (ne_eqb k w (λ e. omega arith), ne_eqb 17 w (λ e. omega arith)))

pub same_cycle : (k : ℕ) → eqb k cycle_word ≡ eqb (word_of (kind_of k)) cycle_word
same_cycle =
    asked_of_kind (λ k. eqb k cycle_word) (λ k h m. ne_eqb k cycle_word (λ e. omega arith)) (λ k h. ne_eqb k cycle_word (λ e. omega arith))
