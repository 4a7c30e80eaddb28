-- An accepted list without DC, register or ARG below the root has a root that is Made (`NfLaws`).
use Rattle.std.specs.Prelude.{ℕ, zero, suc, ◌+◌, ◌^◌, ◌≤◌, ◌<◌, ◌≡◌, refl, ◌∷◌, true, false, not, ◌&&◌, ◌||◌, length, drop, ltb}
use Rattle.std.proofs.Common.{sym, ap, subst, ◌∙◌, arith, lt-ltb, eqb-true, eq-eqb, leb-false, leb-true, ltb-false}
use Rattle.std.proofs.Math.Decide.{dec_lt}
use Rattle.meaning.specs.Rules.Limits.{most_operands, widest_bus}
use Rattle.meaning.specs.Rules.Kinds.{kind_of, may_have, is_plain}
use Rattle.meaning.proofs.Laws.BoolLaws.{true_false, and_left, and_right, not_is_false, or_left_false, or_right_false}
use Rattle.meaning.specs.Rules.Trees.{Tree, Forest, node, none, ◌◂◌, trees}
use Rattle.meaning.specs.Rules.Refusals.{every}
use Rattle.meaning.specs.Rules.Verification.{is_program, lut_wrong, wrong}
use Rattle.meaning.specs.Rules.Evaluable.{Shape, bit, bus, shape_code, is_bit, is_logic, same_shape, nth_shape, shape_step, shape, shapes, fits, alike}
use Rattle.meaning.proofs.Laws.NfLaws.{BitTree, BitForest, Made, const, var, nor, mux, and, xor, inv, lut, cycle, nothing, more, a_bit, a_bus, a_cycle}

-- ---- a tree is a Program, a bit or a bus
pub data Sorted (D : ℕ → Type 0) : Tree → Type 0 where
  a_program : {p : ℕ} → Sorted D (node 1 p none)
  is_a_bit : {t : Tree} → BitTree D t → Sorted D t
  is_a_bus : {t : Tree} {w : ℕ} → Made D t → shape t ≡ bus w → Sorted D t

pub data AllSorted (D : ℕ → Type 0) : Forest → Type 0 where
  empty : AllSorted D none
  and_then : {t : Tree} {ts : Forest} → Sorted D t → AllSorted D ts → AllSorted D (t ◂ ts)

module _ (D : ℕ → Type 0) where
  pub bit_shape : {t : Tree} → BitTree D t → shape t ≡ bit
  bit_shape (const h) = refl
  bit_shape (var h) = refl
  bit_shape (nor a b) = bit_shape a
  bit_shape (mux c a b) = bit_shape a
  bit_shape (and a b) = bit_shape a
  bit_shape (xor a b) = bit_shape a
  bit_shape (inv a) = bit_shape a
  bit_shape (lut l h a) = refl
  bit_shape (cycle a) = bit_shape a

  no_bit_bus : (w : ℕ) → is_bit (bus w) ≡ true → ⊥
  no_bit_bus w h = omega (arith, eqb-true (w + 2) 1 h)

  sorted_bit : {t : Tree} → Sorted D t → is_bit (shape t) ≡ true → BitTree D t
  sorted_bit a_program h = absurd (true_false h refl)
  sorted_bit (is_a_bit b) h = b
  sorted_bit (is_a_bus {w = w} m e) h = absurd (no_bit_bus w (subst (λ (s : Shape). is_bit s ≡ true) e h))

  same_bit : (s t : Shape) → is_bit s ≡ true → same_shape s t ≡ true → is_bit t ≡ true
  same_bit s t h k = eq-eqb (shape_code t) 1 (sym (eqb-true (shape_code s) (shape_code t) k) ∙ eqb-true (shape_code s) 1 h)

  binary : (k : ℕ) → ((x y : Tree) → BitTree D x → BitTree D y → BitTree D (node k 0 (x ◂ y ◂ none)))
      → {cs : Forest} → AllSorted D cs → length (trees cs) ≡ 2
      → alike (nth_shape (shapes cs) 0) (nth_shape (shapes cs) 1) ≡ true
      → is_bit (nth_shape (shapes cs) 0) ≡ true → Sorted D (node k 0 cs)
  binary k con empty e f g = absurd (omega arith)
  binary k con (and_then a empty) e f g = absurd (omega arith)
  binary k con (and_then {t = x} a (and_then {t = y} b empty)) e f g =
      is_a_bit (con x y (sorted_bit a g) (sorted_bit b (same_bit (shape x) (shape y) g (and_right (is_logic (shape x)) (same_shape (shape x) (shape y)) f))))
  binary k con (and_then a (and_then b (and_then c r))) e f g = absurd (omega arith)

  ternary : {cs : Forest} → AllSorted D cs → length (trees cs) ≡ 3
      → (is_bit (nth_shape (shapes cs) 0) && alike (nth_shape (shapes cs) 1) (nth_shape (shapes cs) 2)) ≡ true
      → is_bit (nth_shape (shapes cs) 1) ≡ true → Sorted D (node 5 0 cs)
  ternary empty e f g = absurd (omega arith)
  ternary (and_then a empty) e f g = absurd (omega arith)
  ternary (and_then a (and_then b empty)) e f g = absurd (omega arith)
  ternary (and_then {t = s} a (and_then {t = x} b (and_then {t = y} c empty))) e f g =
      let arms = and_right (is_bit (shape s)) (alike (shape x) (shape y)) f in
      is_a_bit (mux (sorted_bit a (and_left (is_bit (shape s)) (alike (shape x) (shape y)) f)) (sorted_bit b g)
      (sorted_bit c (same_bit (shape x) (shape y) g (and_right (is_logic (shape x)) (same_shape (shape x) (shape y)) arms))))
  ternary (and_then a (and_then b (and_then c (and_then r s)))) e f g = absurd (omega arith)

  unary : {cs : Forest} → AllSorted D cs → length (trees cs) ≡ 1 → is_bit (nth_shape (shapes cs) 0) ≡ true → Sorted D (node 8 0 cs)
  unary empty e g = absurd (omega arith)
  unary (and_then a empty) e g = is_a_bit (inv (sorted_bit a g))
  unary (and_then a (and_then b r)) e g = absurd (omega arith)

  cycled : {cs : Forest} → AllSorted D cs → length (trees cs) ≡ 1 → is_logic (nth_shape (shapes cs) 0) ≡ true → Sorted D (node 16 0 cs)
  cycled empty e g = absurd (omega arith)
  cycled (and_then a_program empty) e g = absurd (true_false g refl)
  cycled (and_then (is_a_bit b) empty) e g = is_a_bit (cycle b)
  cycled (and_then (is_a_bus m s) empty) e g = is_a_bus (a_cycle m) s
  cycled (and_then a (and_then b r)) e g = absurd (omega arith)

  bits : {cs : Forest} → AllSorted D cs → every is_bit (shapes cs) ≡ true → BitForest D cs (length (trees cs))
  bits empty h = nothing
  bits (and_then {t = t} {ts = ts} a r) h =
      more (sorted_bit a (and_left (is_bit (shape t)) (every is_bit (shapes ts)) h)) (bits r (and_right (is_bit (shape t)) (every is_bit (shapes ts)) h))

  pub shapes_length : (cs : Forest) → length (shapes cs) ≡ length (trees cs)
  shapes_length none = refl
  shapes_length (t ◂ ts) = ap suc (shapes_length ts)

  pub bit_no_program : {t : Tree} → BitTree D t → is_program t ≡ false
  bit_no_program (const h) = refl
  bit_no_program (var h) = refl
  bit_no_program (nor a b) = refl
  bit_no_program (mux c a b) = refl
  bit_no_program (and a b) = refl
  bit_no_program (xor a b) = refl
  bit_no_program (inv a) = refl
  bit_no_program (lut l h a) = refl
  bit_no_program (cycle a) = refl

  pub made_no_program : {t : Tree} → Made D t → is_program t ≡ false
  made_no_program (a_bit b) = bit_no_program b
  made_no_program (a_bus l b) = refl
  made_no_program (a_cycle m) = refl

  -- what verification says of a Lut over its first child and the rest
  lut_first : (t : Tree) (ts : Forest) → lut_wrong (t ∷ trees ts) ≡ false → is_program t ≡ true
  lut_first t ts h = not_is_false (is_program t) (or_right_false (ltb most_operands (length (trees ts))) (not (is_program t)) (or_left_false _ _ h))

  lut_program : (p : ℕ) (ts : Forest) → lut_wrong (node 1 p none ∷ trees ts) ≡ false
      → length (trees ts) < most_operands → p < 2 ^ (2 ^ length (trees ts))
  lut_program p ts h l =
      leb-false (2 ^ (2 ^ length (trees ts))) p (rw (lt-ltb (length (trees ts)) most_operands l) at (or_right_false (ltb most_operands (length (trees ts)) || false) _ h))

  lut_size : (p : ℕ) (ts : Forest) → lut_wrong (node 1 p none ∷ trees ts) ≡ false → length (trees ts) ≤ most_operands
  lut_size p ts h =
      ltb-false most_operands (length (trees ts)) (or_left_false (ltb most_operands (length (trees ts))) false (or_left_false (ltb most_operands (length (trees ts)) || false) _ h))

  lutted : {cs : Forest} → AllSorted D cs → lut_wrong (trees cs) ≡ false → every is_bit (drop 1 (shapes cs)) ≡ true → Sorted D (node 9 0 cs)
  lutted empty e f = absurd (true_false refl e)
  lutted (and_then {ts = ts} (a_program {p = p}) r) e f = is_a_bit (lut (lut_size p ts e) (lut_program p ts e) (bits r f))
  lutted (and_then {ts = ts} (is_a_bit {t = t} b) r) e f = absurd (true_false (lut_first t ts e) (bit_no_program b))
  lutted (and_then {ts = ts} (is_a_bus {t = t} m s) r) e f = absurd (true_false (lut_first t ts e) (made_no_program m))

  -- ---- what the tests say of one node, with its children
  pub record NodeOk (k d : ℕ) (cs : Forest) : Type 0 where
    pub known : k < 17
    pub leaf : k < 4 → cs ≡ none
    pub arity : 3 < k → may_have (kind_of k) (length (trees cs)) ≡ true
    pub inner : 3 < k → d ≡ 0
    pub constant : k ≡ 0 → d < 2
    pub variable : k ≡ 3 → D d
    pub depth : ℕ
    pub right : wrong (kind_of k) depth (trees cs) ≡ false
    pub fit : fits (kind_of k) (shapes cs) ≡ true
    pub gate : 3 < k → k < 9 → is_bit (shape_step (kind_of k) (shapes cs)) ≡ true
    pub plain : is_plain (kind_of k) ≡ true

  leaf_is : (k d : ℕ) {cs : Forest} → cs ≡ none → Sorted D (node k d none) → Sorted D (node k d cs)
  leaf_is k d e s = subst (λ (f : Forest). Sorted D (node k d f)) (sym e) s

  -- kinds 4 to 16
  sort_inner : (k : ℕ) (cs : Forest) → 3 < k → NodeOk k 0 cs → AllSorted D cs → Sorted D (node k 0 cs)
  sort_inner zero cs h o a = absurd (omega arith)
  sort_inner (suc zero) cs h o a = absurd (omega arith)
  sort_inner (suc (suc zero)) cs h o a = absurd (omega arith)
  sort_inner (suc (suc (suc zero))) cs h o a = absurd (omega arith)
  sort_inner (suc (suc (suc (suc zero)))) cs h o a =
      binary 4 (λ x y. nor) a (eqb-true (length (trees cs)) 2 (o.arity h)) o.fit (o.gate h (omega arith))
  sort_inner (suc (suc (suc (suc (suc zero))))) cs h o a =
      ternary a (eqb-true (length (trees cs)) 3 (o.arity h)) o.fit (o.gate h (omega arith))
  sort_inner (suc (suc (suc (suc (suc (suc zero)))))) cs h o a =
      binary 6 (λ x y. and) a (eqb-true (length (trees cs)) 2 (o.arity h)) o.fit (o.gate h (omega arith))
  sort_inner (suc (suc (suc (suc (suc (suc (suc zero))))))) cs h o a =
      binary 7 (λ x y. xor) a (eqb-true (length (trees cs)) 2 (o.arity h)) o.fit (o.gate h (omega arith))
  sort_inner (suc (suc (suc (suc (suc (suc (suc (suc zero)))))))) cs h o a =
      unary a (eqb-true (length (trees cs)) 1 (o.arity h)) (o.gate h (omega arith))
  sort_inner (suc (suc (suc (suc (suc (suc (suc (suc (suc zero))))))))) cs h o a = lutted a o.right o.fit
  sort_inner (suc (suc (suc (suc (suc (suc (suc (suc (suc (suc zero)))))))))) cs h o a =
      is_a_bus (a_bus (leb-true (length (trees cs)) widest_bus (o.arity h)) (bits a o.fit)) (ap bus (shapes_length cs))
  sort_inner (suc (suc (suc (suc (suc (suc (suc (suc (suc (suc (suc zero))))))))))) cs h o a = absurd (true_false o.plain refl)
  sort_inner (suc (suc (suc (suc (suc (suc (suc (suc (suc (suc (suc (suc zero)))))))))))) cs h o a = absurd (true_false o.plain refl)
  sort_inner (suc (suc (suc (suc (suc (suc (suc (suc (suc (suc (suc (suc (suc zero))))))))))))) cs h o a = absurd (true_false o.plain refl)
  sort_inner (suc (suc (suc (suc (suc (suc (suc (suc (suc (suc (suc (suc (suc (suc zero)))))))))))))) cs h o a = absurd (true_false o.plain refl)
  sort_inner (suc (suc (suc (suc (suc (suc (suc (suc (suc (suc (suc (suc (suc (suc (suc zero))))))))))))))) cs h o a = absurd (true_false o.plain refl)
  sort_inner (suc (suc (suc (suc (suc (suc (suc (suc (suc (suc (suc (suc (suc (suc (suc (suc zero)))))))))))))))) cs h o a = cycled a (eqb-true (length (trees cs)) 1 (o.arity h)) o.fit
  sort_inner (suc (suc (suc (suc (suc (suc (suc (suc (suc (suc (suc (suc (suc (suc (suc (suc (suc k))))))))))))))))) cs h o a = absurd (omega (arith, o.known))

  -- kinds 0 to 3
  sort_leaf : (k d : ℕ) (cs : Forest) → k < 4 → NodeOk k d cs → Sorted D (node k d cs)
  sort_leaf zero d cs h o = leaf_is 0 d (o.leaf h) (is_a_bit (const (o.constant refl)))
  sort_leaf (suc zero) d cs h o = leaf_is 1 d (o.leaf h) a_program
  sort_leaf (suc (suc zero)) d cs h o = absurd (true_false o.plain refl)
  sort_leaf (suc (suc (suc zero))) d cs h o = leaf_is 3 d (o.leaf h) (is_a_bit (var (o.variable refl)))
  sort_leaf (suc (suc (suc (suc k)))) d cs h o = absurd (omega arith)

  pub sort_node : (k d : ℕ) (cs : Forest) → NodeOk k d cs → AllSorted D cs → Sorted D (node k d cs)
  sort_node k d cs o a = elim (dec_lt 3 k) [
    | yes h ↦
        let o' : NodeOk k 0 cs = subst (λ (x : ℕ). NodeOk k x cs) (o.inner h) o in
        subst (λ (x : ℕ). Sorted D (node k x cs)) (sym (o.inner h)) (sort_inner k cs h o' a)
    | no h ↦ sort_leaf k d cs (omega arith) o
  ]
