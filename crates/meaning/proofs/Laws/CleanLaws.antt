-- The normal form of a Made tree is Made, and every tree below a Made tree passes the tests of its node.
use Prim.Native.Nat.{ℕ, zero, suc, ◌+◌, ◌-◌, ◌^◌, ◌≤◌, ◌<◌}
use Rattle.std.specs.Prelude.{◌≡◌, refl, ◌≢◌, List, ◌∷◌, ◌++◌, [], Bool, true, false, cond, ◌&&◌, ◌||◌, length, take, drop, ltb, leb, eqb}
use Rattle.std.proofs.Common.{ap, subst, ◌∙◌, arith, length-append, length-take, length-drop, lt-ltb, le-ltb, le-leb}
use Rattle.std.proofs.Math.Decide.{dec_lt}
use Rattle.std.proofs.lemmas.Bool.{lt-leb}
use Rattle.meaning.specs.Rules.Limits.{most_operands, widest_bus}
use Rattle.meaning.specs.Rules.Kinds.{kind_of, may_have}
use Rattle.meaning.specs.Rules.Search.{lowest}
use Rattle.meaning.specs.Rules.Trees.{Tree, Forest, node, none, ◌◂◌, kind_word, datum, children, trees, forest_of, nth_tree}
use Rattle.meaning.specs.Rules.Tables.{cofactor, ignores}
use Rattle.meaning.proofs.Laws.TableLaws.{cofactor_lt}
use Rattle.meaning.specs.Rules.Refusals.{some, every}
use Rattle.meaning.specs.Rules.Verification.{is_program, is_bus, lut_wrong, wrong_tree}
use Rattle.meaning.specs.Rules.Evaluable.{is_bit, is_logic, shape, shapes, fits_tree}
use Rattle.meaning.specs.Rules.Folding.{constant, is_constant, without, fold_one, fold, folded, nf, nf_all}
use Rattle.meaning.proofs.Laws.NfLaws.{BitTree, BitForest, Made, const, var, nor, mux, and, xor, inv, lut, cycle, nothing, more, a_bit, a_bus, a_cycle}
use Rattle.meaning.proofs.Laws.ListingLaws.{Deep, DeepAll, Listable}
use Rattle.meaning.proofs.Laws.MadeLaws.{bit_shape, bit_no_program}
use Rattle.meaning.specs.Rules.Folding

pub data AllBit (D : ℕ → Type 0) : List Tree → Type 0 where
  no_more : AllBit D []
  one_bit : {t : Tree} {ts : List Tree} → BitTree D t → AllBit D ts → AllBit D (t ∷ ts)

without_length : (ts : List Tree) (j k : ℕ) → j < length ts → length ts ≡ suc k → length (without j ts) ≡ k
without_length ts j k h e =
    length-append (take j ts) (drop (suc j) ts) ∙ rw (length-take j ts, length-drop (suc j) ts) (omega arith)

module _ (D : ℕ → Type 0) where
  nth_bit : {ts : List Tree} → AllBit D ts → (j : ℕ) → j < length ts → BitTree D (nth_tree ts j)
  nth_bit no_more j h = absurd (omega arith)
  nth_bit (one_bit b a) zero h = b
  nth_bit (one_bit b a) (suc j) h = nth_bit a j (omega arith)

  take_bit : {ts : List Tree} (j : ℕ) → AllBit D ts → AllBit D (take j ts)
  take_bit zero a = no_more
  take_bit (suc j) no_more = no_more
  take_bit (suc j) (one_bit b a) = one_bit b (take_bit j a)

  drop_bit : {ts : List Tree} (j : ℕ) → AllBit D ts → AllBit D (drop j ts)
  drop_bit zero a = a
  drop_bit (suc j) no_more = no_more
  drop_bit (suc j) (one_bit b a) = drop_bit j a

  append_bit : {ts us : List Tree} → AllBit D ts → AllBit D us → AllBit D (ts ++ us)
  append_bit no_more c = c
  append_bit (one_bit b a) c = one_bit b (append_bit a c)

  without_bit : {ts : List Tree} (j : ℕ) → AllBit D ts → AllBit D (without j ts)
  without_bit j a = append_bit (take_bit j a) (drop_bit (suc j) a)

  to_forest : {ts : List Tree} → AllBit D ts → BitForest D (forest_of ts) (length ts)
  to_forest no_more = nothing
  to_forest (one_bit b a) = more b (to_forest a)

  lut_made : (p k : ℕ) {ts : List Tree} → k ≤ most_operands → (k < most_operands → p < 2 ^ (2 ^ k)) → AllBit D ts → length ts ≡ k
      → BitTree D (Folding.lut p ts)
  lut_made p k {ts} l h a e = lut l h (subst (λ (n : ℕ). BitForest D (forest_of ts) n) e (to_forest a))

  cond_made : (b : Bool) {t u : Tree} → BitTree D t → BitTree D u → BitTree D (cond b t u)
  cond_made true x y = x
  cond_made false x y = y

  one_made : (p : ℕ) (t : Tree) → p < 4 → BitTree D t → BitTree D (fold_one p t)
  one_made p t h b =
      cond_made (eqb p 0) (const (omega arith)) (cond_made (eqb p 3) (const (omega arith)) (cond_made (eqb p 2) b
      (cond_made (is_constant t) (const (omega arith)) (lut_made p 1 (omega arith) (λ l. h) (one_bit b no_more) refl))))

  pub fold_made : (k p : ℕ) {ts : List Tree} → k ≤ most_operands → (k < most_operands → p < 2 ^ (2 ^ k)) → AllBit D ts → length ts ≡ k
      → BitTree D (fold k p ts)
  unfolding fold
  fold_made zero p l h a e = const (h (omega arith))
  fold_made (suc zero) p {ts} l h a e = one_made p (nth_tree ts 0) (h (omega arith)) (nth_bit a 0 (omega arith))
  fold_made (suc (suc k)) p {ts} l h a e =
      go (λ p' ts'. fold_made (suc k) p' {ts = ts'}) (dec_lt c (suc (suc k))) (dec_lt i (suc (suc k)))
    where
      c : ℕ
      c = lowest (λ j. is_constant (nth_tree ts j)) (suc (suc k))

      i : ℕ
      i = lowest (λ j. ignores p (suc k) (suc k - j)) (suc (suc k))

      go : ((p' : ℕ) (ts' : List Tree) → suc k ≤ most_operands → (suc k < most_operands → p' < 2 ^ (2 ^ suc k)) → AllBit D ts' → length ts' ≡ suc k
          → BitTree D (fold (suc k) p' ts'))
          → Dec (c < suc (suc k)) → Dec (i < suc (suc k)) → BitTree D (fold (suc (suc k)) p ts)
      go ih (yes m) d =
          rw (lt-ltb c (suc (suc k)) m)
          (ih (cofactor p (suc k) (suc k - c) (datum (nth_tree ts c))) (without c ts) (omega arith)
          (λ q. cofactor_lt p (suc k) (suc k - c) (datum (nth_tree ts c))) (without_bit c a) (without_length ts c (suc k) (omega arith) e))
      go ih (no m) (yes r) =
          rw (le-ltb c (suc (suc k)) (omega arith), lt-ltb i (suc (suc k)) r)
          (ih (cofactor p (suc k) (suc k - i) 0) (without i ts) (omega arith)
          (λ q. cofactor_lt p (suc k) (suc k - i) 0) (without_bit i a) (without_length ts i (suc k) (omega arith) e))
      go ih (no m) (no r) = rw (le-ltb c (suc (suc k)) (omega arith), le-ltb i (suc (suc k)) (omega arith)) (lut_made p (suc (suc k)) l h a e)

  folded_made : (p : ℕ) {ts : List Tree} → length ts ≤ most_operands → (length ts < most_operands → p < 2 ^ (2 ^ length ts)) → AllBit D ts
      → BitTree D (folded p ts)
  folded_made p {ts} l h a = fold_made (length ts) p l h a refl

  -- a forest's bits as a list
  pub record NfBits (ts : Forest) (k : ℕ) : Type 0 where
    pub forest : BitForest D ts k
    pub list : AllBit D (trees ts)
    pub size : length (trees ts) ≡ k

  mutual
    nf_bit : {t : Tree} → BitTree D t → BitTree D (nf t)
    nf_bit (const h) = const h
    nf_bit (var h) = var h
    nf_bit (nor a b) = folded_made 1 (omega arith) (λ l. omega arith) (one_bit (nf_bit a) (one_bit (nf_bit b) no_more))
    nf_bit (mux c a b) = folded_made 202 (omega arith) (λ l. omega arith) (one_bit (nf_bit c) (one_bit (nf_bit a) (one_bit (nf_bit b) no_more)))
    nf_bit (and a b) = folded_made 8 (omega arith) (λ l. omega arith) (one_bit (nf_bit a) (one_bit (nf_bit b) no_more))
    nf_bit (xor a b) = folded_made 6 (omega arith) (λ l. omega arith) (one_bit (nf_bit a) (one_bit (nf_bit b) no_more))
    nf_bit (inv a) = folded_made 1 (omega arith) (λ l. omega arith) (one_bit (nf_bit a) no_more)
    nf_bit (lut {p = p} {ops = ops} l h a) =
        let b = nf_bits a in
        folded_made p (omega (arith, b.size)) (λ q. rw b.size (h (rw b.size at q))) b.list
    nf_bit (cycle a) = cycle (nf_bit a)

    nf_bits : {ts : Forest} {k : ℕ} → BitForest D ts k → NfBits (nf_all ts) k
    nf_bits nothing = record { forest = nothing; list = no_more; size = refl }
    nf_bits (more a b) =
        let p = nf_bit a in
        let q = nf_bits b in
        record { forest = more p q.forest; list = one_bit p q.list; size = ap suc q.size }

  pub nf_made : {t : Tree} → Made D t → Made D (nf t)
  nf_made (a_bit b) = a_bit (nf_bit b)
  nf_made (a_bus l b) = a_bus l (nf_bits b).forest
  nf_made (a_cycle m) = a_cycle (nf_made m)

-- ---- what the tests ask of a node, for a tree that is a Program, a bit or a bus
pub record Clean (D : ℕ → Type 0) (t : Tree) : Type 0 where
  pub known : kind_word t < 17
  pub arity : 3 < kind_word t → may_have (kind_of (kind_word t)) (length (trees (children t))) ≡ true
  pub constant : kind_word t ≡ 0 → datum t < 2
  pub variable : kind_word t ≡ 3 → D (datum t)
  pub no_dc : kind_word t ≢ 2
  pub right : (m : ℕ) → wrong_tree m t ≡ false
  pub fit : fits_tree t ≡ true
  pub listable : Listable t

-- the fields that are the same for every inner node, of kind k
inner_clean : (D : ℕ → Type 0) (k : ℕ) (cs : Forest) → 3 < k → k < 17 → may_have (kind_of k) (length (trees cs)) ≡ true
    → ((m : ℕ) → wrong_tree m (node k 0 cs) ≡ false) → fits_tree (node k 0 cs) ≡ true → Clean D (node k 0 cs)
inner_clean D k cs h l a r f = record {
  known = l;
  arity = λ q. a;
  constant = λ e. absurd (omega arith);
  variable = λ e. absurd (omega arith);
  no_dc = λ e. omega arith;
  right = r;
  fit = f;
  listable = record { leaf = λ q. absurd (omega arith); inner = λ q. refl; small = λ q e. absurd (omega arith) };
}

module _ (D : ℕ → Type 0) (bound : (v : ℕ) → D v → v < 2 ^ 32) where
  bit_no_bus : {t : Tree} → BitTree D t → is_bus t ≡ false
  bit_no_bus (const h) = refl
  bit_no_bus (var h) = refl
  bit_no_bus (nor a b) = refl
  bit_no_bus (mux c a b) = refl
  bit_no_bus (and a b) = refl
  bit_no_bus (xor a b) = refl
  bit_no_bus (inv a) = refl
  bit_no_bus (lut l h a) = refl
  bit_no_bus (cycle a) = refl

  forest_size : {ts : Forest} {k : ℕ} → BitForest D ts k → length (trees ts) ≡ k
  forest_size nothing = refl
  forest_size (more a b) = ap suc (forest_size b)

  forest_bits : {ts : Forest} {k : ℕ} → BitForest D ts k → every is_bit (shapes ts) ≡ true
  forest_bits nothing = refl
  forest_bits (more a b) = rw (bit_shape D a) (forest_bits b)

  forest_members : {ts : Forest} {k : ℕ} → BitForest D ts k → some (λ t. is_program t || is_bus t) (trees ts) ≡ false
  forest_members nothing = refl
  forest_members (more a b) = rw (bit_no_program D a, bit_no_bus a) (forest_members b)

  lut_right : (p k : ℕ) (ops : Forest) → length (trees ops) ≡ k → k ≤ most_operands → (k < most_operands → p < 2 ^ (2 ^ k))
      → lut_wrong (node 1 p none ∷ trees ops) ≡ false
  lut_right p k ops e l h = rw (e, le-ltb most_operands k l) (go (dec_lt k most_operands))
    where
      go : Dec (k < most_operands) → (ltb k most_operands && leb (2 ^ (2 ^ k)) p) ≡ false
      go (yes q) = rw (lt-ltb k most_operands q) (lt-leb (2 ^ (2 ^ k)) p (h q))
      go (no q) = rw (le-ltb k most_operands (omega arith)) refl

  clean_bit : {t : Tree} → BitTree D t → Clean D t
  clean_bit (const h) = record {
    known = omega arith;
    arity = λ q. absurd (omega arith);
    constant = λ e. h;
    variable = λ e. absurd (omega arith);
    no_dc = λ e. omega arith;
    right = λ m. refl;
    fit = refl;
    listable = record { leaf = λ q. refl; inner = λ q. absurd (omega arith); small = λ q e. omega arith };
  }
  clean_bit (var {v = v} h) = record {
    known = omega arith;
    arity = λ q. absurd (omega arith);
    constant = λ e. absurd (omega arith);
    variable = λ e. h;
    no_dc = λ e. omega arith;
    right = λ m. refl;
    fit = refl;
    listable = record { leaf = λ q. refl; inner = λ q. absurd (omega arith); small = λ q e. bound v h };
  }
  clean_bit (nor a b) = inner_clean D 4 _ (omega arith) (omega arith) refl (λ m. rw (bit_no_program D a, bit_no_program D b) refl) (rw (bit_shape D a, bit_shape D b) refl)
  clean_bit (mux c a b) = inner_clean D 5 _ (omega arith) (omega arith) refl (λ m. refl) (rw (bit_shape D c, bit_shape D a, bit_shape D b) refl)
  clean_bit (and a b) = inner_clean D 6 _ (omega arith) (omega arith) refl (λ m. rw (bit_no_program D a, bit_no_program D b) refl) (rw (bit_shape D a, bit_shape D b) refl)
  clean_bit (xor a b) = inner_clean D 7 _ (omega arith) (omega arith) refl (λ m. rw (bit_no_program D a, bit_no_program D b) refl) (rw (bit_shape D a, bit_shape D b) refl)
  clean_bit (inv a) = inner_clean D 8 _ (omega arith) (omega arith) refl (λ m. refl) (rw (bit_shape D a) refl)
  clean_bit (lut {p = p} {k = k} {ops = ops} l h a) =
      inner_clean D 9 _ (omega arith) (omega arith) refl (λ m. lut_right p k ops (forest_size a) l h) (forest_bits a)
  clean_bit (cycle a) = inner_clean D 16 _ (omega arith) (omega arith) refl (λ m. refl) (rw (bit_shape D a) refl)

  clean_program : (p : ℕ) → Clean D (node 1 p none)
  clean_program p = record {
    known = omega arith;
    arity = λ q. absurd (omega arith);
    constant = λ e. absurd (omega arith);
    variable = λ e. absurd (omega arith);
    no_dc = λ e. omega arith;
    right = λ m. refl;
    fit = refl;
    listable = record { leaf = λ q. refl; inner = λ q. absurd (omega arith); small = λ q e. absurd (e refl) };
  }

  made_logic : {t : Tree} → Made D t → is_logic (shape t) ≡ true
  made_logic (a_bit b) = rw (bit_shape D b) refl
  made_logic (a_bus {ts = ts} l b) = lt-ltb 0 (length (shapes ts) + 2) (omega arith)
  made_logic (a_cycle m) = made_logic m

  clean_made : {t : Tree} → Made D t → Clean D t
  clean_made (a_bit b) = clean_bit b
  clean_made (a_bus {k = k} {ts = ts} l b) =
      inner_clean D 10 ts (omega arith) (omega arith) (le-leb (length (trees ts)) widest_bus (omega (arith, forest_size b))) (λ m. forest_members b) (forest_bits b)
  clean_made (a_cycle m) = inner_clean D 16 _ (omega arith) (omega arith) refl (λ q. refl) (made_logic m)

  mutual
    deep_bit : {t : Tree} → BitTree D t → Deep (Clean D) t
    deep_bit (const h) = (clean_bit (const h), tt)
    deep_bit (var h) = (clean_bit (var h), tt)
    deep_bit (nor a b) = (clean_bit (nor a b), (deep_bit a, (deep_bit b, tt)))
    deep_bit (mux c a b) = (clean_bit (mux c a b), (deep_bit c, (deep_bit a, (deep_bit b, tt))))
    deep_bit (and a b) = (clean_bit (and a b), (deep_bit a, (deep_bit b, tt)))
    deep_bit (xor a b) = (clean_bit (xor a b), (deep_bit a, (deep_bit b, tt)))
    deep_bit (inv a) = (clean_bit (inv a), (deep_bit a, tt))
    deep_bit (lut {p = p} l h a) = (clean_bit (lut l h a), ((clean_program p, tt), deep_bits a))
    deep_bit (cycle a) = (clean_bit (cycle a), (deep_bit a, tt))

    deep_bits : {ts : Forest} {k : ℕ} → BitForest D ts k → DeepAll (Clean D) ts
    deep_bits nothing = tt
    deep_bits (more a b) = (deep_bit a, deep_bits b)

  -- every tree below a Made tree passes the tests of its node
  pub deep_made : {t : Tree} → Made D t → Deep (Clean D) t
  deep_made (a_bit b) = deep_bit b
  deep_made (a_bus l b) = (clean_made (a_bus l b), deep_bits b)
  deep_made (a_cycle m) = (clean_made (a_cycle m), (deep_made m, tt))

-- a property that follows from another, all the way down
mutual
  pub deep_map : (P Q : Tree → Type 0) → ((t : Tree) → P t → Q t) → (t : Tree) → Deep P t → Deep Q t
  deep_map P Q f (node k d cs) p = (f (node k d cs) p.0, deep_map_all P Q f cs p.1)

  deep_map_all : (P Q : Tree → Type 0) → ((t : Tree) → P t → Q t) → (ts : Forest) → DeepAll P ts → DeepAll Q ts
  deep_map_all P Q f none p = tt
  deep_map_all P Q f (t ◂ ts) p = (deep_map P Q f t p.0, deep_map_all P Q f ts p.1)
