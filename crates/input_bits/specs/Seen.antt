-- The variables below a root as bits of a word: what a walk over the nodes has seen of them, and that at its end bit v is
-- there exactly if variable v occurs below the root.
use Rattle.std.specs.Prelude.{ℕ, zero, suc, ◌+◌, ◌-◌, ◌*◌, ◌^◌, ◌<◌, max, ◌≡◌, refl, List, Bool, true, false, cond, ◌&&◌, ◌||◌, eqb}
use Rattle.std.proofs.Common.{sym, ap, ap₂, ◌∙◌, ⊎_elim, add-one, arith, pow_pos, eq-eqb, ne_eqb, lt-ltb, le-ltb}
use Rattle.std.proofs.Math.Decide.{dec_lt}
use Rattle.std.specs.Int.Bits.{bit_or}
use Rattle.meaning.specs.Rules.Words.{bit_at}
use Rattle.meaning.specs.Rules.Kinds.{variable_word}
use Rattle.meaning.specs.Rules.Trees.{Tree, node_count, kind_at, first_at, root_of}
use Rattle.meaning.specs.Rules.Reach.{mark_of, reachable}
use Rattle.meaning.specs.Rules.Assignments.{occurs}
use Rattle.meaning.specs.Claims.Column.{Sound}
use Rattle.meaning.proofs.Laws.BoolLaws.{true_false, or_cases, or_left_false, or_right_false}
use Rattle.meaning.proofs.Laws.WordLaws.{bit_above, bit_low, bit_high}
use Rattle.bits.specs.Bit.{bit_zero, bit_or_lem, bit_ext}
use Rattle.inputs.specs.Inputs.{is_input, input_found, input_none}

abbrev pub to_bit : Bool → ℕ
to_bit b = cond b 1 0

-- bit v is there exactly if variable v occurs in the tree
abbrev pub IsMask : Tree → ℕ → Type 0
IsMask t mask = (v : ℕ) → bit_at mask v ≡ to_bit (occurs v t)

-- there is only one such word
pub mask_only : (t : Tree) (w : ℕ) {m m' : ℕ} → m < 2 ^ w → m' < 2 ^ w → IsMask t m → IsMask t m' → m ≡ m'
mask_only t w {m} {m'} l l' a b = bit_ext w m m' l l' (λ v h. a v ∙ sym (b v))

-- the bit of node i, where that is a variable below the root
abbrev pub IsBitOf : List ℕ → List ℕ → ℕ → ℕ → Type 0
IsBitOf ns ps i word = (v : ℕ) → bit_at word v ≡ to_bit (is_input ns ps v i)

-- ---- a word of one bit
pub bit_power : (f v : ℕ) → bit_at (2 ^ f) v ≡ to_bit (eqb f v)
bit_power f v = ap (λ (x : ℕ). bit_at x v) one ∙ elim (dec_lt v f) [
  | yes h ↦ bit_low 1 0 f v (pow_pos f) h ∙ bit_zero v ∙ ap to_bit (sym (ne_eqb f v (λ e. absurd (omega arith))))
  | no h ↦
      let e : f + (v - f) ≡ v = omega arith in
      ap (bit_at (1 * 2 ^ f + 0)) (sym e) ∙ bit_high 1 0 f (v - f) (pow_pos f) ∙ upper h (dec_lt f v)
]
  where
    one : 2 ^ f ≡ 1 * 2 ^ f + 0
    one = omega arith

    upper : (v < f → ⊥) → Dec (f < v) → bit_at 1 (v - f) ≡ to_bit (eqb f v)
    upper h (yes l) =
        bit_above 1 1 (v - f) (omega arith) (omega arith) ∙ ap to_bit (sym (ne_eqb f v (λ e. absurd (omega arith))))
    upper h (no l) =
        let none : v - f ≡ 0 = omega arith in
        let e : f ≡ v = omega (arith, h, l) in
        rw (none, eq-eqb f v e) refl

-- ---- as the walk goes: some node below i is that variable
abbrev pub any_below : (ℕ → Bool) → ℕ → Bool
any_below p zero = false
any_below p (suc i) = any_below p i || p i

any_found : (p : ℕ → Bool) (i : ℕ) → any_below p i ≡ true → (j : ℕ) × (j < i) × (p j ≡ true)
any_found p zero h = absurd (true_false h refl)
any_found p (suc i) h = ⊎_elim (λ e. earlier (any_found p i e)) (λ e. (i, omega arith, e)) (or_cases (any_below p i) (p i) h)
  where
    earlier : (j : ℕ) × (j < i) × (p j ≡ true) → (j : ℕ) × (j < suc i) × (p j ≡ true)
    earlier found = (found.0, omega (arith, found.1), found.2)

any_none : (p : ℕ → Bool) (i : ℕ) → any_below p i ≡ false → (j : ℕ) → j < i → p j ≡ false
any_none p zero h j l = absurd (omega arith)
any_none p (suc i) h j l = elim (dec_lt j i) [
  | yes k ↦ any_none p i (or_left_false (any_below p i) (p i) h) j k
  | no k ↦ let e : j ≡ i = omega arith in rw e (or_right_false (any_below p i) (p i) h)
]

both_bits : (a b : Bool) → max (to_bit a) (to_bit b) ≡ to_bit (a || b)
both_bits true true = refl
both_bits true false = refl
both_bits false true = refl
both_bits false false = refl

module _ (ns ps : List ℕ) where
  abbrev pub SeenTo : ℕ → ℕ → Type 0
  SeenTo i mask = (v : ℕ) → bit_at mask v ≡ to_bit (any_below (is_input ns ps v) i)

  pub seen_next : (i mask word : ℕ) → SeenTo i mask → IsBitOf ns ps i word → SeenTo (i + 1) (bit_or mask word)
  seen_next i mask word seen bit v =
      bit_or_lem mask word v ∙ ap₂ max (seen v) (bit v) ∙ both_bits (any_below (is_input ns ps v) i) (is_input ns ps v i)
      ∙ ap (λ (k : ℕ). to_bit (any_below (is_input ns ps v) k)) (sym (add-one i))

  pub seen_all : Sound ns ps → (i mask : ℕ) → i ≡ node_count ns → SeenTo i mask → IsMask (root_of ns ps) mask
  seen_all sound i mask e seen v =
      let all : any_below (is_input ns ps v) i ≡ any_below (is_input ns ps v) (node_count ns) = ap (any_below (is_input ns ps v)) e in
      seen v ∙ ap to_bit (all ∙ told (any_below (is_input ns ps v) (node_count ns)) refl)
    where
      told : (b : Bool) → any_below (is_input ns ps v) (node_count ns) ≡ b → any_below (is_input ns ps v) (node_count ns) ≡ occurs v (root_of ns ps)
      told true h =
          let found = any_found (is_input ns ps v) (node_count ns) h in
          h ∙ sym (input_found ns ps sound v found.0 found.1 found.2)
      told false h = h ∙ sym (input_none ns ps sound v (any_none (is_input ns ps v) (node_count ns) h))

  -- ---- the bit of one node
  pub other_kind : (i : ℕ) → (kind_at ns i ≡ variable_word → ⊥) → IsBitOf ns ps i 0
  other_kind i h v = bit_zero v ∙ ap (λ (b : Bool). to_bit (b && (eqb (first_at ns i) v && reachable ns ps i))) (sym (ne_eqb (kind_at ns i) variable_word h))

  pub unreached : (i : ℕ) → mark_of ns ps i ≡ 0 → IsBitOf ns ps i 0
  unreached i h v = bit_zero v ∙ sym (rw (le-ltb 0 (mark_of ns ps i) (omega (arith, h))) (none (eqb (kind_at ns i) variable_word) (eqb (first_at ns i) v)))
    where
      none : (a b : Bool) → to_bit (a && (b && false)) ≡ 0
      none true true = refl
      none true false = refl
      none false b = refl

  pub reached : (i word : ℕ) → kind_at ns i ≡ variable_word → 0 < mark_of ns ps i → word ≡ 2 ^ first_at ns i → IsBitOf ns ps i word
  reached i word kind mark e v =
      ap (λ (x : ℕ). bit_at x v) e ∙ bit_power (first_at ns i) v
      ∙ sym (rw (eq-eqb (kind_at ns i) variable_word kind, lt-ltb 0 (mark_of ns ps i) mark) (whole (eqb (first_at ns i) v)))
    where
      whole : (b : Bool) → to_bit (b && true) ≡ to_bit b
      whole true = refl
      whole false = refl
