-- The assignments in blocks: those of a block have one cleared self, so that it is answered once for all of them. A word
-- `free` has the unmarked variables below the root that are tried, a word `marked` the marked ones; a block is an x among
-- the free and all `x or y` with y among the marked. Variables that the root does not reach stay 0: they change no answer.
use Prim.Native.Nat.{ℕ, ◌+◌, ◌-◌, ◌%◌, ◌^◌, ◌≤◌, ◌<◌, min, max}
use Rattle.std.specs.Prelude.{◌≡◌, refl, Bool, true, false, cond, not}
use Rattle.std.proofs.Common.{sym, ap, ◌∙◌, mod-lt, arith, pow_pos, pow_mono, eqb-true}
use Rattle.std.proofs.Math.Path.{ap₂}
use Rattle.std.proofs.Math.Decide.{dec_lt}
use Rattle.std.specs.Int.Bits.{bit_and, bit_or, and_lt, and_le_l}
use Rattle.std.proofs.lemmas.Nat.{or_lt, or_disjoint}
use Rattle.std.proofs.lemmas.Bool.{eqb-false}
use Rattle.meaning.specs.declared.Answer.{Answer}
use Rattle.meaning.specs.Rules.Words.{bit_at, ones}
use Rattle.meaning.specs.Rules.Trees.{Tree}
use Rattle.meaning.specs.Rules.Answers.{Assignment, answer}
use Rattle.meaning.specs.Rules.Assignments.{occurs, drive, upto}
use Rattle.meaning.specs.Rules.Comparison.{same_answer}
use Rattle.meaning.specs.Rules.Separation.{is_marked, run_cleared, crosses}
use Rattle.meaning.specs.Claims.Terms.{as_run, as_cleared}
use Rattle.meaning.proofs.Laws.WordLaws.{bit_lt, bit_above, bit_mod}
use Rattle.bits.specs.Bit.{bit_zero, bit_and_lem, bit_or_lem, bit_ext}
use Rattle.subsets.specs.Among.{Among, among_le, among_bit, bits_among, cut_among}
use Rattle.input_bits.specs.Seen.{to_bit, IsMask}
use Rattle.crossings.specs.Depends.{AgreeOn, same_answer_lem}
use Rattle.crossings.specs.Driven.{driven_at, undriven_at, cleared_is, without_bit}

module _ (t : Tree) (n run : ℕ) where
  -- a crossing at or below j, in a block
  pub record Lower (free marked j : ℕ) : Type 0 where
    pub base : ℕ
    pub rest : ℕ
    pub is_base : Among free base
    pub is_rest : Among marked rest
    pub lower : bit_or base rest ≤ j
    pub here : crosses t n run (bit_or base rest) ≡ true

  -- what a search of the blocks relies on: a block has one cleared self, and the lowest crossing below the limit is in a
  -- block
  pub record Blocks (limit free marked : ℕ) : Type 0 where
    pub cleared : (x y : ℕ) → Among free x → Among marked y → as_cleared t n run (bit_or x y) ≡ as_run t n run x
    pub all : (j : ℕ) → j < limit → crosses t n run j ≡ true → Lower free marked j

  -- ---- the words that have blocks: of the variables below s, those below the root
  pub record Parted (s free marked : ℕ) : Type 0 where
    pub marks : run < 2 ^ n
    pub few : s ≤ n
    pub free_small : free < 2 ^ n
    pub marked_small : marked < 2 ^ n
    pub unmarked : (v : ℕ) → v < n → is_marked run v ≡ true → bit_at free v ≡ 0
    pub only_marked : (v : ℕ) → v < n → is_marked run v ≡ false → bit_at marked v ≡ 0
    pub covers : (v : ℕ) → v < s → occurs v t ≡ true → 0 < bit_at free v + bit_at marked v

  module _ (s free marked : ℕ) (p : Parted s free marked) where
    -- the cleared self of x or y is x
    cleared_bits : (x y : ℕ) → Among free x → Among marked y → (v : ℕ) → v < n → bit_at x v ≡ cond (is_marked run v) 0 (bit_at (bit_or x y) v)
    cleared_bits x y a b v h = go (is_marked run v) refl
      where
        go : (m : Bool) → is_marked run v ≡ m → bit_at x v ≡ cond m 0 (bit_at (bit_or x y) v)
        go true e = omega (arith, among_bit free x v a, p.unmarked v h e)
        go false e = omega (arith, among_bit marked y v b, p.only_marked v h e, bit_or_lem x y v)

    one_cleared : (x y : ℕ) → Among free x → Among marked y → as_cleared t n run (bit_or x y) ≡ as_run t n run x
    one_cleared x y a b = ap (λ (α : Assignment). answer α t) (cleared_is n run p.marks (bit_or x y) x (cleared_bits x y a b))

    module _ (j : ℕ) (below : j < 2 ^ s) where
      -- j without the variables that the root does not reach
      cut : ℕ
      cut = bit_or (bit_and j free) (bit_and j marked)

      small : j < 2 ^ n
      small = omega (arith, below, pow_mono p.few)

      cut_bit : (v : ℕ) → bit_at cut v ≡ max (min (bit_at j v) (bit_at free v)) (min (bit_at j v) (bit_at marked v))
      unfolding cut
      cut_bit v = bit_or_lem (bit_and j free) (bit_and j marked) v ∙ ap₂ max (bit_and_lem j free v) (bit_and_lem j marked v)

      cut_lower : cut ≤ j
      unfolding cut
      cut_lower =
          let whole : cut ≡ bit_and j (bit_or free marked) = bit_ext n cut (bit_and j (bit_or free marked))
          (or_lt n (bit_and j free) (bit_and j marked) (and_lt n j free small p.free_small) (and_lt n j marked small p.marked_small))
          (and_lt n j (bit_or free marked) small (or_lt n free marked p.free_small p.marked_small))
          (λ v h. let one = cut_bit v in let two = bit_and_lem j (bit_or free marked) v in let three = bit_or_lem free marked v in omega (arith, one, two, three)) in
          omega (arith, whole, and_le_l j (bit_or free marked))

      -- the variables that occur have their bits still
      kept_bit : (v : ℕ) → occurs v t ≡ true → bit_at cut v ≡ bit_at j v
      kept_bit v o = elim (dec_lt v s) [
        | yes h ↦ omega (arith, cut_bit v, p.covers v h o, bit_lt j v, bit_lt free v, bit_lt marked v)
        | no h ↦ omega (arith, cut_bit v, bit_above j s v below (omega arith))
      ]

      kept_variables : AgreeOn t (drive (upto n) cut) (drive (upto n) j)
      kept_variables v o = elim (dec_lt v n) [
        | yes h ↦ driven_at n cut v h ∙ kept_bit v o ∙ sym (driven_at n j v h)
        | no h ↦ undriven_at n cut v (omega arith) ∙ sym (undriven_at n j v (omega arith))
      ]

      cut_crosses : crosses t n run cut ≡ crosses t n run j
      cut_crosses =
          ap₂ (λ (x y : Answer). not (same_answer x y)) (same_answer_lem t (drive (upto n) cut) (drive (upto n) j) kept_variables)
          (same_answer_lem t (run_cleared run (drive (upto n) cut)) (run_cleared run (drive (upto n) j))
          (λ v o. ap (λ (b : ℕ). cond (is_marked run v) 0 b) (kept_variables v o)))

      lowered : crosses t n run j ≡ true → Lower free marked j
      unfolding cut
      lowered h = record {
        base = bit_and j free;
        rest = bit_and j marked;
        is_base = cut_among n free j p.free_small small;
        is_rest = cut_among n marked j p.marked_small small;
        lower = cut_lower;
        here = cut_crosses ∙ h;
      }

    pub parted_blocks : Blocks (2 ^ s) free marked
    parted_blocks = record { cleared = one_cleared; all = lowered }

    -- no variable is in both
    pub parted_sum : (x y : ℕ) → Among free x → Among marked y → bit_or x y ≡ x + y
    parted_sum x y a b = or_disjoint x y (bit_ext n (bit_and x y) 0 (and_lt n x y (below free x a p.free_small) (below marked y b p.marked_small)) (pow_pos n) none)
      where
        below : (mask z : ℕ) → Among mask z → mask < 2 ^ n → z < 2 ^ n
        below mask z c h = omega (arith, among_le mask z c, h)

        none : (v : ℕ) → v < n → bit_at (bit_and x y) v ≡ bit_at 0 v
        none v h = bit_and_lem x y v ∙ go (is_marked run v) refl ∙ sym (bit_zero v)
          where
            go : (m : Bool) → is_marked run v ≡ m → min (bit_at x v) (bit_at y v) ≡ 0
            go true e = omega (arith, among_bit free x v a, p.unmarked v h e)
            go false e = omega (arith, among_bit marked y v b, p.only_marked v h e)

  -- ---- the variables below the root, parted by the marks and cut to the first s
  module _ (inputs : ℕ) (mask : IsMask t inputs) (inputs_small : inputs < 2 ^ n) (marks : run < 2 ^ n) (few : n ≤ 64) (s : ℕ) (some : s ≤ n) where
    bits_below : (x : ℕ) → x % 2 ^ s < 2 ^ n
    bits_below x = omega (arith, mod-lt x (pow_pos s), pow_mono some)

    free_bit : (v : ℕ) → v < s → bit_at (bit_and inputs (ones 64 - run) % 2 ^ s) v ≡ min (bit_at inputs v) (1 - bit_at run v)
    free_bit v h =
        bit_mod (bit_and inputs (ones 64 - run)) s v h
        ∙ without_bit inputs run v (omega (arith, marks, pow_mono few)) (omega arith)

    marked_bit : (v : ℕ) → v < s → bit_at (bit_and inputs run % 2 ^ s) v ≡ min (bit_at inputs v) (bit_at run v)
    marked_bit v h = bit_mod (bit_and inputs run) s v h ∙ bit_and_lem inputs run v

    none_above : (x v : ℕ) → s ≤ v → bit_at (x % 2 ^ s) v ≡ 0
    none_above x v h = bit_above (x % 2 ^ s) s v (mod-lt x (pow_pos s)) h

    pub parted : Parted s (bit_and inputs (ones 64 - run) % 2 ^ s) (bit_and inputs run % 2 ^ s)
    parted = record {
      marks = marks;
      few = some;
      free_small = bits_below (bit_and inputs (ones 64 - run));
      marked_small = bits_below (bit_and inputs run);
      unmarked = λ v h e. elim (dec_lt v s) [
        | yes l ↦ omega (arith, free_bit v l, eqb-true (bit_at run v) 1 e)
        | no l ↦ none_above (bit_and inputs (ones 64 - run)) v (omega arith)
      ];
      only_marked = λ v h e. elim (dec_lt v s) [
        | yes l ↦ omega (arith, marked_bit v l, eqb-false (bit_at run v) 1 e, bit_lt run v)
        | no l ↦ none_above (bit_and inputs run) v (omega arith)
      ];
      covers = λ v l o.
          let there : bit_at inputs v ≡ 1 = mask v ∙ ap to_bit o in
          omega (arith, free_bit v l, marked_bit v l, there, bit_lt run v);
    }

  -- every crossing has one at or below it among the variables below the root
  module _ (inputs : ℕ) (mask : IsMask t inputs) (inputs_small : inputs < 2 ^ n) (marks : run < 2 ^ n) (few : n ≤ 64) where
    abbrev free : ℕ
    free = bit_and inputs (ones 64 - run) % 2 ^ n

    abbrev marked : ℕ
    marked = bit_and inputs run % 2 ^ n

    whole : Parted n free marked
    whole = parted inputs mask inputs_small marks few n (omega arith)

    among_inputs : (x y : ℕ) → Among free x → Among marked y → Among inputs (bit_or x y)
    among_inputs x y a b =
        bits_among n inputs (bit_or x y) inputs_small
        (or_lt n x y (omega (arith, among_le free x a, whole.free_small)) (omega (arith, among_le marked y b, whole.marked_small)))
        (λ v h.
        let one : bit_at x v ≤ bit_at inputs v = omega (arith, among_bit free x v a, free_bit inputs mask inputs_small marks few n (omega arith) v h) in
        let two : bit_at y v ≤ bit_at inputs v = omega (arith, among_bit marked y v b, marked_bit inputs mask inputs_small marks few n (omega arith) v h) in
        omega (arith, bit_or_lem x y v, one, two))

    pub crossing_among : (j : ℕ) → j < 2 ^ n → crosses t n run j ≡ true → (k : ℕ) × (k ≤ inputs) × (crosses t n run k ≡ true)
    crossing_among j l c =
        let at = (parted_blocks n free marked whole).all j l c in
        (bit_or at.base at.rest, among_le inputs (bit_or at.base at.rest) (among_inputs at.base at.rest at.is_base at.is_rest), at.here)
