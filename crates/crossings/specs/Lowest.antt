-- The lowest crossing so far, as the search goes block by block: what is below it and was gone through does not cross, and
-- it crosses itself where it is below the limit.
use Rattle.std.specs.Prelude.{ℕ, ◌+◌, ◌≤◌, ◌<◌, ◌≡◌, refl, Bool, true, false, not}
use Rattle.std.proofs.Common.{sym, ap, ◌∙◌, arith}
use Rattle.std.proofs.Math.Decide.{dec_lt}
use Rattle.std.specs.Int.Bits.{bit_or, or_zero_r}
use Rattle.meaning.specs.declared.Answer.{Answer}
use Rattle.meaning.specs.Rules.Trees.{Tree}
use Rattle.meaning.specs.Rules.Answers.{answer}
use Rattle.meaning.specs.Rules.Search.{lowest}
use Rattle.meaning.specs.Rules.Assignments.{drive, upto}
use Rattle.meaning.specs.Rules.Comparison.{same_answer}
use Rattle.meaning.specs.Rules.Separation.{crosses}
use Rattle.meaning.proofs.Laws.BoolLaws.{true_false, not_true}
use Rattle.meaning.proofs.Laws.SearchLaws.{lowest_only}
use Rattle.meaning.proofs.Laws.AssignmentLaws.{same_answer_refl}
use Rattle.subsets.specs.Among.{Among, among_le}
use Rattle.subsets.specs.Next.{IsNext}
use Rattle.crossings.specs.Blocks.{Lower, Blocks}

-- x has no bit of the mask, so that a block is in the order of its run bits; and no word of a mask has one of another's
abbrev pub ApartFrom : ℕ → ℕ → Type 0
ApartFrom marked x = (y : ℕ) → Among marked y → bit_or x y ≡ x + y

abbrev pub Apart : ℕ → ℕ → Type 0
Apart free marked = (x : ℕ) → Among free x → ApartFrom marked x

module _ (t : Tree) (n : ℕ) where
  -- the root's answer at assignment i of n variables, and whether it is another than at x
  abbrev pub answer_at : ℕ → Answer
  answer_at i = answer (drive (upto n) i) t

  abbrev pub differs : ℕ → ℕ → Bool
  differs x i = not (same_answer (answer_at i) (answer_at x))

  -- ---- one block: up to y, nothing of it that is below `best` differs from its base x
  abbrev pub NoneInBlock : ℕ → ℕ → ℕ → ℕ → Type 0
  NoneInBlock marked x y best = (z : ℕ) → Among marked z → z ≤ y → bit_or x z < best → differs x (bit_or x z) ≡ false

  -- an assignment of the block that does
  pub record Differing (marked x found : ℕ) : Type 0 where
    pub rest : ℕ
    pub is_rest : Among marked rest
    pub is : found ≡ bit_or x rest
    pub here : differs x (bit_or x rest) ≡ true

  -- `found` is `best`, or lower and one of those
  abbrev pub Lowered : ℕ → ℕ → ℕ → ℕ → Type 0
  Lowered marked x best found = (found ≤ best) × (found < best → Differing marked x found)

  module _ (marked x : ℕ) where
    pub lowered_none : (best : ℕ) → Lowered marked x best best
    lowered_none best = (omega arith, λ l. absurd (omega arith))

    -- the base answers as itself
    pub block_start : (best : ℕ) → NoneInBlock marked x 0 best
    block_start best z a h l =
        let e : z ≡ 0 = omega arith in
        let own : bit_or x z ≡ x = ap (bit_or x) e ∙ or_zero_r x in
        rw own (ap not (same_answer_refl (answer_at x)))

    module _ (y z : ℕ) (next : IsNext marked y z) where
      pub block_next : (best : ℕ) → NoneInBlock marked x y best → differs x (bit_or x z) ≡ false → NoneInBlock marked x z best
      block_next best none same w a h l = elim (dec_lt y w) [
        | yes k ↦ let e : w ≡ z = omega (arith, h, next.least w a k) in rw e same
        | no k ↦ none w a (omega (arith, k)) l
      ]

      -- what is left of the block is not below z
      pub block_rest : ApartFrom marked x → (best found : ℕ) → NoneInBlock marked x y best → found ≤ best → found ≤ bit_or x z
          → NoneInBlock marked x marked found
      block_rest apart best found none low rest w a h l = elim (dec_lt y w) [
        | yes k ↦ absurd (omega (arith, l, rest, next.least w a k, apart w a, apart z next.among))
        | no k ↦ none w a (omega (arith, k)) (omega (arith, l, low))
      ]

      -- z differs, and is below the lowest so far
      pub block_found : (best : ℕ) → bit_or x z < best → differs x (bit_or x z) ≡ true → Lowered marked x best (bit_or x z)
      block_found best low here = (omega (arith, low), λ l. record { rest = z; is_rest = next.among; is = refl; here = here })

  -- ---- block after block: of the blocks up to x, nothing that is below `best` differs from its base
  abbrev pub NoneTo : ℕ → ℕ → ℕ → ℕ → Type 0
  NoneTo free marked x best = (w : ℕ) → Among free w → w ≤ x → NoneInBlock marked w marked best

  -- `best` is the limit, or lower and of a block
  abbrev pub LoweredTo : ℕ → ℕ → ℕ → ℕ → Type 0
  LoweredTo free marked limit best = (best ≤ limit) × (best < limit → (w : ℕ) × Among free w × Differing marked w best)

  module _ (free marked : ℕ) where
    pub first_block : (best : ℕ) → NoneInBlock marked 0 marked best → NoneTo free marked 0 best
    first_block best none w a h = let e : w ≡ 0 = omega arith in rw e none

    pub next_block : (x z best found : ℕ) → IsNext free x z → Lowered marked z best found → NoneTo free marked x best
        → NoneInBlock marked z marked found → NoneTo free marked z found
    next_block x z best found next low none here w a h = elim (dec_lt x w) [
      | yes k ↦ let e : w ≡ z = omega (arith, h, next.least w a k) in rw e here
      | no k ↦ λ q b i l. none w a (omega (arith, k)) q b i (omega (arith, l, low.0))
    ]

    pub next_lowered : (limit x best found : ℕ) → Among free x → LoweredTo free marked limit best → Lowered marked x best found
        → LoweredTo free marked limit found
    next_lowered limit x best found a f g = (
      omega (arith, f.0, g.0),
      λ l. elim (dec_lt found best) [
        | yes h ↦ (x, a, g.1 h)
        | no h ↦ let e : found ≡ best = omega (arith, g.0, h) in rw e (f.1 (omega (arith, e, l)))
      ],
    )

    -- what is left of the blocks is not below the first of the next that is no base
    pub blocks_rest : Apart free marked → (x z first best : ℕ) → IsNext free x z → IsNext marked 0 first → best ≤ bit_or z first
        → NoneTo free marked x best → NoneTo free marked free best
    blocks_rest apart x z first best next least rest none w a h = elim (dec_lt x w) [
      | yes k ↦ λ q b i l. elim (dec_lt 0 q) [
        | yes some ↦
            absurd (omega (arith, l, rest, next.least w a k, least.least q b some, apart w a q b, apart z next.among first least.among))
        | no none ↦ block_start marked w best q b (omega (arith, none)) l
      ]
      | no k ↦ none w a (omega (arith, k))
    ]

    -- ---- all blocks are gone through
    module _ (run limit best : ℕ) (blocks : Blocks t n run limit free marked) where
      -- an assignment of a block crosses exactly if it differs from the base, its cleared self
      crosses_is : (x y : ℕ) → Among free x → Among marked y → crosses t n run (bit_or x y) ≡ differs x (bit_or x y)
      crosses_is x y a b = ap (λ (c : Answer). not (same_answer (answer_at (bit_or x y)) c)) (blocks.cleared x y a b)

      pub blocks_done : LoweredTo free marked limit best → NoneTo free marked free best → best ≡ lowest (crosses t n run) limit
      blocks_done low none =
          sym (lowest_only (crosses t n run) limit best (record {
            after = omega arith;
            within = low.0;
            passes = λ l. found (low.1 l);
            before = λ j a b. not_true (crosses t n run j) (λ c. not_below j b (blocks.all j (omega (arith, b, low.0)) c));
          }))
        where
          found : (w : ℕ) × Among free w × Differing marked w best → crosses t n run best ≡ true
          found (w, a, d) = ap (crosses t n run) d.is ∙ crosses_is w d.rest a d.is_rest ∙ d.here

          not_below : (j : ℕ) → j < best → Lower t n run free marked j → ⊥
          not_below j b at =
              true_false (sym (crosses_is at.base at.rest at.is_base at.is_rest) ∙ at.here)
              (none at.base at.is_base (among_le free at.base at.is_base) at.rest at.is_rest (among_le marked at.rest at.is_rest) (omega (arith, b, at.lower)))
