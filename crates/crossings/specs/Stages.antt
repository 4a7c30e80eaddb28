-- Stage after stage: the assignments of the first s variables come before all others, so a crossing among them is the
-- lowest, and where there is none the next stage has more variables.
use Rattle.std.specs.Prelude.{ℕ, zero, ◌^◌, ◌≤◌, ◌<◌, ◌≡◌, refl, Bool, true, false, cond, not}
use Rattle.std.proofs.Math.Path.{sym}
use Rattle.std.proofs.Common.{ap, ◌∙◌, arith}
use Rattle.std.proofs.Math.Pow.{pow_mono}
use Rattle.meaning.specs.Rules.Words.{bit_at}
use Rattle.meaning.specs.Rules.Trees.{Tree}
use Rattle.meaning.specs.Rules.Answers.{Assignment, answer}
use Rattle.meaning.specs.Rules.Search.{lowest}
use Rattle.meaning.specs.Rules.Comparison.{same_answer}
use Rattle.meaning.specs.Rules.Separation.{is_marked, crosses, crossing_index}
use Rattle.meaning.specs.Claims.Terms.{as_run}
use Rattle.meaning.proofs.Laws.BoolLaws.{true_false, not_true}
use Rattle.meaning.proofs.Laws.SearchLaws.{lowest_is, lowest_only, lowest_none}
use Rattle.meaning.proofs.Laws.AssignmentLaws.{same_answer_refl}
use Rattle.bits.specs.Bit.{bit_zero}
use Rattle.input_bits.specs.Seen.{IsMask}
use Rattle.crossings.specs.Driven.{cleared_is}
use Rattle.crossings.specs.Blocks.{crossing_among}

module _ (t : Tree) (n run : ℕ) where
  -- no assignment of the first s variables crosses
  abbrev pub NoneOf : ℕ → Type 0
  NoneOf s = lowest (crosses t n run) (2 ^ s) ≡ 2 ^ s

  -- assignment 0 is its own cleared self
  pub none_of_none : run < 2 ^ n → NoneOf 0
  none_of_none marks = lowest_none (crosses t n run) (2 ^ 0) (λ j b. let e : j ≡ 0 = omega (arith, b) in rw e own)
    where
      zeros : (b : Bool) → cond b 0 0 ≡ zero
      zeros true = refl
      zeros false = refl

      clear : (v : ℕ) → v < n → bit_at 0 v ≡ cond (is_marked run v) 0 (bit_at 0 v)
      clear v h = bit_zero v ∙ sym (ap (λ (b : ℕ). cond (is_marked run v) 0 b) (bit_zero v) ∙ zeros (is_marked run v))

      own : crosses t n run 0 ≡ false
      own =
          ap (λ (α : Assignment). not (same_answer (as_run t n run 0) (answer α t))) (cleared_is n run marks 0 0 clear)
          ∙ ap not (same_answer_refl (as_run t n run 0))

  module _ (s : ℕ) (within : s ≤ n) where
    pub stage_found : (i : ℕ) → i ≡ lowest (crosses t n run) (2 ^ s) → i < 2 ^ s → i ≡ crossing_index t n run
    unfolding crossing_index
    stage_found i e h =
        let found = lowest_is (crosses t n run) (2 ^ s) in
        sym (lowest_only (crosses t n run) (2 ^ n) i (record {
          after = omega arith;
          within = omega (arith, h, pow_mono within);
          passes = λ l. rw e (found.passes (omega (arith, e, h)));
          before = λ j a b. found.before j a (omega (arith, b, e));
        }))

    pub stage_none : (i : ℕ) → i ≡ lowest (crosses t n run) (2 ^ s) → (i < 2 ^ s → ⊥) → NoneOf s
    stage_none i e h = omega (arith, e, h, (lowest_is (crosses t n run) (2 ^ s)).within)

  -- the last stage has all variables below the root, so there is no crossing at all
  module _ (inputs : ℕ) (mask : IsMask t inputs) (inputs_small : inputs < 2 ^ n) (marks : run < 2 ^ n) (few : n ≤ 64) where
    pub none_crosses : (s : ℕ) → inputs < 2 ^ s → NoneOf s → 2 ^ n ≡ crossing_index t n run
    unfolding crossing_index
    none_crosses s all none =
        sym (lowest_none (crosses t n run) (2 ^ n) (λ j l.
        not_true (crosses t n run j) (λ c.
        let (k, below, here) = crossing_among t n run inputs mask inputs_small marks few j l c in
        true_false here ((lowest_is (crosses t n run) (2 ^ s)).before k (omega arith) (omega (arith, below, all, none))))))
