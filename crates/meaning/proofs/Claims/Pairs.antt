-- The evaluator's pairs, node by node (document 01, "Answers of a node"): which words of the output are whose, and what they
-- say.
use Rattle.std.specs.Prelude.{ℕ, ◌+◌, ◌*◌, ◌<◌, ◌≡◌, ◌≢◌, ◌⊎◌, List, Bool, ◌&&◌, get_or}
use Rattle.std.proofs.Math.Path.{refl}
use Rattle.std.proofs.Common.{ap, subst, ◌∙◌, arith}
use Rattle.std.proofs.Math.Logic.{⊎_elim}
use Rattle.std.proofs.Math.Bool.{true, false}
use borrow.Author.Tests.{eq-eqb, ne_eqb}
use Rattle.meaning.specs.declared.Failure.{Failure}
use Rattle.meaning.specs.declared.Answer.TheVariants.{Value, Failed}
use Rattle.meaning.specs.Rules.Kinds.{program_word}
use Rattle.meaning.specs.Rules.Trees.{node_count, kind_at, tree_of}
use Rattle.meaning.specs.Rules.Reach.{reachable}
use Rattle.meaning.specs.Rules.Answers.{Assignment, answer, failure_number, state_of, value_of}
use Rattle.meaning.specs.Rules.Assignments.{given}
use Rattle.meaning.specs.Rules.Pairs.{no_answer, state_at, value_at, pairs_to, pairs}
use Rattle.meaning.proofs.Laws.PairLaws.{pairs_at}

module _ (ns ps : List ℕ) (α : Assignment) where
  -- ---- a reachable node that is no Program has its answer's pair
  pub pair_answered : (i : ℕ) → reachable ns ps i ≡ true → kind_at ns i ≢ program_word
      → (state_at ns ps α i ≡ state_of (answer α (tree_of ns ps i))) × (value_at ns ps α i ≡ value_of (answer α (tree_of ns ps i)))
  unfolding state_at value_at
  pair_answered i reached other =
      let no : _ = ne_eqb (kind_at ns i) program_word other in
      (rw (reached, no), rw (reached, no))

  -- "0 and the value"
  pub pair_value : (i w v : ℕ) → reachable ns ps i ≡ true → kind_at ns i ≢ program_word → answer α (tree_of ns ps i) ≡ Value w v
      → (state_at ns ps α i ≡ 0) × (value_at ns ps α i ≡ v)
  pair_value i w v reached other is =
      let pair = pair_answered i reached other in
      (pair.0 ∙ ap state_of is, pair.1 ∙ ap value_of is)

  -- "1 to 4 for a failure and 0"
  pub pair_failure : (i : ℕ) (f : Failure) → reachable ns ps i ≡ true → kind_at ns i ≢ program_word → answer α (tree_of ns ps i) ≡ Failed f
      → (state_at ns ps α i ≡ failure_number f) × (value_at ns ps α i ≡ 0)
  pair_failure i f reached other is =
      let pair = pair_answered i reached other in
      (pair.0 ∙ ap state_of is, pair.1 ∙ ap value_of is)

  -- "or 5 and 0 for Programs and unreachable nodes"
  pub pair_none : (i : ℕ) → (kind_at ns i ≡ program_word) ⊎ (reachable ns ps i ≡ false) → (state_at ns ps α i ≡ no_answer) × (value_at ns ps α i ≡ 0)
  unfolding state_at value_at
  pair_none i none =
      ⊎_elim
      (λ is. let yes : _ = eq-eqb (kind_at ns i) program_word is in let no : _ = never (reachable ns ps i) in (rw (yes, no), rw (yes, no)))
      (λ unreached. (rw unreached, rw unreached)) none
    where
      never : (b : Bool) → (b && false) ≡ false
      never true = refl
      never false = refl

-- ---- where it stands: the pair of node i at the words 2 i and 2 i + 1
pub pair_at : (ns ps bytes : List ℕ) (i : ℕ) → i < node_count ns
    → (get_or (pairs ns ps bytes) (2 * i) 0 ≡ state_at ns ps (given bytes) i) × (get_or (pairs ns ps bytes) (2 * i + 1) 0 ≡ value_at ns ps (given bytes) i)
unfolding pairs
pair_at ns ps bytes i l =
    let even : 2 * i + 0 ≡ 2 * i = omega arith in (
      subst (λ (k : ℕ). get_or (pairs_to ns ps (given bytes) (node_count ns)) k 0 ≡ state_at ns ps (given bytes) i) even
          (pairs_at ns ps (given bytes) (node_count ns) i 0 (omega arith) l),
      pairs_at ns ps (given bytes) (node_count ns) i 1 (omega arith) l,
    )
