-- Where the evaluator's pairs stand in its output: node i's at the words 2 i and 2 i + 1.
use Rattle.std.specs.Prelude.{ℕ, zero, suc, ◌+◌, ◌*◌, ◌<◌, ◌≡◌, refl, List, [], ◌∷◌, ◌++◌, length, get_or}
use Rattle.std.proofs.Common.{◌∙◌, arith, length-append}
use Rattle.std.proofs.Math.Decide.{dec_lt}
use Rattle.std.proofs.Math.ListN.{get_or-append}
use Rattle.std.proofs.lemmas.List.{get_or_at}
use Rattle.std.proofs.Math.Seq.{append_snoc}
use Rattle.meaning.specs.Rules.Answers.{Assignment}
use Rattle.meaning.specs.Rules.Pairs.{state_at, value_at, pairs_to}

module _ (ns ps : List ℕ) (α : Assignment) where
  pub pairs_length : (m : ℕ) → length (pairs_to ns ps α m) ≡ 2 * m
  pairs_length zero = refl
  pairs_length (suc m) = length-append (pairs_to ns ps α m) (state_at ns ps α m ∷ value_at ns ps α m ∷ []) ∙ omega (arith, pairs_length m)

  pub pairs_at : (m i k : ℕ) → k < 2 → i < m → get_or (pairs_to ns ps α m) (2 * i + k) 0 ≡ get_or (state_at ns ps α i ∷ value_at ns ps α i ∷ []) k 0
  pairs_at zero i k h l = absurd (omega arith)
  pairs_at (suc m) i k h l = elim (dec_lt i m) [
    | yes below ↦
        get_or-append (pairs_to ns ps α m) (state_at ns ps α m ∷ value_at ns ps α m ∷ []) 0 (2 * i + k) (rw (pairs_length m) (omega arith)) ∙ pairs_at m i k h below
    | no at ↦ let last : i ≡ m = omega arith in rw last (here k h)
  ]
    where
      here : (j : ℕ) → j < 2
          → get_or (pairs_to ns ps α m ++ (state_at ns ps α m ∷ value_at ns ps α m ∷ [])) (2 * m + j) 0 ≡ get_or (state_at ns ps α m ∷ value_at ns ps α m ∷ []) j 0
      here zero g = get_or_at (pairs_to ns ps α m) (state_at ns ps α m) (value_at ns ps α m ∷ []) 0 (2 * m + 0) (pairs_length m ∙ omega arith)
      here (suc zero) g =
          let size : length (pairs_to ns ps α m ++ (state_at ns ps α m ∷ [])) ≡ 2 * m + 1 = length-append (pairs_to ns ps α m) (state_at ns ps α m ∷ []) ∙ omega (arith, pairs_length m) in
          rw (← append_snoc (pairs_to ns ps α m) (state_at ns ps α m) (value_at ns ps α m ∷ []))
          (get_or_at (pairs_to ns ps α m ++ (state_at ns ps α m ∷ [])) (value_at ns ps α m) [] 0 (2 * m + 1) size)
      here (suc (suc j)) g = absurd (omega arith)
