-- "Prove that no second outcome satisfies that statement": for each public routine, two outcomes that both meet its
-- contract are the same (document 01, "What the contracts owe").
use Rattle.std.specs.Prelude.{ℕ, ◌≡◌, List, Bool, Option, Result, ⊤}
use Rattle.std.proofs.Common.{sym, ap, ◌∙◌}
use Rattle.meaning.specs.declared.Check.{Check}
use Rattle.meaning.specs.declared.Answer.{Answer}
use Rattle.meaning.specs.declared.Refusal.{Refusal}
use Rattle.meaning.specs.declared.Comparison as comparison
use Rattle.meaning.specs.declared.Separation as separation
use Rattle.meaning.specs.declared.Canonical as canonical
use Rattle.meaning.specs.Rules.Refusals.{answered}
use Rattle.meaning.specs.Rules.Calls.{Evaluation, evaluation_result}
use Rattle.meaning.specs.Rules.Comparison.{Comparison, comparison_result}
use Rattle.meaning.specs.Rules.Separation.{Separation, separation_result}
use Rattle.meaning.specs.Rules.Calls.{Canonical, canonical_result}
use Rattle.meaning.specs.declared.OutOfRange.{OutOfRange}
use Rattle.meaning.specs.declared.BitVector.{BitVector}
use Rattle.meaning.specs.declared.Cofactors.{Cofactors}
use Rattle.meaning.specs.declared.TooShort.{TooShort}
use Rattle.meaning.proofs.Laws.AnswerLaws.{lut_bit_only, bit_vector_only, removed_only, table_program_only, cofactors_only, written_only}
use Rattle.meaning.specs.Rules.Tables.{lut_bit_says, bit_vector_says, removed_says, table_program_says, cofactors_say, eval_lut, eval_lut_bv, to_bitvec, remove_lsb_var, eval_lut_const_input, cofactors_in_msb, swap_pos}
use Rattle.meaning.specs.Rules.Verdict.{Displayed, displayed, display}
use Rattle.meaning.specs.Rules.Calls.{Verified, verified, verify, Evaluated, evaluated, evaluate, Compared, compared, compare, Judged, judged, Canonicalised, canonicalised, canonicalise, separate}

-- ---- the calls over node lists: the rules' whole outcome
pub verify_only : (ns ps work : List ℕ) {r r' : Refusal} {w w' : List ℕ}
    → verified r w ≡ verify ns ps work → verified r' w' ≡ verify ns ps work → (r ≡ r') × (w ≡ w')
verify_only ns ps work p q =
    let e = p ∙ sym q in (ap (λ (o : Verified). o.answer) e, ap (λ (o : Verified). o.work) e)

pub evaluate_only : (ns ps bytes work out : List ℕ) {r r' : Evaluation} {w w' o o' : List ℕ}
    → evaluated r w o ≡ evaluate ns ps bytes work out → evaluated r' w' o' ≡ evaluate ns ps bytes work out
    → (r ≡ r') × (w ≡ w') × (o ≡ o')
evaluate_only ns ps bytes work out p q =
    let e = p ∙ sym q in
    (ap (λ (o : Evaluated). o.answer) e, ap (λ (o : Evaluated). o.work) e, ap (λ (o : Evaluated). o.out) e)

pub compare_only : (ns ps ms qs work : List ℕ) {c c' : Comparison} {w w' : List ℕ}
    → compared c w ≡ compare ns ps ms qs work → compared c' w' ≡ compare ns ps ms qs work → (c ≡ c') × (w ≡ w')
compare_only ns ps ms qs work p q =
    let e = p ∙ sym q in (ap (λ (o : Compared). o.answer) e, ap (λ (o : Compared). o.work) e)

pub separate_only : (ns ps : List ℕ) (n run : ℕ) (work : List ℕ) {s s' : Separation} {w w' : List ℕ}
    → judged s w ≡ separate ns ps n run work → judged s' w' ≡ separate ns ps n run work → (s ≡ s') × (w ≡ w')
separate_only ns ps n run work p q =
    let e = p ∙ sym q in (ap (λ (o : Judged). o.answer) e, ap (λ (o : Judged). o.work) e)

pub canonicalise_only : (ns ps work out_nodes out_pool : List ℕ) {c c' : Canonical} {w w' a a' b b' : List ℕ}
    → canonicalised c w a b ≡ canonicalise ns ps work out_nodes out_pool
    → canonicalised c' w' a' b' ≡ canonicalise ns ps work out_nodes out_pool → (c ≡ c') × (w ≡ w') × (a ≡ a') × (b ≡ b')
canonicalise_only ns ps work out_nodes out_pool p q =
    let e = p ∙ sym q in (
      ap (λ (o : Canonicalised). o.answer) e,
      ap (λ (o : Canonicalised). o.work) e,
      ap (λ (o : Canonicalised). o.out_nodes) e,
      ap (λ (o : Canonicalised). o.out_pool) e,
    )

-- and what code hands back of it, by the contracts: a Result, and each lent space
pub verify_result_only : (ns ps work : List ℕ) {r r' : Result ⊤ Refusal} {w w' : List ℕ}
    → r ≡ answered (verify ns ps work).answer → w ≡ (verify ns ps work).work
    → r' ≡ answered (verify ns ps work).answer → w' ≡ (verify ns ps work).work → (r ≡ r') × (w ≡ w')
verify_result_only ns ps work p q p' q' = (p ∙ sym p', q ∙ sym q')

pub evaluate_result_only : (ns ps bytes work out : List ℕ) {r r' : Result Answer Refusal} {w w' o o' : List ℕ}
    → r ≡ evaluation_result (evaluate ns ps bytes work out).answer → w ≡ (evaluate ns ps bytes work out).work
    → o ≡ (evaluate ns ps bytes work out).out
    → r' ≡ evaluation_result (evaluate ns ps bytes work out).answer → w' ≡ (evaluate ns ps bytes work out).work
    → o' ≡ (evaluate ns ps bytes work out).out → (r ≡ r') × (w ≡ w') × (o ≡ o')
evaluate_result_only ns ps bytes work out p q s p' q' s' = (p ∙ sym p', q ∙ sym q', s ∙ sym s')

pub compare_result_only : (ns ps ms qs work : List ℕ) {r r' : Result comparison.Comparison Refusal} {w w' : List ℕ}
    → r ≡ comparison_result (compare ns ps ms qs work).answer → w ≡ (compare ns ps ms qs work).work
    → r' ≡ comparison_result (compare ns ps ms qs work).answer → w' ≡ (compare ns ps ms qs work).work → (r ≡ r') × (w ≡ w')
compare_result_only ns ps ms qs work p q p' q' = (p ∙ sym p', q ∙ sym q')

pub separate_result_only : (ns ps : List ℕ) (n run : ℕ) (work : List ℕ) {r r' : Result separation.Separation Refusal} {w w' : List ℕ}
    → r ≡ separation_result (separate ns ps n run work).answer → w ≡ (separate ns ps n run work).work
    → r' ≡ separation_result (separate ns ps n run work).answer → w' ≡ (separate ns ps n run work).work → (r ≡ r') × (w ≡ w')
separate_result_only ns ps n run work p q p' q' = (p ∙ sym p', q ∙ sym q')

pub canonicalise_result_only : (ns ps work out_nodes out_pool : List ℕ) {r r' : Result canonical.Canonical Refusal} {w w' a a' b b' : List ℕ}
    → r ≡ canonical_result (canonicalise ns ps work out_nodes out_pool).answer → w ≡ (canonicalise ns ps work out_nodes out_pool).work
    → a ≡ (canonicalise ns ps work out_nodes out_pool).out_nodes → b ≡ (canonicalise ns ps work out_nodes out_pool).out_pool
    → r' ≡ canonical_result (canonicalise ns ps work out_nodes out_pool).answer → w' ≡ (canonicalise ns ps work out_nodes out_pool).work
    → a' ≡ (canonicalise ns ps work out_nodes out_pool).out_nodes → b' ≡ (canonicalise ns ps work out_nodes out_pool).out_pool
    → (r ≡ r') × (w ≡ w') × (a ≡ a') × (b ≡ b')
canonicalise_result_only ns ps work out_nodes out_pool p q s t p' q' s' t' = (p ∙ sym p', q ∙ sym q', s ∙ sym s', t ∙ sym t')

-- ---- the truth-table routines
pub eval_lut_only : (p : ℕ) (inputs : List ℕ) (r r' : Result Bool OutOfRange) → lut_bit_says r ≡ eval_lut p inputs → lut_bit_says r' ≡ eval_lut p inputs → r ≡ r'
eval_lut_only p inputs r r' e f = lut_bit_only r r' (e ∙ sym f)

pub eval_lut_bv_only : (p : ℕ) (inputs : List ℕ) (r r' : Result Bool OutOfRange) → lut_bit_says r ≡ eval_lut_bv p inputs → lut_bit_says r' ≡ eval_lut_bv p inputs → r ≡ r'
eval_lut_bv_only p inputs r r' e f = lut_bit_only r r' (e ∙ sym f)

pub to_bitvec_only : (p capacity : ℕ) (r r' : Result BitVector OutOfRange) → bit_vector_says r ≡ to_bitvec p capacity → bit_vector_says r' ≡ to_bitvec p capacity → r ≡ r'
to_bitvec_only p capacity r r' e f = bit_vector_only r r' (e ∙ sym f)

pub remove_lsb_var_only : (p k : ℕ) (r r' : Result (Option ℕ) OutOfRange) → removed_says r ≡ remove_lsb_var p k → removed_says r' ≡ remove_lsb_var p k → r ≡ r'
remove_lsb_var_only p k r r' e f = removed_only r r' (e ∙ sym f)

pub eval_lut_const_input_only : (p msb : ℕ) (v : Bool) (r r' : Result ℕ OutOfRange)
    → table_program_says r ≡ eval_lut_const_input p msb v → table_program_says r' ≡ eval_lut_const_input p msb v → r ≡ r'
eval_lut_const_input_only p msb v r r' e f = table_program_only r r' (e ∙ sym f)

pub cofactors_in_msb_only : (p k : ℕ) (r r' : Result Cofactors OutOfRange) → cofactors_say r ≡ cofactors_in_msb p k → cofactors_say r' ≡ cofactors_in_msb p k → r ≡ r'
cofactors_in_msb_only p k r r' e f = cofactors_only r r' (e ∙ sym f)

pub swap_pos_only : (p k pos : ℕ) (r r' : Result ℕ OutOfRange) → table_program_says r ≡ swap_pos p k pos → table_program_says r' ≡ swap_pos p k pos → r ≡ r'
swap_pos_only p k pos r r' e f = table_program_only r r' (e ∙ sym f)

-- ---- the verdict: its questions, its decision and its constructors answer what a definition says, and that is one thing
pub verdict_only : {A : Type 0} (said : A) {r r' : A} → r ≡ said → r' ≡ said → r ≡ r'
verdict_only said e f = e ∙ sym f

-- an answer that is promised of every x, of which there is one
pub each_only : {A B : Type 0} (said : A → B) (x : A) {r r' : B} → ((y : A) → r ≡ said y) → ((y : A) → r' ≡ said y) → r ≡ r'
each_only said x e f = e x ∙ sym (f x)

pub display_only : (c : Check) (out : List ℕ) (r r' : Result ℕ TooShort) {o o' : List ℕ}
    → displayed r o ≡ display c out → displayed r' o' ≡ display c out → (r ≡ r') × (o ≡ o')
display_only c out r r' p q =
    let e = p ∙ sym q in
    (written_only r r' (ap (λ (d : Displayed). d.number) e) (ap (λ (d : Displayed). d.bytes) e), ap (λ (d : Displayed). d.out) e)
