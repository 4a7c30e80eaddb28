-- The evaluator's call, way by way: what is answered, and what the work space and the output hold.
use Rattle.std.specs.Prelude.{ℕ, ◌-◌, ◌≡◌, ◌≢◌, length, Ok, Err}
use Rattle.std.proofs.Math.Path.{refl, ap, ap₂}
use Rattle.std.proofs.Common.{sym, ◌∙◌, eq-eqb, ne_eqb}
use mathlib.Core.List.{List, [], ◌∷◌}
use Rattle.meaning.specs.declared.Refusal.{Refusal}
use Rattle.meaning.specs.Rules.Calls.{Evaluation}
use Rattle.meaning.specs.declared.Answer.{Answer}
use Rattle.meaning.specs.Rules.Trees.{root_of}
use Rattle.meaning.specs.Rules.Answers.{answer, blank}
use Rattle.meaning.specs.Rules.Assignments.{given}
use Rattle.meaning.specs.Rules.Lent.{cleared, output_after}
use Rattle.meaning.specs.Rules.Refusals.{is_done, ◌then◌, work_after}
use Rattle.meaning.specs.Rules.Layout.{sizes, work_for, room}
use Rattle.meaning.specs.Rules.Evaluable.{sound}
use Rattle.meaning.specs.Rules.Pairs.{pairs}
use Rattle.meaning.specs.Rules.Refusals as refusals
use Rattle.meaning.specs.Rules.Calls.{assigned, fits_pairs, evaluate_refusal, evaluated, evaluation, evaluation_result, Evaluated, evaluate}
use Rattle.meaning.specs.Claims.Terms.{Says}
use Rattle.meaning.proofs.Laws.RefusalLaws.{refused_output, work_cleared, with_done, with_refused, done_of_ok, refused_of_err}
use Rattle.meaning.proofs.Laws.NumberLaws.{then_go, then_stop, then_joined, then_says, never}
use Rattle.meaning.proofs.Laws.ColumnLaws.{sound_says, assigned_says, pairs_says}
use Rattle.sizes.specs.Lent.{lent_row, lent_room, lent_keeps}
use Rattle.columns.specs.ColumnLaws.{cleared_alike}

-- a refusal, with "an answer width 0 and value 0"
abbrev pub refused_with : Refusal → Evaluation
refused_with r = record { refusal = r; answer = blank }

-- 3 to 8, 12 and 19, for so many words of output
abbrev pub rest_row : List ℕ → List ℕ → List ℕ → ℕ → Refusal
rest_row ns ps bytes out = sound ns ps then assigned bytes then fits_pairs ns out

-- what they leave to be answered and written
abbrev pub rest_answer : List ℕ → List ℕ → List ℕ → List ℕ → Evaluation
rest_answer ns ps bytes out = evaluation (rest_row ns ps bytes (length out)) ns ps bytes

abbrev pub rest_output : List ℕ → List ℕ → List ℕ → List ℕ → List ℕ
rest_output ns ps bytes out = output_after (is_done (rest_row ns ps bytes (length out))) (pairs ns ps bytes) out

module _ (ns ps bytes : List ℕ) where
  -- ---- what an evaluation answers
  pub evaluation_refused : (r : Refusal) → r.number ≢ 0 → refused_with r ≡ evaluation r ns ps bytes
  unfolding evaluation
  evaluation_refused r h = rw (ne_eqb r.number 0 h)

  pub evaluation_done : (r : Refusal) (a : Answer) → r.number ≡ 0 → a ≡ answer (given bytes) (root_of ns ps)
      → record { refusal = r; answer = a } ≡ evaluation r ns ps bytes
  unfolding evaluation
  evaluation_done r a h e = rw (eq-eqb r.number 0 h, e)

  -- ---- 3 to 8, 12 or 19 refuses
  module _ (out : List ℕ) (e : Refusal) (stop : refusals.answered (rest_row ns ps bytes (length out)) ≡ Err e) where
    pub row_answer : Err e ≡ evaluation_result (rest_answer ns ps bytes out)
    row_answer =
        let refused = refused_of_err (rest_row ns ps bytes (length out)) e stop in
        ap Err (sym refused.0) ∙ sym (with_refused (rest_row ns ps bytes (length out)) blank refused.1)
        ∙ ap evaluation_result (evaluation_refused (rest_row ns ps bytes (length out)) refused.1)

    pub row_out : out ≡ rest_output ns ps bytes out
    row_out =
        sym (refused_output (rest_row ns ps bytes (length out)) (pairs ns ps bytes) out (refused_of_err (rest_row ns ps bytes (length out)) e stop).1)

  -- ---- the call
  module _ (work out : List ℕ) where
    abbrev lent : Refusal
    lent = lent_row ns ps (length work)

    abbrev rest : Refusal
    rest = rest_row ns ps bytes (length out)

    row : (lent then rest) ≡ evaluate_refusal ns ps bytes (length work) (length out)
    unfolding evaluate_refusal
    row = then_joined (sizes ns ps) (room (work_for ns ps) (length work)) rest

    outcome : (r : Refusal) (e : Evaluation) (left written : List ℕ) → r ≡ (lent then rest) → e ≡ evaluation r ns ps bytes → left ≡ work_after r work
        → written ≡ output_after (is_done r) (pairs ns ps bytes) out → evaluated e left written ≡ evaluate ns ps bytes work out
    unfolding evaluate
    outcome r e left written is f g h =
        let whole : r ≡ evaluate_refusal ns ps bytes (length work) (length out) = is ∙ row in
        ap (λ (x : Evaluation). evaluated x left written) (f ∙ ap (λ (x : Refusal). evaluation x ns ps bytes) whole)
        ∙ ap₂ (λ (w o : List ℕ). evaluated (evaluation (evaluate_refusal ns ps bytes (length work) (length out)) ns ps bytes) w o)
        (g ∙ ap (λ (x : Refusal). work_after x work) whole) (h ∙ ap (λ (x : Refusal). output_after (is_done x) (pairs ns ps bytes) out) whole)

    -- 1, 2 or 10 refuses
    pub refused_lent : lent.number ≢ 0 → evaluated (refused_with lent) work out ≡ evaluate ns ps bytes work out
    refused_lent h =
        outcome lent (refused_with lent) work out (sym (then_stop lent rest h)) (evaluation_refused lent h) (sym (lent_keeps ns ps work h))
        (sym (refused_output lent (pairs ns ps bytes) out h))

    -- the rest of the row answers
    pub answered : lent.number ≡ 0
        → evaluated (evaluation rest ns ps bytes) (cleared work) (output_after (is_done rest) (pairs ns ps bytes) out) ≡ evaluate ns ps bytes work out
    unfolding cleared
    answered h =
        outcome rest (evaluation rest ns ps bytes) (cleared work) (output_after (is_done rest) (pairs ns ps bytes) out) (sym (then_go lent rest h)) refl (sym swept) refl
      where
        says : Says rest (3 ∷ 4 ∷ 5 ∷ 6 ∷ 7 ∷ 8 ∷ 12 ∷ 19 ∷ [])
        says = then_says (sound_says ns ps) (then_says (assigned_says bytes) (pairs_says ns (length out)))

        swept : work_after rest work ≡ cleared work
        swept = work_cleared rest work (never says 1 refl) (never says 2 refl) (never says 10 refl)

    -- ---- the same of what the code answers: 1, 2 or 10 refuses
    module _ (e : Refusal) (stop : refusals.answered lent ≡ Err e) where
      stopped : evaluated (refused_with lent) work out ≡ evaluate ns ps bytes work out
      stopped = refused_lent (refused_of_err lent e stop).1

      pub lent_answer : Err e ≡ evaluation_result (evaluate ns ps bytes work out).answer
      lent_answer =
          let refused = refused_of_err lent e stop in
          ap Err (sym refused.0) ∙ sym (with_refused lent blank refused.1) ∙ ap (λ (x : Evaluated). evaluation_result x.answer) stopped

      pub lent_work : work ≡ (evaluate ns ps bytes work out).work
      lent_work = ap (λ (x : Evaluated). x.work) stopped

      pub lent_out : out ≡ (evaluate ns ps bytes work out).out
      lent_out = ap (λ (x : Evaluated). x.out) stopped

    -- the rest of the row answers
    module _ (go : refusals.answered lent ≡ Ok tt) where
      whole : evaluated (rest_answer ns ps bytes out) (cleared work) (rest_output ns ps bytes out) ≡ evaluate ns ps bytes work out
      whole = answered (done_of_ok lent go)

      pub rest_answers : evaluation_result (rest_answer ns ps bytes out) ≡ evaluation_result (evaluate ns ps bytes work out).answer
      rest_answers = ap (λ (x : Evaluated). evaluation_result x.answer) whole

      pub rest_works : cleared work ≡ (evaluate ns ps bytes work out).work
      rest_works = ap (λ (x : Evaluated). x.work) whole

      pub rest_outs : rest_output ns ps bytes out ≡ (evaluate ns ps bytes work out).out
      rest_outs = ap (λ (x : Evaluated). x.out) whole

-- what the proof of the call rests on
pub ruleset call = (lent_answer, lent_work, lent_out, rest_answers, rest_works, rest_outs, lent_room, cleared_alike)
