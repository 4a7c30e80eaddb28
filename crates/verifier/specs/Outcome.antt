-- The row of tests, and the verifier's call, way by way: what is answered, and what the work space holds.
use Rattle.std.specs.Prelude.{ℕ, ◌<◌, ◌≡◌, ◌≢◌, List, [], ◌∷◌, length, Ok, Err}
use Rattle.std.proofs.Math.Path.{refl, ap, ap₂}
use Rattle.std.proofs.Common.{sym, ◌∙◌, arith, eqb-true, eq-eqb}
use Rattle.meaning.specs.declared.Refusal.{Refusal}
use Rattle.meaning.specs.Rules.Trees.{node_count}
use Rattle.meaning.specs.Rules.Numbers.{no_root}
use Rattle.meaning.specs.Rules.Lent.{cleared}
use Rattle.meaning.specs.Rules.Refusals.{refuse, ◌then◌, at_lowest, work_after}
use Rattle.meaning.specs.Rules.Refusals as refusals
use Rattle.meaning.specs.Rules.Layout.{sizes, work_for, room, layout_fault, layout}
use Rattle.meaning.specs.Rules.Verification.{verify_fault, verification}
use Rattle.meaning.specs.Rules.Evaluable.{rooted, shape_fault, evaluability, sound}
use Rattle.meaning.specs.Rules.Calls.{verify_refusal, verified, Verified, verify}
use Rattle.meaning.specs.Claims.Terms.{Says}
use Rattle.meaning.proofs.Laws.RefusalLaws.{then_first, work_cleared, answered_refused, done_of_ok, refused_of_err}
use Rattle.meaning.proofs.Laws.NumberLaws.{then_go, then_stop, then_joined, then_says, never}
use Rattle.meaning.proofs.Laws.ColumnLaws.{layout_says, verification_says, rooted_passed}
use Rattle.sizes.specs.Lent.{lent_row, lent_room, lent_keeps}
use Rattle.columns.specs.ColumnLaws.{cleared_alike}

module _ (ns ps : List ℕ) where
  -- ---- each test is a search
  pub layout_search : at_lowest (node_count ns) (layout_fault ns ps) ≡ layout ns ps
  unfolding layout
  layout_search = refl

  pub verification_search : at_lowest (node_count ns) (verify_fault ns ps) ≡ verification ns ps
  unfolding verification
  verification_search = refl

  pub evaluability_search : at_lowest (node_count ns) (shape_fault ns ps) ≡ evaluability ns ps
  unfolding evaluability
  evaluability_search = refl

  -- ---- 3 to 8: the row goes on past 6
  abbrev pub to_six : Refusal
  to_six = layout ns ps then verification ns ps

  abbrev from_seven : Refusal
  from_seven = rooted ns then evaluability ns ps

  cut : (to_six then from_seven) ≡ sound ns ps
  unfolding sound
  cut = then_joined (layout ns ps) (verification ns ps) from_seven

  pub six_laid : to_six.number ≡ 0 → (layout ns ps).number ≡ 0
  six_laid h = eqb-true (layout ns ps).number 0 (then_first (layout ns ps) (verification ns ps) (eq-eqb to_six.number 0 h))

  -- a list past 8 is past 6
  pub sound_six : (sound ns ps).number ≡ 0 → to_six.number ≡ 0
  sound_six h =
      let row : (to_six then from_seven).number ≡ 0 = ap (λ (r : Refusal). r.number) cut ∙ h in
      eqb-true to_six.number 0 (then_first to_six from_seven (eq-eqb (to_six then from_seven).number 0 row))

  pub sound_stops : to_six.number ≢ 0 → to_six ≡ sound ns ps
  sound_stops h = sym (then_stop to_six from_seven h) ∙ cut

  pub sound_empty : to_six.number ≡ 0 → node_count ns ≡ 0 → refuse no_root 0 ≡ sound ns ps
  sound_empty h none =
      let refused : rooted ns ≡ refuse no_root 0 = rw none in
      let stopped : (rooted ns).number ≢ 0 = λ z. omega (arith, ap (λ (r : Refusal). r.number) refused, z) in
      sym refused ∙ sym (then_stop (rooted ns) (evaluability ns ps) stopped) ∙ sym (then_go to_six from_seven h) ∙ cut

  pub sound_goes : to_six.number ≡ 0 → 0 < node_count ns → evaluability ns ps ≡ sound ns ps
  sound_goes h some =
      let passed : (rooted ns).number ≡ 0 = (rooted_passed ns ps).when.1 some in
      sym (then_go (rooted ns) (evaluability ns ps) passed) ∙ sym (then_go to_six from_seven h) ∙ cut

  -- ---- the call
  module _ (work : List ℕ) where
    abbrev lent : Refusal
    lent = lent_row ns ps (length work)

    -- 1, 2 and 10, then the rest
    row : (lent then to_six) ≡ verify_refusal ns ps (length work)
    unfolding verify_refusal
    row = then_joined (sizes ns ps) (room (work_for ns ps) (length work)) to_six

    outcome : (r : Refusal) (left : List ℕ) → r ≡ (lent then to_six) → left ≡ work_after r work → verified r left ≡ verify ns ps work
    unfolding verify
    outcome r left e f = let whole = e ∙ row in ap₂ verified whole (f ∙ ap (λ (x : Refusal). work_after x work) whole)

    -- 1, 2 or 10 refuses
    pub refused_lent : lent.number ≢ 0 → verified lent work ≡ verify ns ps work
    refused_lent h = outcome lent work (sym (then_stop lent to_six h)) (sym (lent_keeps ns ps work h))

    -- the rest of the row answers
    pub answered : lent.number ≡ 0 → verified to_six (cleared work) ≡ verify ns ps work
    unfolding cleared
    answered h = outcome to_six (cleared work) (sym (then_go lent to_six h)) (sym swept)
      where
        says : Says to_six (3 ∷ 4 ∷ 5 ∷ 6 ∷ [])
        says = then_says (layout_says ns ps) (verification_says ns ps)

        swept : work_after to_six work ≡ cleared work
        swept = work_cleared to_six work (never says 1 refl) (never says 2 refl) (never says 10 refl)

    -- ---- the same of what the code answers
    module _ (e : Refusal) (stop : refusals.answered lent ≡ Err e) where
      stopped : verified lent work ≡ verify ns ps work
      stopped = refused_lent (refused_of_err lent e stop).1

      pub lent_answer : Err e ≡ refusals.answered (verify ns ps work).answer
      lent_answer = sym stop ∙ ap (λ (x : Verified). refusals.answered x.answer) stopped

      pub lent_work : work ≡ (verify ns ps work).work
      lent_work = ap (λ (x : Verified). x.work) stopped

    module _ (go : refusals.answered lent ≡ Ok tt) where
      rest_whole : verified to_six (cleared work) ≡ verify ns ps work
      rest_whole = answered (done_of_ok lent go)

      pub rest_answers : refusals.answered to_six ≡ refusals.answered (verify ns ps work).answer
      rest_answers = ap (λ (x : Verified). refusals.answered x.answer) rest_whole

      pub rest_works : cleared work ≡ (verify ns ps work).work
      rest_works = ap (λ (x : Verified). x.work) rest_whole

-- what the proof of the call rests on
pub ruleset call = (lent_answer, lent_work, rest_answers, rest_works, lent_room, cleared_alike)
