-- A list that the numbers 1 to 8 let pass, as a program asks before a search: yes or no, and what is left in the work
-- space.
use Rattle.std.specs.Prelude.{ℕ, ◌+◌, ◌*◌, ◌≤◌, ◌≡◌, ◌≢◌, List, Bool, true, false, cond, ◌&&◌, length, eqb, is_ok, Result, Ok, Err, ⊤}
use Rattle.meaning.specs.declared.Refusal.{Refusal}
use Rattle.meaning.specs.Rules.Refusals.{is_done, answered}
use Rattle.meaning.proofs.Laws.RefusalLaws.{done_of_ok, refused_of_err}
use Rattle.std.proofs.Common.{◌∙◌, eq-eqb, ne_eqb, eqb-true}
use Rattle.std.proofs.Math.Path.{subst, refl}
use Rattle.std.proofs.Math.Bool.{and-eq-true_iff}
use Rattle.meaning.specs.Rules.Limits.{work_per_node}
use Rattle.meaning.specs.Rules.Trees.{node_count}
use Rattle.meaning.specs.Rules.Layout.{sizes}
use Rattle.meaning.specs.Rules.Evaluable.{sound}
use Rattle.verifier.specs.Left.{sound_work}
use Rattle.rows.specs.Rows.{Prepared}
use Rattle.pass.specs.Prepared.{sound_prepares}

unfoldable pub is_accepted : List ℕ → List ℕ → Bool
is_accepted ns ps = eqb (sizes ns ps).number 0 && eqb (sound ns ps).number 0

-- the numbers 1 and 2 need no work space
unfoldable pub work_left : List ℕ → List ℕ → List ℕ → List ℕ
work_left ns ps work = cond (eqb (sizes ns ps).number 0) (sound_work ns ps 0 work) work

module _ (ns ps : List ℕ) where
  pub refused_by_size : (sizes ns ps).number ≢ 0 → false ≡ is_accepted ns ps
  unfolding is_accepted
  refused_by_size h = rw (ne_eqb (sizes ns ps).number 0 h)

  pub work_untouched : (work : List ℕ) → (sizes ns ps).number ≢ 0 → work ≡ work_left ns ps work
  unfolding work_left
  work_untouched work h = rw (ne_eqb (sizes ns ps).number 0 h)

  pub then_by_sound : (sizes ns ps).number ≡ 0 → eqb (sound ns ps).number 0 ≡ is_accepted ns ps
  unfolding is_accepted
  then_by_sound e = rw (eq-eqb (sizes ns ps).number 0 e)

  pub work_of_sound : (work : List ℕ) → (sizes ns ps).number ≡ 0 → sound_work ns ps 0 work ≡ work_left ns ps work
  unfolding work_left
  work_of_sound work e = rw (eq-eqb (sizes ns ps).number 0 e)

  -- a list that passes has its marks there
  pub accepted_prepares : (work : List ℕ) → work_per_node * (0 + node_count ns) ≤ length work → is_accepted ns ps ≡ true
      → Prepared ns ps 0 (work_left ns ps work)
  unfolding is_accepted
  accepted_prepares work room h =
      let both = (and-eq-true_iff (eqb (sizes ns ps).number 0) (eqb (sound ns ps).number 0)).0 h in
      subst (Prepared ns ps 0) (work_of_sound work (eqb-true (sizes ns ps).number 0 both.0))
      (sound_prepares ns ps 0 work room (eqb-true (sound ns ps).number 0 both.1))

-- ---- the same of what the code answers
abbrev told : Bool → Refusal → Result ⊤ Refusal
told b x = cond b (Ok tt) (Err x)

is_ok_when : (b : Bool) (x : Refusal) → is_ok (told b x) ≡ b
is_ok_when true x = refl
is_ok_when false x = refl

module _ (ns ps : List ℕ) where
  module _ (e : Refusal) (stop : answered (sizes ns ps) ≡ Err e) where
    pub too_large : false ≡ is_accepted ns ps
    too_large = refused_by_size ns ps (refused_of_err (sizes ns ps) e stop).1

    pub left_alone : (work : List ℕ) → work ≡ work_left ns ps work
    left_alone work = work_untouched ns ps work (refused_of_err (sizes ns ps) e stop).1

  module _ (go : answered (sizes ns ps) ≡ Ok tt) where
    pub sound_decides : is_ok (answered (sound ns ps)) ≡ is_accepted ns ps
    sound_decides = is_ok_when (is_done (sound ns ps)) (sound ns ps) ∙ then_by_sound ns ps (done_of_ok (sizes ns ps) go)

    pub sound_leaves : (work : List ℕ) → sound_work ns ps 0 work ≡ work_left ns ps work
    sound_leaves work = work_of_sound ns ps work (done_of_ok (sizes ns ps) go)

pub ruleset passed = (too_large, left_alone, sound_decides, sound_leaves)
