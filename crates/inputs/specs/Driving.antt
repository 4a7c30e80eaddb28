-- "bit j of assignment i drives the j-th smallest variable", in bytes: what a loop from the last variable down has written,
-- and that it is `drive` of meaning's Rules/Assignments where the other bytes are undriven.
use Rattle.std.specs.Prelude.{ℕ, suc, ◌/◌, ◌%◌, ◌^◌, ◌≤◌, ◌<◌, ◌≡◌, refl, List, [], ◌∷◌, Bool, true, false, cond, length, get_or, drop, set, eqb}
use Rattle.std.proofs.Common.{ap, ◌∙◌, arith, add-one, drop-cons, get_or-set_same, get_or-set_other, shr-shr, eqb-true}
use Rattle.std.proofs.Math.Path.{fun_ext}
use Rattle.std.proofs.Math.Seq.{drop-length}
use Rattle.std.proofs.lemmas.Bool.{eqb-false}
use Rattle.meaning.specs.Rules.Limits.{most_inputs}
use Rattle.meaning.specs.Rules.Words.{bit_at}
use Rattle.meaning.specs.Rules.Answers.{Assignment, undriven_byte}
use Rattle.meaning.specs.Rules.Assignments.{given, drive, is_in}
use Rattle.meaning.proofs.Laws.AssignmentLaws.{drive_other}
use Rattle.inputs.specs.Inputs.{AllBelow}

-- "the others are undriven"
abbrev pub OthersUndriven : List ℕ → List ℕ → Type 0
OthersUndriven vs bytes = (v : ℕ) → is_in v vs ≡ false → given bytes v ≡ undriven_byte

-- bytes that the variables can be driven in
pub record Drivable (vs bytes : List ℕ) : Type 0 where
  pub few : length vs ≤ most_inputs
  pub within : AllBelow (length bytes) vs
  pub others : OthersUndriven vs bytes

-- `drive` written over an assignment
abbrev pub drive_over : Assignment → List ℕ → ℕ → Assignment
drive_over old [] i v = old v
drive_over old (x ∷ xs) i v = cond (eqb v x) (i % 2) (drive_over old xs (i / 2) v)

over_is : (old : Assignment) (vs : List ℕ) (i v : ℕ) → (is_in v vs ≡ false → old v ≡ undriven_byte) → drive_over old vs i v ≡ drive vs i v
over_is old [] i v h = h refl
over_is old (x ∷ xs) i v h = go (eqb v x) refl (over_is old xs (i / 2) v)
  where
    go : (b : Bool) → eqb v x ≡ b → ((is_in v xs ≡ false → old v ≡ undriven_byte) → drive_over old xs (i / 2) v ≡ drive xs (i / 2) v)
        → drive_over old (x ∷ xs) i v ≡ drive (x ∷ xs) i v
    go true e ih = rw e
    go false e ih = rw e (ih (λ k. h (rw e k)))

-- one byte stored
given_set : (bytes : List ℕ) (x b v : ℕ) → x < length bytes → given (set bytes x b) v ≡ cond (eqb v x) b (given bytes v)
given_set bytes x b v h = go (eqb v x) refl
  where
    go : (t : Bool) → eqb v x ≡ t → given (set bytes x b) v ≡ cond (eqb v x) b (given bytes v)
    go true e = rw (e, eqb-true v x e) (get_or-set_same bytes x b undriven_byte h)
    go false e = rw e (get_or-set_other bytes x v b undriven_byte (eqb-false v x e))

-- ---- as the loop goes: the variables from the j-th on are driven
module _ (old : List ℕ) (vs : List ℕ) (index : ℕ) where
  abbrev pub DrivenFrom : ℕ → List ℕ → Type 0
  DrivenFrom j bytes = (v : ℕ) → given bytes v ≡ drive_over (given old) (drop j vs) (index / 2 ^ j) v

  pub drive_none : DrivenFrom (length vs) old
  drive_none v = rw (drop-length vs) refl

  pub drive_next : (j : ℕ) (bytes : List ℕ) (bit : ℕ) → j < length vs → get_or vs j 0 < length bytes → bit ≡ bit_at index j → DrivenFrom (suc j) bytes
      → DrivenFrom j (set bytes (get_or vs j 0) bit)
  drive_next j bytes bit inside small e later v =
      let x : ℕ = get_or vs j 0 in
      let halved : index / 2 ^ j / 2 ≡ index / 2 ^ suc j = shr-shr index j 1 ∙ ap (λ (k : ℕ). index / 2 ^ k) (add-one j) in
      given_set bytes x bit v small ∙ rw (drop-cons vs j 0 inside, e, later v, halved) refl

  pub drive_done : (bytes : List ℕ) → OthersUndriven vs old → DrivenFrom 0 bytes → given bytes ≡ drive vs index
  drive_done bytes others all =
      fun_ext (λ v.
      let whole : index / 2 ^ 0 ≡ index = omega arith in
      all v ∙ ap (λ (i : ℕ). drive_over (given old) vs i v) whole ∙ over_is (given old) vs index v (others v))

-- ---- for the next index
pub still_undriven : (vs bytes : List ℕ) (index : ℕ) → given bytes ≡ drive vs index → OthersUndriven vs bytes
still_undriven vs bytes index e v other = ap (λ (α : Assignment). α v) e ∙ drive_other vs index v other

pub still_drivable : (vs bytes left : List ℕ) (index : ℕ) → Drivable vs bytes → length left ≡ length bytes → given left ≡ drive vs index
    → Drivable vs left
still_drivable vs bytes left index d size e =
    record { few = d.few; within = rw size d.within; others = still_undriven vs left index e }
