-- An answer depends on the variables that occur in its tree, and on nothing else of an assignment.
use Rattle.std.specs.Prelude.{ℕ, ◌≡◌, refl, List, ◌∷◌, true, ◌&&◌, eqb}
use Rattle.std.proofs.Common.{ap, ap₂, ◌∙◌, arith, eq-eqb}
use Rattle.std.proofs.Math.Bool.{or-true}
use Rattle.meaning.specs.declared.Answer.{Answer}
use Rattle.meaning.specs.declared.kinds.Kind.{Kind}
use Rattle.meaning.specs.declared.kinds.Kind.TheVariants.{Const, Program, DC, Var, Nor, Mux, And, Xor, Not, Lut, Bus, Reg, Arg, Cycle, Unknown}
use Rattle.meaning.specs.Rules.Kinds.{kind_of, variable_word}
use Rattle.meaning.specs.Rules.Trees.{Tree, Forest, node, none, ◌◂◌}
use Rattle.meaning.proofs.Laws.KindLaws.{word_of, kind_word}
use Rattle.meaning.specs.Rules.Answers.{Assignment, driven, step, answer, answers}
use Rattle.meaning.specs.Rules.Assignments.{occurs, occurs_in}

-- two assignments agree on a tree's variables
abbrev pub AgreeOn : Tree → Assignment → Assignment → Type 0
AgreeOn t α β = (v : ℕ) → occurs v t ≡ true → α v ≡ β v

step_same : (α β : Assignment) (k : Kind) (d : ℕ) (xs : List Answer) → (k ≡ Var → α d ≡ β d) → step α k d xs ≡ step β k d xs
step_same α β Const d xs h = refl
step_same α β Program d xs h = refl
step_same α β DC d xs h = refl
step_same α β Var d xs h = ap driven (h refl)
step_same α β Nor d xs h = refl
step_same α β Mux d xs h = refl
step_same α β And d xs h = refl
step_same α β Xor d xs h = refl
step_same α β Not d xs h = refl
step_same α β Lut d xs h = refl
step_same α β Bus d xs h = refl
step_same α β Reg d xs h = refl
step_same α β Arg d xs h = refl
step_same α β Cycle d xs h = refl
step_same α β Unknown d xs h = refl

-- a variable occurs in itself
own_variable : (k d : ℕ) (cs : Forest) → kind_of k ≡ Var → occurs d (node k d cs) ≡ true
own_variable k d cs e =
    let word : word_of (kind_of k) ≡ variable_word = ap word_of e in
    rw (eq-eqb k variable_word (kind_word k (omega (arith, word)) ∙ word), eq-eqb d d refl) refl

mutual
  pub same_answer_lem : (t : Tree) (α β : Assignment) → AgreeOn t α β → answer α t ≡ answer β t
  same_answer_lem (node k d cs) α β h =
      ap (step α (kind_of k) d) (same_answers cs α β (λ v o. h v (rw o (or-true (eqb k variable_word && eqb d v)))))
      ∙ step_same α β (kind_of k) d (answers β cs) (λ e. h d (own_variable k d cs e))

  same_answers : (ts : Forest) (α β : Assignment) → ((v : ℕ) → occurs_in v ts ≡ true → α v ≡ β v) → answers α ts ≡ answers β ts
  same_answers none α β h = refl
  same_answers (t ◂ ts) α β h =
      ap₂ (λ (x : Answer) (xs : List Answer). x ∷ xs) (same_answer_lem t α β (λ v o. h v (rw o refl)))
      (same_answers ts α β (λ v o. h v (rw o (or-true (occurs v t)))))
