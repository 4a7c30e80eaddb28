-- A refusal, and the order of refusals (document 01, "Numbers a call answers with").
use Rattle.std.specs.Prelude.{ℕ, List, [], ◌∷◌, Bool, true, false, cond, ◌&&◌, ◌||◌, ltb, eqb, Result, Ok, Err, ⊤}
use Rattle.meaning.specs.declared.Refusal.{Refusal}
use Rattle.meaning.specs.Rules.Numbers.{done_number, not_aligned, over_limit, little_work}
use Rattle.meaning.specs.Rules.Search.{lowest}
use Rattle.meaning.specs.Rules.Lent.{cleared}

abbrev pub done : Refusal
done = record { number = done_number; node = 0 }

-- "A refusal gives its number and .. the lowest faulty node, else 0"
abbrev pub refuse : ℕ → ℕ → Refusal
refuse number i = record { number = number; node = i }

abbrev pub is_done : Refusal → Bool
is_done r = eqb r.number done_number

-- how code answers it: Ok where the test is done, with what there is to answer, else an Err that carries the refusal
abbrev pub answered_with : {A : Type 0} → Refusal → A → Result A Refusal
answered_with r x = cond (is_done r) (Ok x) (Err r)

abbrev pub answered : Refusal → Result ⊤ Refusal
answered r = answered_with r tt

-- and what such an answer is as a refusal
abbrev pub refusal_said : {A : Type 0} → Result A Refusal → Refusal
refusal_said (Ok x) = done
refusal_said (Err r) = r

-- the same of a test of one node, which answers a number alone, 0 where the node has no fault
abbrev pub numbered : ℕ → Result ⊤ ℕ
numbered n = cond (eqb n done_number) (Ok tt) (Err n)

-- the first refusal in order
infixr 50 ◌then◌
abbrev pub ◌then◌ : Refusal → Refusal → Refusal
r then s = cond (is_done r) s r

-- a test that names no node
abbrev pub require : Bool → ℕ → Refusal
require test number = cond test done (refuse number 0)

-- how code answers such a test, whose number is never 0
abbrev pub asked : Bool → ℕ → Result ⊤ Refusal
asked test number = cond test (Ok tt) (Err (refuse number 0))

-- a test node by node: the lowest node below n whose fault is not 0, and that fault
unfoldable pub at_lowest : ℕ → (ℕ → ℕ) → Refusal
at_lowest n fault =
    let i = lowest (λ i. ltb 0 (fault i)) n in
    cond (ltb i n) (refuse (fault i) i) done

-- "Work space is scratch: unchanged if 1, 2 or 10 refuses, else all zeros after the call"
abbrev pub leaves_work : ℕ → Bool
leaves_work number = eqb number not_aligned || eqb number over_limit || eqb number little_work

unfoldable pub work_after : Refusal → List ℕ → List ℕ
work_after r work = cond (leaves_work r.number) work (cleared work)

-- ---- tests of every and of some element of a list
abbrev pub every : {A : Type 0} → (A → Bool) → List A → Bool
every p [] = true
every p (x ∷ xs) = p x && every p xs

abbrev pub some : {A : Type 0} → (A → Bool) → List A → Bool
some p [] = false
some p (x ∷ xs) = p x || some p xs
