-- Assignments (document 01, "Answers of a node", "Comparison and separation"): as bytes, and by number.
use Rattle.std.specs.Prelude.{ℕ, zero, suc, ◌/◌, ◌%◌, ◌<◌, ◌≡◌, List, [], ◌∷◌, ◌++◌, Bool, true, false, cond, ◌&&◌, ◌||◌, length, get_or, leb, eqb}
use Rattle.meaning.specs.Rules.Limits.{variable_count}
use Rattle.meaning.specs.Rules.Kinds.{variable_word}
use Rattle.meaning.specs.Rules.Trees.{Tree, Forest, node, none, ◌◂◌}
use Rattle.meaning.specs.Rules.Refusals.{every, some}
use Rattle.meaning.specs.Rules.Answers.{Assignment, undriven_byte}

-- ---- bytes: "0, 1, 2 undriven; a variable past the slice is undriven"
abbrev pub given : List ℕ → Assignment
given bytes v = get_or bytes v undriven_byte

-- 12: "an assignment slice over 256 bytes, or a byte above 2"
unfoldable pub is_assignment : List ℕ → Bool
is_assignment bytes = leb (length bytes) variable_count && every (λ b. leb b undriven_byte) bytes

-- ---- "the variables below the first root", lowest number first
abbrev mutual
  pub occurs : ℕ → Tree → Bool
  occurs v (node k d cs) = eqb k variable_word && eqb d v || occurs_in v cs

  pub occurs_in : ℕ → Forest → Bool
  occurs_in v none = false
  occurs_in v (t ◂ ts) = occurs v t || occurs_in v ts

-- the numbers below n that pass, lowest first
abbrev pub select : (ℕ → Bool) → ℕ → List ℕ
select p zero = []
select p (suc n) = select p n ++ cond (p n) (n ∷ []) []

unfoldable pub inputs : Tree → List ℕ
inputs t = select (λ v. occurs v t) variable_count

-- 0, 1, …, n - 1
abbrev pub upto : ℕ → List ℕ
upto n = select (λ v. true) n

-- ---- by number: "bit j of assignment i drives the j-th smallest variable"; the others are undriven
abbrev pub drive : List ℕ → ℕ → Assignment
drive [] i v = undriven_byte
drive (x ∷ xs) i v = cond (eqb v x) (i % 2) (drive xs (i / 2) v)

-- ---- "every assignment of the first root's inputs": each of them driven to 0 or 1, and no other variable
abbrev pub is_in : ℕ → List ℕ → Bool
is_in v vs = some (eqb v) vs

pub record Assigns (vs : List ℕ) (α : Assignment) : Type 0 where
  pub on : (v : ℕ) → is_in v vs ≡ true → α v < 2
  pub off : (v : ℕ) → is_in v vs ≡ false → α v ≡ undriven_byte
