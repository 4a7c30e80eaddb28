-- What `fold_lut` is asked and what it answers (document 01, "Canonical list", rules 1 to 3): the operands are numbers of
-- rows, each of which tells of one tree whether it is a constant, and which.
use Rattle.std.specs.Prelude.{ℕ, ◌+◌, ◌-◌, ◌*◌, ◌≤◌, ◌<◌, ◌≡◌, List, map, Bool, true, cond, length, get_or, take, eqb, ltb, Option, Some, None}
use Rattle.meaning.specs.Rules.Limits.{work_per_node}
use Rattle.meaning.specs.Rules.Kinds.{const_word}
use Rattle.meaning.specs.Rules.Trees.{Tree, datum}
use Rattle.meaning.specs.Rules.Folding.{constant, lut, is_constant}
use Rattle.meaning.specs.Rules.Search.{lowest}
use Rattle.meaning.specs.Rules.Tables.{cofactor, ignores}
use Rattle.columns.specs.Columns.{cell, kind_column, datum_column}
use Rattle.folding.specs.declared.Folded.{Folded}
use Rattle.folding.specs.declared.Folded.TheVariants.{Constant, Operand, Lut}
use Rattle.folding.specs.declared.dropping.Dropped.{Dropped}

-- ---- the operands
abbrev pub Each : (ℕ → Type 0) → List ℕ → Type 0
Each P xs = (j : ℕ) → j < length xs → P (get_or xs j 0)

abbrev pub is_constant_row : List ℕ → ℕ → Bool
is_constant_row work x = eqb (cell work kind_column x) const_word

-- operand x has a row, and a constant's datum is a bit
pub record Readable (work : List ℕ) (x : ℕ) : Type 0 where
  pub room : work_per_node * x + work_per_node ≤ length work
  pub bit : cell work kind_column x ≡ const_word → cell work datum_column x < 2

-- row x tells of the tree at x whether it is a constant, and which
pub record Tells (work : List ℕ) (tree : ℕ → Tree) (x : ℕ) : Type 0 where
  pub kind : is_constant (tree x) ≡ is_constant_row work x
  pub bit : is_constant_row work x ≡ true → datum (tree x) ≡ cell work datum_column x

-- ---- the answer, with the operands' list as it is left
abbrev pub folded_tree : (ℕ → Tree) → Folded → List ℕ → Tree
folded_tree tree (Constant b) ys = constant b
folded_tree tree (Operand h) ys = tree h
folded_tree tree (Lut p k) ys = lut p (map tree (take k ys))

-- x is one of the list
abbrev pub Among : List ℕ → ℕ → Type 0
Among xs x = (i : ℕ) × (i < length xs) × (x ≡ get_or xs i 0)

-- a constant is a bit, and what is left was there
abbrev pub Left : List ℕ → Folded → List ℕ → Type 0
Left xs (Constant b) ys = b < 2
Left xs (Operand h) ys = Among xs h
Left xs (Lut p k) ys = (k ≤ length xs) × ((j : ℕ) → j < k → Among xs (get_or ys j 0))

-- ---- rule 2
unfoldable pub folded_one : List ℕ → ℕ → ℕ → Folded
folded_one work p x =
    cond (eqb p 0) (Constant 0) (cond (eqb p 3) (Constant 1) (cond (eqb p 2) (Operand x)
    (cond (is_constant_row work x) (Constant (1 - cell work datum_column x)) (Lut p 1))))

-- ---- rule 3
abbrev pub constant_at : List ℕ → List ℕ → ℕ → Bool
constant_at work xs j = is_constant_row work (get_or xs j 0)

-- of k operands, operand j is row bit k - 1 - j
abbrev pub ignored_at : ℕ → ℕ → ℕ → Bool
ignored_at p k j = ignores p (k - 1) (k - 1 - j)

abbrev pub drop : ℕ → ℕ → Option Dropped
drop at q = Some (record { at = at; program = q })

unfoldable pub next_of : List ℕ → ℕ → List ℕ → Option Dropped
next_of work p xs =
    let k = length xs in
    let c = lowest (constant_at work xs) k in
    let e = lowest (ignored_at p k) k in
    cond (ltb c k) (drop c (cofactor p (k - 1) (k - 1 - c) (cell work datum_column (get_or xs c 0))))
    (cond (ltb e k) (drop e (cofactor p (k - 1) (k - 1 - e) 0)) None)
