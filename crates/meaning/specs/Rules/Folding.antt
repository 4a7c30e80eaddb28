-- Folding, and the normal form of a tree (document 01, "Canonical list"; document 000, `fold_lut`).
use Rattle.std.specs.Prelude.{ℕ, zero, suc, ◌-◌, List, [], ◌∷◌, ◌++◌, Bool, cond, length, take, drop, ltb, eqb}
use Rattle.meaning.specs.Rules.Kinds.{Kind, Const, Program, DC, Var, Nor, Mux, And, Xor, Not, Lut, Bus, Reg, Arg, Cycle, Unknown, kind_of, const_word, program_word, lut_word}
use Rattle.meaning.specs.Rules.Trees.{Tree, Forest, node, none, ◌◂◌, kind_word, datum, trees, forest_of, nth_tree}
use Rattle.meaning.specs.Rules.Search.{lowest}
use Rattle.meaning.specs.Rules.Tables.{cofactor, ignores}

abbrev pub constant : ℕ → Tree
constant b = node const_word b none

abbrev pub lut : ℕ → List Tree → Tree
lut p ops = node lut_word 0 (node program_word p none ◂ forest_of ops)

abbrev pub is_constant : Tree → Bool
is_constant t = eqb (kind_word t) const_word

abbrev pub without : ℕ → List Tree → List Tree
without j ts = take j ts ++ drop (suc j) ts

-- ---- folding: "each Lut is folded until no rule applies"

-- rule 2, "k = 1: program 0 false, 3 true, 2 the operand; 1 over a constant, its negation; otherwise stay"
abbrev pub fold_one : ℕ → Tree → Tree
fold_one p t =
    cond (eqb p 0) (constant 0) (cond (eqb p 3) (constant 1) (cond (eqb p 2) t
    (cond (is_constant t) (constant (1 - datum t)) (lut p (t ∷ [])))))

-- the Lut of program p over k operands. Rule 1, "k = 0: the constant". Rule 3, "k above 1: drop the first constant operand; if none, the first operand
-- that no row pair depends on". Of k + 2 operands, operand j is row bit k + 1 - j.
unfoldable pub fold : ℕ → ℕ → List Tree → Tree
fold zero p ops = constant p
fold (suc zero) p ops = fold_one p (nth_tree ops 0)
fold (suc (suc k)) p ops =
    let c = lowest (λ j. is_constant (nth_tree ops j)) (suc (suc k)) in
    let e = lowest (λ j. ignores p (suc k) (suc k - j)) (suc (suc k)) in
    let drop_constant = fold (suc k) (cofactor p (suc k) (suc k - c) (datum (nth_tree ops c))) (without c ops) in
    let drop_ignored = fold (suc k) (cofactor p (suc k) (suc k - e) 0) (without e ops) in
    cond (ltb c (suc (suc k))) drop_constant (cond (ltb e (suc (suc k))) drop_ignored (lut p ops))

abbrev pub folded : ℕ → List Tree → Tree
folded p ops = fold (length ops) p ops

abbrev pub folded_lut : List Tree → Tree
folded_lut [] = lut 0 []
folded_lut (p ∷ ops) = folded (datum p) ops

-- "Mux, And, Xor, Nor, Not become Luts of programs 202, 8, 6, 1, 1"; the children are in normal form already
abbrev pub nf_step : Kind → ℕ → ℕ → Forest → Tree
nf_step Const k d cs = node k d cs
nf_step Program k d cs = node k d cs
nf_step DC k d cs = node k d cs
nf_step Var k d cs = node k d cs
nf_step Nor k d cs = folded 1 (trees cs)
nf_step Mux k d cs = folded 202 (trees cs)
nf_step And k d cs = folded 8 (trees cs)
nf_step Xor k d cs = folded 6 (trees cs)
nf_step Not k d cs = folded 1 (trees cs)
nf_step Lut k d cs = folded_lut (trees cs)
nf_step Bus k d cs = node k d cs
nf_step Reg k d cs = node k d cs
nf_step Arg k d cs = node k d cs
nf_step Cycle k d cs = node k d cs
nf_step Unknown k d cs = node k d cs

abbrev mutual
  pub nf : Tree → Tree
  nf (node k d cs) = nf_step (kind_of k) k d (nf_all cs)

  pub nf_all : Forest → Forest
  nf_all none = none
  nf_all (t ◂ ts) = nf t ◂ nf_all ts
