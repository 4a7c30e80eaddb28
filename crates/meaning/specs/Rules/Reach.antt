-- Which nodes count, and the Cycle nodes over them (document 01, "Verification": "Only nodes reachable from the root,
-- itself included, count"; "the least number of Cycle nodes over it on any path from the root").
use Rattle.std.specs.Prelude.{ℕ, zero, suc, ◌+◌, ◌-◌, ◌<◌, min, ◌≡◌, List, [], ◌∷◌, Bool, true, cond, ◌&&◌, get_or, ltb, eqb}
use Rattle.meaning.specs.Rules.Kinds.{cycle_word}
use Rattle.meaning.specs.Rules.Trees.{node_count, kind_at, children_at}
use Rattle.meaning.specs.Rules.Refusals.{some}

-- ---- what is meant: paths from the root

abbrev pub is_cycle : List ℕ → ℕ → Bool
is_cycle ns j = eqb (kind_at ns j) cycle_word

abbrev pub is_child : List ℕ → List ℕ → ℕ → ℕ → Bool
is_child ns ps i j = some (eqb i) (children_at ns ps j)

-- a Cycle node counts one
abbrev pub cycles : List ℕ → ℕ → ℕ
cycles ns j = cond (is_cycle ns j) 1 0

-- a path from the root down to node i, with d Cycle nodes over i
pub data PathTo (ns ps : List ℕ) : ℕ → ℕ → Type 0 where
  at_root : {i : ℕ} → suc i ≡ node_count ns → PathTo ns ps i 0
  down : {i j d : ℕ} → PathTo ns ps j d → i < j → is_child ns ps i j ≡ true → PathTo ns ps i (d + cycles ns j)

-- ---- how it is computed: a node's mark is 0 where no path leads to it, else 1 + the least number of Cycle nodes over it
-- on any path (claimed in Claims/Reach)

-- the lower of two marks that is not 0
abbrev pub nearer : ℕ → ℕ → ℕ
nearer zero b = b
nearer (suc a) zero = suc a
nearer (suc a) (suc b) = suc (min a b)

-- the mark that node i gets through its parent j, whose mark is m
abbrev pub through : List ℕ → List ℕ → ℕ → ℕ → ℕ → ℕ
through ns ps i j m = cond (ltb 0 m && is_child ns ps i j) (cond (is_cycle ns j) (suc m) m) 0

-- through the nodes j, j + 1, …, whose marks are ms
abbrev pub through_all : List ℕ → List ℕ → ℕ → ℕ → List ℕ → ℕ
through_all ns ps i j [] = 0
through_all ns ps i j (m ∷ ms) = nearer (through ns ps i j m) (through_all ns ps i (suc j) ms)

-- the marks of the last d of the n nodes, lowest node first: the root's is 1, another's comes through the nodes above it
abbrev pub marks_of_last : List ℕ → List ℕ → ℕ → ℕ → List ℕ
marks_of_last ns ps n zero = []
marks_of_last ns ps n (suc zero) = 1 ∷ []
marks_of_last ns ps n (suc (suc d)) =
    let above = marks_of_last ns ps n (suc d) in
    through_all ns ps (n - suc (suc d)) (n - suc d) above ∷ above

unfoldable pub marks : List ℕ → List ℕ → List ℕ
marks ns ps = marks_of_last ns ps (node_count ns) (node_count ns)

abbrev pub mark_of : List ℕ → List ℕ → ℕ → ℕ
mark_of ns ps i = get_or (marks ns ps) i 0

abbrev pub reachable : List ℕ → List ℕ → ℕ → Bool
reachable ns ps i = ltb 0 (mark_of ns ps i)
