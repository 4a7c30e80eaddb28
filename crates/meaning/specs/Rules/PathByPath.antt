-- 000's own verifier, to hold ours against (document 01, "Verification": "Yes or no equals the Rust's"). It walks the term
-- path by path and tests a node each time it comes to it, with the number of Cycle nodes passed on that path. Ours tests a
-- node once, under the least number of Cycle nodes over it (Rules/Reach, Rules/Verification). That the two agree is claimed
-- in Claims/PathByPath.
use Rattle.std.specs.Prelude.{ℕ, suc, List, Bool, true, cond, not, ◌&&◌, ◌||◌, eqb}
use Rattle.meaning.specs.Rules.Kinds.{kind_of, cycle_word}
use Rattle.meaning.specs.Rules.Trees.{Tree, Forest, node, none, ◌◂◌, trees, node_count, root_of}
use Rattle.meaning.specs.Rules.Verification.{wrong}

-- the number of Cycle nodes over the children of a node of kind word k that has `depth` of them over itself
abbrev pub depth_under : ℕ → ℕ → ℕ
depth_under k depth = cond (eqb k cycle_word) (suc depth) depth

-- `verify_rec`: the node's own rule, then every child
abbrev mutual
  pub verify_rec : ℕ → Tree → Bool
  verify_rec depth (node k d cs) = not (wrong (kind_of k) depth (trees cs)) && verify_rec_all (depth_under k depth) cs

  pub verify_rec_all : ℕ → Forest → Bool
  verify_rec_all depth none = true
  verify_rec_all depth (t ◂ ts) = verify_rec depth t && verify_rec_all depth ts

-- `verify_expr`: an empty list verifies; any other by its root, with no Cycle node over it
unfoldable pub verify_expr : List ℕ → List ℕ → Bool
verify_expr ns ps = eqb (node_count ns) 0 || verify_rec 0 (root_of ns ps)
