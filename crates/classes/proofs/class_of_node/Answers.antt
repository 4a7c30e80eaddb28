-- `class_of_node` meets its contract: the nodes that are asked suffice (`Turn`).
use Rattle.classes.specs.Ready.{Filled, limit_at}
use Rattle.classes.specs.Classes.{has_tree, class_unmarked}
use Rattle.meaning.specs.Rules.Search.{lowest}
use Rattle.meaning.specs.Rules.Reach.{mark_of}
use Rattle.meaning.specs.Rules.Trees.{tree_of}
use native.Mathlib.Omega.{arith}
use Prim.Native.Nat.{ℕ, ◌<◌, ◌+◌, min}
use mathlib.Core.List.{List}
use mathlib.Core.Path.{◌≡◌, sym, ap, subst, ◌∙◌}
use Rattle.classes.proofs.class_of_node.Goals as goal

pub overflow_add-base : goal.overflow_add-base
overflow_add-base c = omega (arith, c.requires.filled.inside, c.requires.filled.list.room)

pub get-requires : goal.get-requires
get-requires c = omega (arith, c.requires.filled.inside, c.requires.filled.list.room)

pub returns-then-get-eq0 : goal.returns-then-get-eq0
returns-then-get-eq0 c =
    let ns : List ℕ = c.args.first_nodes.now in
    let ps : List ℕ = c.args.first_pool.now in
    let ms : List ℕ = c.args.nodes.now in
    let qs : List ℕ = c.args.pool.now in
    let j : ℕ = c.args.j in
    let mark : c.get.result ≡ mark_of ms qs j = c.get.ensures ∙ c.requires.filled.list.marks j c.requires.filled.inside in
    c.node_count-n.ensures ∙ sym (class_unmarked ns ps ms qs j (sym mark ∙ c.if-get-eq0.true))

pub lowest_alike-requires : goal.lowest_alike-requires
lowest_alike-requires c =
    let ns : List ℕ = c.args.first_nodes.now in
    let ps : List ℕ = c.args.first_pool.now in
    let ms : List ℕ = c.args.nodes.now in
    let qs : List ℕ = c.args.pool.now in
    let base : ℕ = c.args.base in
    let j : ℕ = c.args.j in
    let work : List ℕ = c.args.work.now in
    let mark : c.get.result ≡ mark_of ms qs j = c.get.ensures ∙ c.requires.filled.list.marks j c.requires.filled.inside in
    let most : c.min-limit.result ≡ limit_at ns base j = omega (arith, c.node_count-n.ensures) in
    let marked : 0 < mark_of ms qs j = omega (arith, mark, c.if-get-eq0.false) in
    record {
      filled = subst (λ (x : ℕ). Filled ns ps x ms qs base j work) (sym most) c.requires.filled;
      j_nonzero = marked;
    }

pub returns : goal.returns
returns c =
    let ns : List ℕ = c.args.first_nodes.now in
    let ps : List ℕ = c.args.first_pool.now in
    let ms : List ℕ = c.args.nodes.now in
    let qs : List ℕ = c.args.pool.now in
    let base : ℕ = c.args.base in
    let j : ℕ = c.args.j in
    let mark : c.get.result ≡ mark_of ms qs j = c.get.ensures ∙ c.requires.filled.list.marks j c.requires.filled.inside in
    let most : c.min-limit.result ≡ limit_at ns base j = omega (arith, c.node_count-n.ensures) in
    let marked : 0 < mark_of ms qs j = omega (arith, mark, c.if-get-eq0.false) in
    c.lowest_alike.ensures ∙ ap (lowest (has_tree ns ps (tree_of ms qs j))) most ∙ c.requires.enough marked
