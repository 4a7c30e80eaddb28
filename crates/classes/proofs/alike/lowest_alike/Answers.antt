-- `lowest_alike` meets its contract: no node that the loop has passed has the tree, and the first that has it is the lowest.
use Rattle.classes.specs.Classes.{has_tree}
use Rattle.classes.specs.Ready.{filled_under}
use Rattle.meaning.proofs.Laws.SearchLaws.{lowest_only}
use Rattle.meaning.specs.Rules.Trees.{tree_of}
use borrow.Author.Count.{below_more}
use native.Mathlib.Omega.{arith}
use Prim.Native.Nat.{ℕ, ◌-◌}
use mathlib.Core.Bool.{Bool, true, false}
use mathlib.Core.Path.{◌≡◌, sym, ◌∙◌}
use Rattle.classes.proofs.alike.lowest_alike.Goals as goal

pub loop-i-init : goal.loop-i-init
loop-i-init c = (omega arith, λ k h. absurd (omega arith))

pub alike-requires : goal.alike-requires
alike-requires c =
    let i : ℕ = c.loop-i.i in
    record {
      filled = filled_under c.requires.filled i (omega arith);
      i_bound = omega (arith, c.requires.filled.within);
      j_nonzero = c.requires.j_nonzero;
    }

pub returns-then-alike : goal.returns-then-alike
returns-then-alike c =
    let limit : ℕ = c.args.limit in
    let has : ℕ → Bool = has_tree c.args.first_nodes.now c.args.first_pool.now (tree_of c.args.nodes.now c.args.pool.now c.args.j) in
    let i : ℕ = c.loop-i.i in
    let here : has i ≡ true = sym c.alike.ensures ∙ c.if-alike.true in
    sym (lowest_only has limit i (record { after = omega arith; within = c.loop-i.invariant.0; passes = λ h. here; before = λ k a h. c.loop-i.invariant.1 k h }))

pub loop-i-preserved : goal.loop-i-preserved
loop-i-preserved c =
    let has : ℕ → Bool = has_tree c.args.first_nodes.now c.args.first_pool.now (tree_of c.args.nodes.now c.args.pool.now c.args.j) in
    let i : ℕ = c.loop-i.i in
    let not-here : has i ≡ false = sym c.alike.ensures ∙ c.if-alike.false in
    (omega arith, below_more (λ (k : ℕ). has k ≡ false) i c.loop-i.invariant.1 not-here)

pub returns : goal.returns
returns c =
    let limit : ℕ = c.args.limit in
    let has : ℕ → Bool = has_tree c.args.first_nodes.now c.args.first_pool.now (tree_of c.args.nodes.now c.args.pool.now c.args.j) in
    sym (lowest_only has limit limit (record { after = omega arith; within = omega arith; passes = λ h. absurd (omega arith); before = λ k a h. c.loop-i.invariant.1 k (omega arith) }))
