-- `lowest_in_block` meets its contract: up to the loop's run bits, nothing of the block below the lowest differs from the base.
use Rattle.crossings.specs.Lowest.{answer_at, differs, NoneInBlock, lowered_none, block_start, block_next, block_rest, block_found}
use Rattle.subsets.specs.Next.{IsNext}
use Rattle.subsets.specs.Among.{none_among, among_le}
use Rattle.meaning.specs.Rules.Comparison.{same_answer}
use Rattle.meaning.specs.Rules.Trees.{Tree, root_of}
use Rattle.meaning.specs.declared.Answer.{Answer}
use lib.Bits.{bit_or}
use lib.ListN.{length}
use native.Mathlib.Omega.{arith}
use mathlib.Core.Bool.{not}
use mathlib.Core.Path.{◌≡◌, refl, sym, ap, subst, ◌∙◌}
use Prim.Native.Nat.{ℕ, ◌<◌}
use Rattle.crossings.proofs.blocks.lowest_in_block.Goals as goal

pub answer_under-cleared-requires : goal.answer_under-cleared-requires
answer_under-cleared-requires c =
    record {
      variables_value = c.requires.variables_value;
      prepared = c.requires.prepared;
      drivable = c.requires.drivable;
    }

pub loop-run-init : goal.loop-run-init
loop-run-init c =
    let t : Tree = root_of c.args.nodes.now c.args.pool.now in
    let n : ℕ = length c.args.variables.now in
    let marked : ℕ = c.args.marked in
    let x : ℕ = c.args.base in
    let best : ℕ = c.args.lowest in
    (omega arith, none_among marked, refl, refl, c.answer_under-cleared.ensures.prepared_2, c.answer_under-cleared.ensures.drivable_2, block_start t n marked x best)

pub next_among-run-requires : goal.next_among-run-requires
next_among-run-requires c =
    record {
      among = c.loop-run.invariant.1;
      x_lt_mask = c.loop-run-test.true;
    }

pub shape_of-bytes-then-lowest-index : goal.shape_of-bytes-then-lowest-index
shape_of-bytes-then-lowest-index c = c.loop-run.invariant.2 ∙ c.answer_under-cleared.auto.bytes

pub shape_of-work-then-lowest-index : goal.shape_of-work-then-lowest-index
shape_of-work-then-lowest-index c = c.loop-run.invariant.3 ∙ c.answer_under-cleared.auto.work

pub returns-then-lowest-index : goal.returns-then-lowest-index
returns-then-lowest-index c =
    let t : Tree = root_of c.args.nodes.now c.args.pool.now in
    let n : ℕ = length c.args.variables.now in
    let marked : ℕ = c.args.marked in
    let x : ℕ = c.args.base in
    let best : ℕ = c.args.lowest in
    let y : ℕ = c.loop-run.run in
    let z : ℕ = c.next_among-run.result in
    let next : IsNext marked y z = c.next_among-run.ensures in
    let none : NoneInBlock t n marked x y best = c.loop-run.invariant.6 in
    record {
      lowered = lowered_none t n marked x best;
      none_in_block = block_rest t n marked x y z next c.requires.apart_from best best none (omega arith) c.if-lowest-index.true;
      prepared_2 = c.loop-run.invariant.4;
      drivable_2 = c.loop-run.invariant.5;
    }

pub differs_at-requires : goal.differs_at-requires
differs_at-requires c =
    record {
      variables_value = c.requires.variables_value;
      prepared = c.loop-run.invariant.4;
      drivable = c.loop-run.invariant.5;
    }

pub shape_of-bytes-then-differs_at : goal.shape_of-bytes-then-differs_at
shape_of-bytes-then-differs_at c = c.differs_at.auto.bytes ∙ c.loop-run.invariant.2 ∙ c.answer_under-cleared.auto.bytes

pub shape_of-work-then-differs_at : goal.shape_of-work-then-differs_at
shape_of-work-then-differs_at c = c.differs_at.auto.work ∙ c.loop-run.invariant.3 ∙ c.answer_under-cleared.auto.work

pub returns-then-differs_at : goal.returns-then-differs_at
returns-then-differs_at c =
    let t : Tree = root_of c.args.nodes.now c.args.pool.now in
    let n : ℕ = length c.args.variables.now in
    let marked : ℕ = c.args.marked in
    let x : ℕ = c.args.base in
    let best : ℕ = c.args.lowest in
    let y : ℕ = c.loop-run.run in
    let z : ℕ = c.next_among-run.result in
    let next : IsNext marked y z = c.next_among-run.ensures in
    let none : NoneInBlock t n marked x y best = c.loop-run.invariant.6 in
    let told : c.differs_at.result ≡ differs t n x (bit_or x z) = c.differs_at.ensures.value ∙ ap (λ (c : Answer). not (same_answer (answer_at t n (bit_or x z)) c)) c.answer_under-cleared.ensures.value in
    let low : bit_or x z < best = omega (arith, c.if-lowest-index.false) in
    record {
      lowered = block_found t n marked x y z next best low (sym told ∙ c.if-differs_at.true);
      none_in_block = block_rest t n marked x y z next c.requires.apart_from best (bit_or x z) none (omega (arith, low)) (omega arith);
      prepared_2 = c.differs_at.ensures.prepared_2;
      drivable_2 = c.differs_at.ensures.drivable_2;
    }

pub loop-run-smaller : goal.loop-run-smaller
loop-run-smaller c = omega (arith, c.next_among-run.ensures.above, among_le c.args.marked c.next_among-run.result c.next_among-run.ensures.among)

pub loop-run-preserved : goal.loop-run-preserved
loop-run-preserved c =
    let t : Tree = root_of c.args.nodes.now c.args.pool.now in
    let n : ℕ = length c.args.variables.now in
    let marked : ℕ = c.args.marked in
    let x : ℕ = c.args.base in
    let best : ℕ = c.args.lowest in
    let y : ℕ = c.loop-run.run in
    let z : ℕ = c.next_among-run.result in
    let next : IsNext marked y z = c.next_among-run.ensures in
    let none : NoneInBlock t n marked x y best = c.loop-run.invariant.6 in
    let told : c.differs_at.result ≡ differs t n x (bit_or x z) = c.differs_at.ensures.value ∙ ap (λ (c : Answer). not (same_answer (answer_at t n (bit_or x z)) c)) c.answer_under-cleared.ensures.value in (
      among_le marked z next.among,
      next.among,
      c.differs_at.auto.bytes ∙ c.loop-run.invariant.2,
      c.differs_at.auto.work ∙ c.loop-run.invariant.3,
      c.differs_at.ensures.prepared_2,
      c.differs_at.ensures.drivable_2,
      block_next t n marked x y z next best none (sym told ∙ c.if-differs_at.false),
    )

pub shape_of-bytes : goal.shape_of-bytes
shape_of-bytes c = c.loop-run.invariant.2 ∙ c.answer_under-cleared.auto.bytes

pub shape_of-work : goal.shape_of-work
shape_of-work c = c.loop-run.invariant.3 ∙ c.answer_under-cleared.auto.work

pub returns : goal.returns
returns c =
    let t : Tree = root_of c.args.nodes.now c.args.pool.now in
    let n : ℕ = length c.args.variables.now in
    let marked : ℕ = c.args.marked in
    let x : ℕ = c.args.base in
    let best : ℕ = c.args.lowest in
    let whole : c.loop-run.run ≡ marked = omega (arith, c.loop-run-test.false, c.loop-run.invariant.0) in
    record {
      lowered = lowered_none t n marked x best;
      none_in_block = subst (λ (y : ℕ). NoneInBlock t n marked x y best) whole c.loop-run.invariant.6;
      prepared_2 = c.loop-run.invariant.4;
      drivable_2 = c.loop-run.invariant.5;
    }
