-- `lowest_of_blocks` meets its contract: up to the loop's base, no block has anything below the lowest that differs.
use Rattle.crossings.specs.Lowest.{LoweredTo, NoneTo, first_block, next_block, next_lowered, blocks_rest}
use Rattle.subsets.specs.Next.{IsNext}
use Rattle.subsets.specs.Among.{none_among, among_le}
use Rattle.meaning.specs.Rules.Trees.{Tree, root_of}
use lib.ListN.{length}
use native.Mathlib.Omega.{arith}
use mathlib.Core.Path.{◌≡◌, refl, subst, ◌∙◌}
use Prim.Native.Nat.{ℕ}
use Rattle.crossings.proofs.blocks.lowest_of_blocks.Goals as goal

pub next_among-first-requires : goal.next_among-first-requires
next_among-first-requires c =
    record {
      among = none_among c.args.marked;
      x_lt_mask = c.requires.marked_nonzero.0;
    }

pub lowest_in_block-lowest-requires : goal.lowest_in_block-lowest-requires
lowest_in_block-lowest-requires c =
    record {
      apart_from = c.requires.marked_nonzero.1 0 (none_among c.args.free);
      variables_value = c.requires.variables_value;
      prepared = c.requires.prepared;
      drivable = c.requires.drivable;
    }

pub loop-base-init : goal.loop-base-init
loop-base-init c =
    let t : Tree = root_of c.args.nodes.now c.args.pool.now in
    let n : ℕ = length c.args.variables.now in
    let free : ℕ = c.args.free in
    let marked : ℕ = c.args.marked in
    let limit : ℕ = c.args.limit in
    let found : ℕ = c.lowest_in_block-lowest.result in
    let none : LoweredTo t n free marked limit limit = (omega arith, λ l. absurd (omega arith)) in (
      omega arith,
      none_among free,
      refl,
      refl,
      c.lowest_in_block-lowest.ensures.prepared_2,
      c.lowest_in_block-lowest.ensures.drivable_2,
      next_lowered t n free marked limit 0 limit found (none_among free) none c.lowest_in_block-lowest.ensures.lowered,
      first_block t n free marked found c.lowest_in_block-lowest.ensures.none_in_block,
    )

pub next_among-base-requires : goal.next_among-base-requires
next_among-base-requires c =
    record {
      among = c.loop-base.invariant.1;
      x_lt_mask = c.loop-base-test.true;
    }

pub shape_of-bytes-then-lowest-base : goal.shape_of-bytes-then-lowest-base
shape_of-bytes-then-lowest-base c = c.loop-base.invariant.2 ∙ c.lowest_in_block-lowest.auto.bytes

pub shape_of-work-then-lowest-base : goal.shape_of-work-then-lowest-base
shape_of-work-then-lowest-base c = c.loop-base.invariant.3 ∙ c.lowest_in_block-lowest.auto.work

pub returns-then-lowest-base : goal.returns-then-lowest-base
returns-then-lowest-base c =
    let t : Tree = root_of c.args.nodes.now c.args.pool.now in
    let n : ℕ = length c.args.variables.now in
    let free : ℕ = c.args.free in
    let marked : ℕ = c.args.marked in
    let limit : ℕ = c.args.limit in
    let z : ℕ = c.next_among-base.result in
    let next : IsNext free c.loop-base.base z = c.next_among-base.ensures in
    record {
      lowered_to = c.loop-base.invariant.6;
      none_to = blocks_rest t n free marked c.requires.marked_nonzero.1 c.loop-base.base z c.next_among-first.result c.loop-base.lowest next c.next_among-first.ensures c.if-lowest-base.true c.loop-base.invariant.7;
      prepared_2 = c.loop-base.invariant.4;
      drivable_2 = c.loop-base.invariant.5;
    }

pub lowest_in_block-lowest-requires-in-loop-base : goal.lowest_in_block-lowest-requires-in-loop-base
lowest_in_block-lowest-requires-in-loop-base c =
    record {
      apart_from = c.requires.marked_nonzero.1 c.next_among-base.result c.next_among-base.ensures.among;
      variables_value = c.requires.variables_value;
      prepared = c.loop-base.invariant.4;
      drivable = c.loop-base.invariant.5;
    }

pub loop-base-smaller : goal.loop-base-smaller
loop-base-smaller c = omega (arith, c.next_among-base.ensures.above, among_le c.args.free c.next_among-base.result c.next_among-base.ensures.among)

pub loop-base-preserved : goal.loop-base-preserved
loop-base-preserved c =
    let t : Tree = root_of c.args.nodes.now c.args.pool.now in
    let n : ℕ = length c.args.variables.now in
    let free : ℕ = c.args.free in
    let marked : ℕ = c.args.marked in
    let limit : ℕ = c.args.limit in
    let z : ℕ = c.next_among-base.result in
    let next : IsNext free c.loop-base.base z = c.next_among-base.ensures in
    let found : ℕ = c.lowest_in_block-lowest-in-loop-base.result in (
      among_le free z next.among,
      next.among,
      c.lowest_in_block-lowest-in-loop-base.auto.bytes ∙ c.loop-base.invariant.2,
      c.lowest_in_block-lowest-in-loop-base.auto.work ∙ c.loop-base.invariant.3,
      c.lowest_in_block-lowest-in-loop-base.ensures.prepared_2,
      c.lowest_in_block-lowest-in-loop-base.ensures.drivable_2,
      next_lowered t n free marked limit z c.loop-base.lowest found next.among c.loop-base.invariant.6 c.lowest_in_block-lowest-in-loop-base.ensures.lowered,
      next_block t n free marked c.loop-base.base z c.loop-base.lowest found next c.lowest_in_block-lowest-in-loop-base.ensures.lowered c.loop-base.invariant.7 c.lowest_in_block-lowest-in-loop-base.ensures.none_in_block,
    )

pub shape_of-bytes : goal.shape_of-bytes
shape_of-bytes c = c.loop-base.invariant.2 ∙ c.lowest_in_block-lowest.auto.bytes

pub shape_of-work : goal.shape_of-work
shape_of-work c = c.loop-base.invariant.3 ∙ c.lowest_in_block-lowest.auto.work

pub returns : goal.returns
returns c =
    let t : Tree = root_of c.args.nodes.now c.args.pool.now in
    let n : ℕ = length c.args.variables.now in
    let free : ℕ = c.args.free in
    let marked : ℕ = c.args.marked in
    let limit : ℕ = c.args.limit in
    let whole : c.loop-base.base ≡ free = omega (arith, c.loop-base-test.false, c.loop-base.invariant.0) in
    record {
      lowered_to = c.loop-base.invariant.6;
      none_to = subst (λ (x : ℕ). NoneTo t n free marked x c.loop-base.lowest) whole c.loop-base.invariant.7;
      prepared_2 = c.loop-base.invariant.4;
      drivable_2 = c.loop-base.invariant.5;
    }
