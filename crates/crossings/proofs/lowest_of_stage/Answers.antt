-- `lowest_of_stage` meets its contract: no run signal among the variables, or the lowest of the blocks.
use Rattle.std.proofs.Common.{ℕ, List, ◌%◌, ◌^◌, ◌-◌, ◌≤◌, ◌≡◌, sym, subst, ◌∙◌, length, arith}
use lib.Bits.{bit_and}
use Rattle.meaning.specs.Rules.Trees.{Tree, root_of}
use Rattle.meaning.specs.Rules.Search.{lowest}
use Rattle.meaning.specs.Rules.Separation.{crosses}
use Rattle.meaning.proofs.Laws.SearchLaws.{lowest_is}
use Rattle.crossings.specs.Lowest.{Apart, LoweredTo, NoneTo, NoneInBlock, block_start, blocks_done}
use Rattle.crossings.specs.Blocks.{Parted, parted, parted_blocks, parted_sum}
use Rattle.crossings.specs.Searching.{Searchable}
use Rattle.crossings.proofs.lowest_of_stage.Goals as goal

module _ {ns ps vs : List ℕ} {inputs marks : ℕ} (given : Searchable ns ps vs inputs marks) (places : ℕ) (within : places ≤ length vs) where
  abbrev t : Tree
  t = root_of ns ps

  abbrev n : ℕ
  n = length vs

  -- the variables that bases drive, and the run signals
  abbrev free : ℕ
  free = bit_and inputs (18446744073709551615 - marks) % 2 ^ places

  abbrev marked : ℕ
  marked = bit_and inputs marks % 2 ^ places

  parts : Parted t n marks places free marked
  parts = parted t n marks inputs given.is_mask given.inputs_small given.marks_small (omega (arith, given.few)) places within

  apart : Apart free marked
  apart = λ x a y b. parted_sum t n marks places free marked parts x y a b

  found_is : (found : ℕ) → LoweredTo t n free marked (2 ^ places) found → NoneTo t n free marked free found → found ≡ lowest (crosses t n marks) (2 ^ places)
  found_is found low none = blocks_done t n free marked marks (2 ^ places) found (parted_blocks t n marks places free marked parts) low none

  none_marked : marked ≡ 0 → lowest (crosses t n marks) (2 ^ places) ≡ 2 ^ places
  none_marked none =
      let start : LoweredTo t n free marked (2 ^ places) (2 ^ places) = (omega arith, λ l. absurd (omega arith)) in
      let clear : NoneTo t n free marked free (2 ^ places) = λ w a h. subst (λ (y : ℕ). NoneInBlock t n marked w y (2 ^ places)) (sym none) (block_start t n marked w (2 ^ places)) in
      sym (found_is (2 ^ places) start clear)

pub low_bits-marked-requires : goal.low_bits-marked-requires
low_bits-marked-requires c = omega (arith, c.requires.searchable.few)

pub power_of_two-limit-requires : goal.power_of_two-limit-requires
power_of_two-limit-requires c = omega (arith, c.requires.searchable.few)

pub returns-then-marked-eq0 : goal.returns-then-marked-eq0
returns-then-marked-eq0 c = record {
  value = none_marked c.requires.searchable c.args.places c.requires.places_in_bounds (sym c.low_bits-marked.ensures ∙ c.if-marked-eq0.true);
  prepared_2 = c.requires.prepared;
  drivable_2 = c.requires.drivable;
}

pub low_bits-free-requires : goal.low_bits-free-requires
low_bits-free-requires c = omega (arith, c.requires.searchable.few)

pub lowest_of_blocks-found-requires : goal.lowest_of_blocks-found-requires
lowest_of_blocks-found-requires c = record {
  marked_nonzero = (omega (arith, c.if-marked-eq0.false), rw (c.low_bits-free.ensures, c.low_bits-marked.ensures) (apart c.requires.searchable c.args.places c.requires.places_in_bounds));
  variables_value = c.requires.searchable.numbered;
  prepared = c.requires.prepared;
  drivable = c.requires.drivable;
}

pub returns-then-found-limit : goal.returns-then-found-limit
returns-then-found-limit c =
    let low = rw (c.low_bits-free.ensures, c.low_bits-marked.ensures, c.power_of_two-limit.ensures) at c.lowest_of_blocks-found.ensures.lowered_to in
    let none = rw (c.low_bits-free.ensures, c.low_bits-marked.ensures) at c.lowest_of_blocks-found.ensures.none_to in
    record {
      value = (
        omega (arith, c.if-found-limit.true, c.power_of_two-limit.ensures),
        found_is c.requires.searchable c.args.places c.requires.places_in_bounds c.lowest_of_blocks-found.result low none,
      );
      prepared_2 = c.lowest_of_blocks-found.ensures.prepared_2;
      drivable_2 = c.lowest_of_blocks-found.ensures.drivable_2;
    }

pub returns-else-found-limit : goal.returns-else-found-limit
returns-else-found-limit c =
    let low = rw (c.low_bits-free.ensures, c.low_bits-marked.ensures, c.power_of_two-limit.ensures) at c.lowest_of_blocks-found.ensures.lowered_to in
    let none = rw (c.low_bits-free.ensures, c.low_bits-marked.ensures) at c.lowest_of_blocks-found.ensures.none_to in
    let is = found_is c.requires.searchable c.args.places c.requires.places_in_bounds c.lowest_of_blocks-found.result low none in
    record {
      value = omega (
        arith,
        is,
        c.if-found-limit.false,
        c.power_of_two-limit.ensures,
        (lowest_is (crosses (root_of c.args.nodes.now c.args.pool.now) (length c.args.variables.now) c.args.marks) (2 ^ c.args.places)).within,
      );
      prepared_2 = c.lowest_of_blocks-found.ensures.prepared_2;
      drivable_2 = c.lowest_of_blocks-found.ensures.drivable_2;
    }
