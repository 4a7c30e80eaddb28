-- `lowest_crossing` meets its contract: the first stage with a crossing has the lowest.
use Rattle.std.proofs.Common.{ℕ, ◌^◌, ◌≤◌, ◌<◌, refl, ◌∙◌, length, arith}
use lib.Pow.{pow_mono}
use native.Mathlib.Decide.{dec_lt}
use Rattle.meaning.specs.Rules.Trees.{root_of}
use Rattle.crossings.specs.Stages.{none_of_none, stage_found, none_crosses}
use Rattle.crossings.specs.Searching.{found_some, found_none}
use Rattle.crossings.proofs.lowest_crossing.Goals as goal

pub loop-places-init : goal.loop-places-init
loop-places-init c =
    (omega arith, refl, refl, refl, c.requires.prepared, c.requires.drivable, none_of_none (root_of c.args.nodes.now c.args.pool.now) (length c.args.variables.now) c.args.marks c.requires.searchable.marks_small)

pub power_of_two-requires : goal.power_of_two-requires
power_of_two-requires c = omega (arith, c.loop-places.invariant.0, c.loop-places.invariant.1, c.requires.searchable.few)

pub next_stage-places-requires : goal.next_stage-places-requires
next_stage-places-requires c =
    let n : ℕ = length c.args.variables.now in
    let given = c.requires.searchable in
    let room : c.loop-places.places < n = elim (dec_lt c.loop-places.places n) [
      | yes h ↦ h
      | no h ↦ absurd (omega (arith, c.loop-places-test.true, c.power_of_two.ensures, given.inputs_small, pow_mono {i = n} {j = c.loop-places.places} (omega (arith, h))))
    ] in
    (omega (arith, room, c.loop-places.invariant.1), omega (arith, c.loop-places.invariant.1, given.few))

pub lowest_of_stage-requires : goal.lowest_of_stage-requires
lowest_of_stage-requires c = record {
  searchable = c.requires.searchable;
  places_in_bounds = omega (arith, c.next_stage-places.ensures.1, c.loop-places.invariant.1);
  prepared = c.loop-places.invariant.4;
  drivable = c.loop-places.invariant.5;
}

pub returns-in-Some : goal.returns-in-Some
returns-in-Some c =
    let n : ℕ = length c.args.variables.now in
    let places : ℕ = c.next_stage-places.result in
    let within : places ≤ n = omega (arith, c.next_stage-places.ensures.1, c.loop-places.invariant.1) in
    let found = c.in-Some.ensures.value in
    let t = root_of c.args.nodes.now c.args.pool.now in
    record {
      value = found_some t n c.args.marks c.in-Some.index (stage_found t n c.args.marks places within c.in-Some.index found.1 found.0) (omega (arith, found.0, pow_mono {i = places} {j = n} within));
      prepared_2 = c.in-Some.ensures.prepared_2;
      drivable_2 = c.in-Some.ensures.drivable_2;
    }

pub loop-places-smaller : goal.loop-places-smaller
loop-places-smaller c = omega (arith, c.next_stage-places.ensures.0, c.next_stage-places.ensures.1)

pub loop-places-preserved : goal.loop-places-preserved
loop-places-preserved c = (
  c.next_stage-places.ensures.1,
  c.loop-places.invariant.1,
  c.lowest_of_stage.auto.bytes ∙ c.loop-places.invariant.2,
  c.lowest_of_stage.auto.work ∙ c.loop-places.invariant.3,
  c.in_default.ensures.prepared_2,
  c.in_default.ensures.drivable_2,
  c.in_default.ensures.value,
)

pub returns : goal.returns
returns c =
    let given = c.requires.searchable in
    let n : ℕ = length c.args.variables.now in
    let all : c.args.inputs < 2 ^ c.loop-places.places = omega (arith, c.loop-places-test.false, c.power_of_two.ensures) in
    let t = root_of c.args.nodes.now c.args.pool.now in
    record {
      value = found_none t n c.args.marks (none_crosses t n c.args.marks c.args.inputs given.is_mask given.inputs_small given.marks_small (omega (arith, given.few)) c.loop-places.places all c.loop-places.invariant.6);
      prepared_2 = c.loop-places.invariant.4;
      drivable_2 = c.loop-places.invariant.5;
    }
