-- `next_among` meets its contract: the complement of one less than what x lacks is minus what x lacks, 64 wide.
use Rattle.std.proofs.Common.{ℕ, ◌+◌, ◌-◌, ◌^◌, ◌<◌, ◌≡◌, arith}
use Rattle.subsets.specs.Next.{next_is}
use Rattle.subsets.proofs.next_among.Goals as goal

pub returns : goal.returns
returns c =
    let x : ℕ = c.args.x in
    let mask : ℕ = c.args.mask in
    let small : mask < 2 ^ 64 = c.ranges.mask.fits in
    let whole : 18446744073709551615 - (mask - x - 1) + (mask - x) ≡ 2 ^ 64 = omega (arith, c.requires.x_lt_mask) in
    next_is 64 mask x (18446744073709551615 - (mask - x - 1)) small c.requires.among c.requires.x_lt_mask whole
