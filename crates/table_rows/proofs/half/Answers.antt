-- `table_rows::half` meets its contract: a program over k operands has at most 32 rows for k up to 5.
use Rattle.std.proofs.Common.{arith, pow_mono}
use Rattle.table_rows.proofs.half.Goals as goal

pub overflow_shr-result : goal.overflow_shr-result
overflow_shr-result c = omega (arith, pow_mono c.requires)

pub low_bits-requires : goal.low_bits-requires
low_bits-requires c = omega (arith, pow_mono c.requires)
