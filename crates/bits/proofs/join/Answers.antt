-- `bits::join` meets its contract: nothing is shifted out, and the parts share no bit.
use Rattle.std.proofs.Common.{ap, ◌∙◌, mod-eq_of_lt, bit_or}
use Rattle.std.proofs.lemmas.Nat.{or_shifted}
use Rattle.bits.proofs.join.Goals as goal

pub returns : goal.returns
returns c =
    ap (λ x. bit_or x c.args.low) (mod-eq_of_lt c.requires.1)
    ∙ or_shifted c.args.high c.args.place c.args.low c.requires.2
