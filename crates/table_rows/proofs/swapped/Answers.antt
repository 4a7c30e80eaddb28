-- `table_rows::swapped` meets its contract: row i is the row of p with the two bits exchanged.
use Rattle.std.proofs.Common.{◌≡◌, ℕ, ◌^◌, ◌≤◌, ap, ◌∙◌, rules, arith, pow_mono}
use Rattle.std.proofs.iter.Serving.{serving}
use Rattle.meaning.specs.Rules.Tables as meant
use Rattle.meaning.specs.Rules.Words.{bit_at}
use Rattle.table_rows.specs.RowLaws.{swap_lt}
use Rattle.table_rows.proofs.swapped.Goals as goal

pub made_from-requires-clause-few : goal.made_from-requires-clause-few
made_from-requires-clause-few c = omega (arith, pow_mono c.requires.0)

pub made_from-requires-clause-callable : goal.made_from-requires-clause-callable
made_from-requires-clause-callable c =
    let few : 2 ^ c.args.k ≤ 64 = pow_mono c.requires.0 in
    search (arith, serving)

pub made_from-requires-clause-within : goal.made_from-requires-clause-within
made_from-requires-clause-within c i row h e =
    let few : 2 ^ c.args.k ≤ 64 = pow_mono c.requires.0 in
    let is : row ≡ meant.swap_bits c.args.pos i = search (rules, serving) in
    omega (arith, few, swap_lt c.args.k c.args.pos i c.requires.1 (omega arith))

pub returns : goal.returns
returns c =
    let g : ℕ → ℕ = meant.swap_bits c.args.pos in
    c.made_from.ensures g (λ i r h e. search (rules, serving))
    ∙ ap (meant.table (λ i. bit_at c.args.p (g i))) c.power_of_two.ensures
