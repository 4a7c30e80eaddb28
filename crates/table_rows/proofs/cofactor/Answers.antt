-- `table_rows::cofactor` meets its contract: row i of the cofactor is the row of p with the bit put in.
use Rattle.std.proofs.Common.{◌≡◌, ℕ, ◌+◌, ◌^◌, ◌≤◌, ap, ◌∙◌, rules, arith, pow_mono}
use Rattle.std.proofs.iter.Serving.{serving}
use Rattle.meaning.specs.Rules.Tables as meant
use Rattle.meaning.specs.Rules.Words.{bit_at}
use Rattle.table_rows.specs.RowLaws.{insert_lt}
use Rattle.table_rows.proofs.cofactor.Goals as goal

pub made_from-requires-clause-few : goal.made_from-requires-clause-few
made_from-requires-clause-few c = omega (arith, pow_mono c.requires.0)

pub made_from-requires-clause-callable : goal.made_from-requires-clause-callable
made_from-requires-clause-callable c =
    let few : 2 ^ c.args.k ≤ 32 = pow_mono c.requires.0 in
    search (arith, serving)

pub made_from-requires-clause-within : goal.made_from-requires-clause-within
made_from-requires-clause-within c i row h e =
    let is : row ≡ meant.insert_bit c.args.q c.args.b i = search (rules, serving) in
    let most : c.args.k + 1 ≤ 6 = omega arith in
    omega (arith, pow_mono most, insert_lt c.args.k c.args.q c.args.b i c.requires.1 c.requires.2 (omega arith))

pub returns : goal.returns
unfolding meant.cofactor
returns c =
    let g : ℕ → ℕ = meant.insert_bit c.args.q c.args.b in
    c.made_from.ensures g (λ i r h e. search (rules, serving))
    ∙ ap (meant.table (λ i. bit_at c.args.p (g i))) c.power_of_two.ensures
