use Rattle.std.proofs.Common.{rules, ◌≡◌, ◌∙◌, sym, Err}
use Rattle.canonicaliser.specs.Outcome.{row_stops}
use Rattle.canonicaliser.proofs.canonicalised.Goals as goal

-- the row's refusal is what `?` hands on
pub returns-in_err-accepted-clause-value : goal.returns-in_err-accepted-clause-value
returns-in_err-accepted-clause-value c =
    let told : c.from_residual.result ≡ Err c.in_err-accepted.field-0.0 = search rules in
    told ∙ row_stops c.args.nodes.now c.args.pool.now _ (sym c.accepted.ensures.value ∙ c.in_err-accepted.was) _ _
