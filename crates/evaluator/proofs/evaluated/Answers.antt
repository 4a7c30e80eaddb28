use Rattle.std.proofs.Common.{rules, ◌≡◌, ◌∙◌, sym, Err}
use Rattle.evaluator.specs.Outcome.{row_answer}
use Rattle.evaluator.proofs.evaluated.Goals as goal

-- the row's refusal is what `?` hands on
pub returns-in_err-accepted-clause-value : goal.returns-in_err-accepted-clause-value
returns-in_err-accepted-clause-value c =
    let told : c.from_residual.result ≡ Err c.in_err-accepted.field-0.0 = search rules in
    let stop = sym c.accepted.ensures.value ∙ c.in_err-accepted.was in
    told ∙ row_answer c.args.nodes.now c.args.pool.now c.args.bytes.now c.args.out.now _ stop
