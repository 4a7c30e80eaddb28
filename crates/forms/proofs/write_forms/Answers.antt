-- `write_forms` meets its contract: the nodes below the loop have their normal forms and number 0 (`Passed`).
use Rattle.std.proofs.Common.{ℕ, List, sym, subst, ◌∙◌, length-set, arith}
use Rattle.columns.specs.Columns.{place, number_column}
use Rattle.forms.specs.Turns.{Turn, Beside, passed_turn, passed_next}
use Rattle.forms.proofs.write_forms.Goals as goal

pub write_form-requires : goal.write_form-requires
write_form-requires c = subst (λ (w : List ℕ). Turn c.args.nodes.now c.args.pool.now w c.loop-i.i) (sym c.put.ensures) (passed_turn c.loop-i.invariant.1 (omega arith))

pub loop-i-preserved : goal.loop-i-preserved
loop-i-preserved c =
    let beside = subst (λ (w : List ℕ). Beside w c.write_form.new.work c.loop-i.i) c.put.ensures c.write_form.ensures.beside in
    (beside.size ∙ length-set c.loop-i.work (place number_column c.loop-i.i) 0 ∙ c.loop-i.invariant.0, passed_next c.loop-i.invariant.1 (omega arith) beside c.write_form.ensures.done)
