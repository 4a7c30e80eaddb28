-- `write_kids` meets its contract: the loop has stored the numbers of the children below it.
use Rattle.std.proofs.Common.{ℕ, refl, ap, ◌∙◌, arith, length-set}
use Rattle.std.proofs.lemmas.List.Edits.{sets}
use Rattle.form_rows.specs.From.{from}
use Rattle.list_output.specs.Stores.{from_none, from_stored}
use Rattle.list_output.specs.Words.{kid_number, kids_part}
use Rattle.list_output.proofs.part.write_kids.Goals as goal

pub loop-j-init : goal.loop-j-init
loop-j-init c = (refl, from_none (kid_number c.args.nodes.now c.args.pool.now c.args.work.now c.args.h) c.args.out.now c.args.at)

pub loop-j-preserved : goal.loop-j-preserved
loop-j-preserved c =
    (simp length-set c.loop-j.invariant.0, rw (c.loop-j.invariant.1, c.kid_number.ensures) (from_stored (kid_number c.args.nodes.now c.args.pool.now c.args.work.now c.args.h) c.args.out.now c.args.at c.loop-j.j))

pub returns : goal.returns
unfolding kids_part
returns c =
    let f : ℕ → ℕ = kid_number c.args.nodes.now c.args.pool.now c.args.work.now c.args.h in
    c.loop-j.invariant.1 ∙ ap (λ (n : ℕ). sets c.args.out.now c.args.at (from f 0 n)) (omega arith)
