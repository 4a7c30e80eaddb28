-- `storing::store_folded` meets its contract: a constant or a Lut; an operand is found by the check itself.
use Rattle.std.proofs.Common.{ℕ, List, ◌<◌, ◌≡◌, sym, subst, length, get_or, take, arith, length-take-le, get_or-take}
use Rattle.folding.specs.declared.Folded.{Folded}
use Rattle.forms.specs.Operands.{Outcome, Kid}
use Rattle.forms.specs.Stores.{constant_done, lut_done}
use Rattle.forms.proofs.storing.store_folded.Goals as goal

pub returns-in-Constant-clause-done : goal.returns-in-Constant-clause-done
returns-in-Constant-clause-done c =
    let o = subst (λ (r : Folded). Outcome c.args.nodes.now c.args.pool.now c.args.work.now c.args.i r c.args.homes.now) c.in-Constant.is c.requires.outcome in
    constant_done c.requires.turn c.requires.i_nonzero c.in-Constant.bit c.put_row.ensures o.0 o.1

pub returns-in-Lut-clause-done : goal.returns-in-Lut-clause-done
returns-in-Lut-clause-done c =
    let k : ℕ = c.in-Lut.count in
    let homes : List ℕ = c.args.homes.now in
    let o = subst (λ (r : Folded). Outcome c.args.nodes.now c.args.pool.now c.args.work.now c.args.i r homes) c.in-Lut.is c.requires.outcome in
    let size : length (take k homes) ≡ k = length-take-le k homes o.1 in
    let P = Kid c.args.nodes.now c.args.pool.now c.args.work.now c.args.i in
    let kids : (j : ℕ) → j < length (take k homes) → P (get_or (take k homes) j 0) = λ j h. subst P (sym (get_or-take k homes j 0 (omega (arith, size)))) (o.2 j (omega (arith, size))) in
    lut_done c.requires.turn c.requires.i_nonzero c.in-Lut.program (take k homes) c.put_lut.ensures (omega (arith, size, o.0)) kids o.3
