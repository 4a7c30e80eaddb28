-- `name_variables` meets its contract: the first v places hold the numbers below v.
use Rattle.std.proofs.Common.{ℕ, List, ◌+◌, ◌<◌, ◌≡◌, true, refl, subst, ◌∙◌, length, take, drop, set, arith, length-take-le}
use Rattle.std.proofs.lemmas.List.{take-append-le}
use Rattle.inputs.specs.Inputs.{keep_turn}
use Rattle.meaning.specs.Rules.Assignments.{upto}
use Rattle.separator.proofs.numbered.name_variables.Goals as goal

pub loop-v-init : goal.loop-v-init
loop-v-init c = refl

pub loop-v-preserved : goal.loop-v-preserved
loop-v-preserved c =
    let v : ℕ = c.loop-v.v in
    let vs : List ℕ = c.loop-v.named in
    let room : v < length vs = omega (arith, c.loop-v.auto.named, c.loop-v-test.true) in
    keep_turn true v v (v + 1) refl (λ u. true) vs (set vs v v) refl room refl c.loop-v.invariant

pub returns : goal.returns
returns c =
    let n : ℕ = c.args.n in
    let size : length (take n c.args.variables.now) ≡ n = length-take-le n c.args.variables.now c.requires in
    let whole : c.loop-v.v ≡ n = omega (arith, size, c.loop-v-test.false, c.loop-v.auto.v-end) in
    take-append-le n c.loop-v.named (drop n c.args.variables.now) (omega (arith, size, c.loop-v.auto.named))
    ∙ subst (λ (k : ℕ). take k c.loop-v.named ≡ upto k) whole c.loop-v.invariant
