use Rattle.std.proofs.Common.{rules, ◌≡◌, ◌∙◌, sym, subst, get_or}
use Rattle.std.proofs.lemmas.Grind.{get_or_default_zero}
use Rattle.folding.specs.Folded.{Readable}
use Rattle.std.proofs.lemmas.Iterator.{YieldsList-from_slice}
use Rattle.std.proofs.lemmas.Iterator.Adapters.{serves_from_places}
use Rattle.folding.proofs.dropping.first_constant.Goals as goal

pub position-requires-clause-callable : goal.position-requires-clause-callable
position-requires-clause-callable c =
    serves_from_places (YieldsList-from_slice c.args.operands.now cc) (λ x q k. search rules)
    (λ x k h e.
    let same : get_or c.args.operands.now k 0 ≡ x.now = sym (e ∙ get_or_default_zero c.args.operands.now k x.now h) in
    let room = (subst (Readable c.args.work.now) same (c.requires k h)).room in search rules)
