-- `same_kids` meets its contract: all numbers are the same exactly if no child differs, the first or another.
use Rattle.std.proofs.Common.{rules, arith, true, false, not, ap, ◌≡◌, ◌-◌, refl}
use Rattle.std.proofs.lemmas.Iterator.{cases_from_all, YieldsList-from_range}
use borrow.Author.Tests.{tests}
use Rattle.listed.specs.Likeness.{kid_differs, same_kids}
use Rattle.listed.proofs.Kids.{none_to_ask, first_passes, rest_asked}
use Rattle.listed.proofs.alike.same_kids.Goals as goal

pub returns-then-count-eq0 : goal.returns-then-count-eq0
unfolding same_kids
returns-then-count-eq0 c =
    none_to_ask (kid_differs c.args.nodes.now c.args.pool.now c.args.work.now c.args.h c.args.g) c.args.count c.if-count-eq0.true

pub returns-else-same_kid : goal.returns-else-same_kid
unfolding same_kids
returns-else-same_kid c =
    first_passes (kid_differs c.args.nodes.now c.args.pool.now c.args.work.now c.args.h c.args.g) c.args.count c.same_kid.result (omega arith)
    c.if-same_kid.false (ap not (search rules))

pub returns-then-same_kid : goal.returns-then-same_kid
unfolding same_kids
returns-then-same_kid c =
    let p = kid_differs c.args.nodes.now c.args.pool.now c.args.work.now c.args.h c.args.g in
    rest_asked p c.args.count c.all.result (omega arith) (search (rules, tests))
    (cases_from_all _ _ c.all.result (λ j. p j ≡ false) (λ j. p j ≡ true) c.all.ensures.ran (YieldsList-from_range 1 c.args.count (c.args.count - 1) refl refl) (λ x q k. search (rules, tests)) (λ x q k. search (rules, tests)))
