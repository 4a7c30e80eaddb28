-- `fold_lut` meets its contract: each turn leaves a Lut that folds to the same tree (`Folding`).
use Rattle.std.proofs.Common.{sym, ap, subst, ◌∙◌, arith}
use Rattle.folding.specs.declared.Folded.{Folded}
use Rattle.folding.specs.Folded.{Readable, Left, folded_tree}
use Rattle.folding.specs.FoldedLaws.{Folding, folding_start, left_length, each_left, next_inside, folding_drop, folding_stay, folding_none, folding_one, one_is_left}
use Rattle.folding.proofs.fold_lut.Goals as goal

pub loop-count-init : goal.loop-count-init
loop-count-init c = folding_start c.args.work.now c.args.operands.now c.args.program c.requires.program_bound

pub slice_bounds-next_rule-end-in-loop-count : goal.slice_bounds-next_rule-end-in-loop-count
slice_bounds-next_rule-end-in-loop-count c = sym (left_length c.loop-count.invariant)

pub next_rule-requires : goal.next_rule-requires
next_rule-requires c = let f = c.loop-count.invariant in
    record {
      in_bounds = (omega (arith, left_length f), omega (arith, left_length f));
      each = each_left f (Readable c.args.work.now) c.requires.each;
    }

pub returns-in_default-clause-by_index : goal.returns-in_default-clause-by_index
returns-in_default-clause-by_index c = folding_stay c.loop-count.invariant c.loop-count-test.true (sym c.next_rule.ensures ∙ c.in_default.is)

pub drop_at-requires : goal.drop_at-requires
drop_at-requires c =
    let f = c.loop-count.invariant in
    (omega (arith, left_length f, next_inside _ _ _ _ (sym c.next_rule.ensures ∙ c.in-Some.is)), omega (arith, f.size, f.most))

pub loop-count-preserved : goal.loop-count-preserved
loop-count-preserved c =
    folding_drop c.loop-count.invariant c.loop-count-test.true _ c.drop_at.new.operands (sym c.next_rule.ensures ∙ c.in-Some.is) c.drop_at.auto.operands c.drop_at.ensures

pub returns-then-count-eq0-clause-by_index : goal.returns-then-count-eq0-clause-by_index
returns-then-count-eq0-clause-by_index c = folding_none c.loop-count.invariant c.if-count-eq0.true

pub returns : goal.returns
returns c =
    let g = subst (Folding c.args.work.now c.args.operands.now c.args.program c.loop-count.operands c.loop-count.left) (omega arith) c.loop-count.invariant in
    record {
      by_index = λ tree tells. folding_one g tree tells ∙ ap (λ (r : Folded). folded_tree tree r c.loop-count.operands) (sym c.fold_one.ensures);
      left = subst (λ (r : Folded). Left c.args.operands.now r c.loop-count.operands) (sym c.fold_one.ensures) (one_is_left g);
    }
