use Rattle.std.proofs.Common.{◌≡◌, ℕ, ◌+◌, List, get_or, drop, set, ap, ap₂, sym, ◌∙◌, arith}
use Rattle.meaning.specs.Rules.Reach.{nearer}
use Rattle.columns.specs.Columns.{place, cell, mark_column}
use Rattle.marks.specs.Handing.{lower_one, lowered, lowered_more, lowered_done}
use Rattle.marks.proofs.lower_all.Goals as goal

pub loop-child-preserved : goal.loop-child-preserved
loop-child-preserved c =
    let cs : List ℕ = c.args.children.now in
    let work : List ℕ = c.loop-child.work in
    let mark : ℕ = c.args.mark in
    let base : ℕ = c.args.base in
    let i : ℕ = c.loop-child.child-index in
    let child : c.wide.result ≡ get_or cs i 0 = c.wide.ensures.0 in
    let own : c.get-own.result ≡ cell work mark_column (base + get_or cs i 0) = c.get-own.ensures ∙ ap (λ (k : ℕ). cell work mark_column (base + k)) child in
    let handed : c.nearer.result ≡ nearer mark (cell work mark_column (base + get_or cs i 0)) = c.nearer.ensures ∙ ap (nearer mark) own in
    let stored : c.put.new.work ≡ lower_one base mark (get_or cs i 0) work =
    c.put.ensures ∙ ap₂ (λ (k v : ℕ). set work (place mark_column (base + k)) v) child handed in (
      c.put.auto.work ∙ c.loop-child.invariant.0,
      ap (lowered base mark (drop (i + 1) cs)) stored ∙ lowered_more base mark cs work i (omega arith) ∙ c.loop-child.invariant.1,
    )

pub returns : goal.returns
returns c = sym (lowered_done c.args.base c.args.mark c.args.children.now c.loop-child.work c.loop-child.child-index (omega arith)) ∙ c.loop-child.invariant.1
