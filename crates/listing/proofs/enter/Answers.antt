-- `enter` meets its contract: a Program listed, then three stores.
use Rattle.columns.specs.Columns.{stack_column, next_column, place, number_column}
use lib.ListN.{set}
use Prim.Native.Nat.{ℕ}
use mathlib.Core.List.{List}
use mathlib.Core.Path.{refl, ap, ◌∙◌}
use Rattle.listing.proofs.enter.Goals as goal

pub returns : goal.returns
returns c =
    let w : List ℕ = c.args.work.now in
    let h : ℕ = c.args.h in
    let d : ℕ = c.args.at.depth in
    record {
      work_after = c.put-3.ensures ∙ ap (λ (l : List ℕ). set l (place number_column h) 1)
          (c.put-2.ensures ∙ ap (λ (l : List ℕ). set l (place next_column d) 0)
          (c.put.ensures ∙ ap (λ (l : List ℕ). set l (place stack_column d) h) c.list_program-count.ensures.work_after));
      depth_value = (refl, c.list_program-count.ensures.value);
    }
