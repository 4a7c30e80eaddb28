-- `leave` meets its contract: an entry unless it is there, then one store.
use Rattle.listing.specs.More.{kept_work, kept_count}
use lib.ListN.{set}
use Rattle.columns.specs.Columns.{place, number_column}
use Prim.Native.Nat.{ℕ, ◌+◌, ◌*◌}
use mathlib.Core.List.{List}
use mathlib.Core.Path.{refl, ap, ◌∙◌}
use Rattle.listing.proofs.leave.Goals as goal

pub returns : goal.returns
returns c =
    let ns : List ℕ = c.args.nodes.now in
    let ps : List ℕ = c.args.pool.now in
    let w : List ℕ = c.args.work.now in
    let h : ℕ = c.args.h in
    let n : ℕ = c.args.at.count in
    record {
      work_after = c.put.ensures ∙ ap (λ (l : List ℕ). set l (place number_column h) (c.own_number-number.result + 2)) c.list_entry-count.ensures.work_after ∙ ap (λ (k : ℕ). set (kept_work w k n (2 * h)) (place number_column h) (k + 2)) c.own_number-number.ensures.value;
      depth_value = (refl, c.list_entry-count.ensures.value ∙ ap (λ (k : ℕ). kept_count k n) c.own_number-number.ensures.value);
    }
