-- `list_entry` meets its contract: an entry is stored where its tree was found nowhere.
use Rattle.listing.specs.More.{kept_work, kept_count}
use borrow.Author.Tests.{eq-eqb, ne_eqb}
use mathlib.Core.Path.{sym, ◌∙◌}
use Rattle.listing.proofs.entry.list_entry.Goals as goal

pub returns-then-number-count : goal.returns-then-number-count
unfolding kept_work kept_count
returns-then-number-count c =
    let e = ne_eqb c.args.number c.args.count c.if-number-count.true in
    record {
      value = sym (rw e);
      work_after = sym (rw e);
    }

pub returns : goal.returns
unfolding kept_work kept_count
returns c =
    let e = eq-eqb c.args.number c.args.count c.if-number-count.false in
    record {
      value = sym (rw e);
      work_after = c.put_listed.ensures ∙ sym (rw e);
    }
