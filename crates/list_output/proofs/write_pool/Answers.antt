-- `write_pool` meets its contract: the loop has stored the parts of the entries below it.
use Rattle.std.proofs.Common.{ℕ, List, refl, sym, ap, ap₂, ◌∙◌, arith}
use Rattle.std.proofs.lemmas.List.Edits.{sets}
use Rattle.meaning.specs.Rules.Canonical.{canonical_pool}
use Rattle.list_output.specs.Canonical.{listing_size, listing_pool}
use Rattle.list_output.specs.Sizes.{size_none, size_next, size_within}
use Rattle.list_output.specs.Stores.{sets_written}
use Rattle.list_output.specs.Words.{entry_part, row_pool}
use Rattle.list_output.specs.Writing.{pool_begin, pool_more}
use Rattle.list_output.proofs.write_pool.Goals as goal

pub loop-k-init : goal.loop-k-init
loop-k-init c = (sym (size_none c.args.work.now), refl, pool_begin c.args.work.now c.args.out.now c.args.nodes.now c.args.pool.now)

pub write_part-requires-clause-in_bounds : goal.write_part-requires-clause-in_bounds
write_part-requires-clause-in_bounds c =
    rw c.listed_at-entry.ensures (omega (arith, size_within c.args.work.now c.loop-k.k c.args.count (omega arith), listing_size c.requires.listing))

pub overflow_add-at : goal.overflow_add-at
overflow_add-at c =
    let within = rw (← c.listed_at-entry.ensures) at (size_within c.args.work.now c.loop-k.k c.args.count (omega arith)) in
    record { fits = omega (arith, within, listing_size c.requires.listing) }

pub loop-k-preserved : goal.loop-k-preserved
loop-k-preserved c =
    let ns : List ℕ = c.args.nodes.now in
    let ps : List ℕ = c.args.pool.now in
    let w : List ℕ = c.args.work.now in
    let o : List ℕ = c.args.out.now in
    let k : ℕ = c.loop-k.k in
    let next = size_next w k in
    let stored = c.write_part.ensures
    ∙ ap (λ (x : List ℕ). sets x c.loop-k.at (entry_part ns ps w c.listed_at-entry.result)) c.loop-k.invariant.2
    ∙ ap₂ (λ (a e : ℕ). sets (sets o 0 (row_pool ns ps w k)) a (entry_part ns ps w e)) c.loop-k.invariant.0 c.listed_at-entry.ensures
    ∙ pool_more w o ns ps k in
    (cc, c.write_part.auto.out ∙ c.loop-k.invariant.1, stored)

pub returns : goal.returns
returns c =
    c.loop-k.invariant.2 ∙ ap (λ (n : ℕ). sets c.args.out.now 0 (row_pool c.args.nodes.now c.args.pool.now c.args.work.now n)) (omega arith)
    ∙ ap (sets c.args.out.now 0) (listing_pool c.requires.listing)
    ∙ sets_written (canonical_pool c.args.nodes.now c.args.pool.now) c.args.out.now c.requires.pool_in_bounds
