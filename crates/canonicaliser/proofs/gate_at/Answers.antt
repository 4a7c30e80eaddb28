use Rattle.std.proofs.Common.{◌≡◌, ◌+◌, ◌∙◌, sym, ap, ℕ}
use native.Mathlib.Nat.{zero-add}
use Rattle.columns.specs.Columns.{cell, mark_column, shape_column}
use Rattle.canonicaliser.specs.Accepted.{gate_told}
use Rattle.canonicaliser.proofs.gate_at.Goals as goal

pub returns : goal.returns
returns c =
    let row : c.args.i ≡ 0 + c.args.i = sym (zero-add c.args.i) in
    let mark = c.get.ensures ∙ ap (λ (k : ℕ). cell c.args.work.now mark_column k) row ∙ c.requires.marked.marks c.args.i c.requires.i_bound in
    let shape = c.get-2.ensures ∙ ap (λ (k : ℕ). cell c.args.work.now shape_column k) row ∙ c.requires.shaped c.args.i c.requires.i_bound in
    gate_told c.args.nodes.now c.args.pool.now c.args.i _ _ _ mark shape (λ word e. c.gate_fault.ensures word (e ∙ sym c.kind_of.ensures))
