-- `write_part` meets its contract: a Program has no part; a form's is its Program's number, then its children's.
use Rattle.std.proofs.Common.{ℕ, List, ◌+◌, ◌/◌, ◌≡◌, length, sym, ap, ◌∙◌, arith}
use Rattle.std.proofs.lemmas.List.Edits.{sets}
use Rattle.list_output.specs.Sizes.{program_size}
use Rattle.list_output.specs.Stores.{sets_behind}
use Rattle.list_output.specs.Entry.{odd_part, even_part, even_count}
use Rattle.list_output.specs.Words.{program_part, kids_part}
use Rattle.list_output.proofs.part.write_part.Goals as goal

pub returns-then-entry-eq1 : goal.returns-then-entry-eq1
returns-then-entry-eq1 c = sym (ap (sets c.args.out.now c.args.at) (odd_part c.args.work.now c.args.entry c.args.nodes.now c.args.pool.now c.if-entry-eq1.true))

pub write_program-requires-clause-h_in_bounds : goal.write_program-requires-clause-h_in_bounds
write_program-requires-clause-h_in_bounds c = omega (arith, even_count c.args.work.now c.args.entry c.if-entry-eq1.false)

pub overflow_add-at : goal.overflow_add-at
overflow_add-at c = record { fits = omega (arith, even_count c.args.work.now c.args.entry c.if-entry-eq1.false) }

pub write_kids-requires-clause-h_in_bounds : goal.write_kids-requires-clause-h_in_bounds
write_kids-requires-clause-h_in_bounds c = omega (arith, even_count c.args.work.now c.args.entry c.if-entry-eq1.false)

pub returns : goal.returns
returns c =
    let ns : List ℕ = c.args.nodes.now in
    let ps : List ℕ = c.args.pool.now in
    let w : List ℕ = c.args.work.now in
    let h : ℕ = c.args.entry / 2 in
    let at : ℕ = c.args.at + c.program_count.result in
    let behind : c.args.at + length (program_part w h) ≡ at = ap (λ (x : ℕ). c.args.at + x) (program_size w h ∙ sym c.program_count.ensures) in
    c.write_kids.ensures
    ∙ ap (λ (l : List ℕ). sets l at (kids_part ns ps w h)) c.write_program.ensures
    ∙ sets_behind (program_part w h) (kids_part ns ps w h) c.args.out.now c.args.at at behind
    ∙ ap (sets c.args.out.now c.args.at) (sym (even_part w c.args.entry ns ps c.if-entry-eq1.false))
