-- `reading::folded_at` meets its contract: the operands' rows tell what folding asks of them (`folded_outcome`).
use Rattle.std.proofs.Common.{ℕ, List, ◌+◌, ◌*◌, ◌≤◌, ◌≡◌, sym, ap, subst, ◌∙◌, length, map, take, drop, arith}
use Rattle.meaning.specs.Rules.Limits.{work_per_node}
use Rattle.meaning.specs.Rules.Trees.{Tree}
use Rattle.meaning.specs.Rules.Folding.{fold}
use Rattle.folding.specs.Folded.{Each, Tells, folded_tree}
use Rattle.forms.specs.Operands.{homes_of, operands_few, operand_rows, homes_readable, homes_bare, folded_outcome}
use Rattle.forms.proofs.reading.folded_at.Goals as goal

pub read_homes-requires : goal.read_homes-requires
read_homes-requires c =
    let t = c.requires.turn in
    record {
      operands_in_bounds = rw c.operands_of-operands.ensures (omega (arith, operands_few _ _ t.formed.sound _ t.inside c.requires.i_nonzero c.requires.i_value));
      each = subst (Each (λ x. work_per_node * x + work_per_node ≤ length c.args.work.now)) (sym c.operands_of-operands.ensures) (operand_rows t c.requires.i_nonzero);
    }

pub fold_lut-requires-clause-each : goal.fold_lut-requires-clause-each
fold_lut-requires-clause-each c =
    homes_readable c.requires.turn c.requires.i_nonzero c.requires.i_value _ (c.read_homes.ensures ∙ ap (homes_of c.args.work.now) c.operands_of-operands.ensures)

pub fold_lut-requires-clause-program_bound : goal.fold_lut-requires-clause-program_bound
fold_lut-requires-clause-program_bound c = λ e.
    rw c.program_at-program.ensures
    (homes_bare c.requires.turn c.requires.i_nonzero c.requires.i_value _ (c.read_homes.ensures ∙ ap (homes_of c.args.work.now) c.operands_of-operands.ensures) e)

pub returns : goal.returns
returns c =
    let n = length c.operands_of-operands.result.now in
    let xs : List ℕ = take n c.read_homes.new.homes in
    let ys : List ℕ = c.fold_lut.new.operands in
    let folding = subst (λ (p : ℕ). (tree : ℕ → Tree) → Each (Tells c.args.work.now tree) xs → fold (length xs) p (map tree xs) ≡ folded_tree tree c.fold_lut.result ys) c.program_at-program.ensures c.fold_lut.ensures.by_index in
    folded_outcome c.requires.turn c.requires.i_nonzero c.requires.i_value xs (c.read_homes.ensures ∙ ap (homes_of c.args.work.now) c.operands_of-operands.ensures)
    c.fold_lut.result ys (drop n c.read_homes.new.homes) c.fold_lut.auto.operands folding c.fold_lut.ensures.left
