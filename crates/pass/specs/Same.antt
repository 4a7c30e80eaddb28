-- "A plain evaluator .. is kept beside it and proved equal": what the pass leaves in a node's row is what `plain::eval_rec`
-- promises to answer there, for every node that has an answer; every other node's row shows 5 and 0.
use Rattle.std.specs.Prelude.{ℕ, ◌+◌, ◌≡◌, List}
use Rattle.std.proofs.Common.{sym, ap, ◌∙◌}
use Rattle.meaning.specs.declared.Answer.{Answer}
use Rattle.meaning.specs.Rules.Trees.{tree_of}
use Rattle.meaning.specs.Rules.Answers.{Assignment, answer, state_of, value_of}
use Rattle.columns.specs.Columns.{cell, state_column, value_column}
use Rattle.accepted.specs.Nodes.{Logic}
use Rattle.rows.specs.Rows.{Prepared, pair_logic}
use Rattle.pass.specs.Written.{with_pairs, passed}

pub same_answers : (ns ps : List ℕ) (α : Assignment) (base : ℕ) (work : List ℕ) → Prepared ns ps base work → (n : ℕ) → Logic ns ps n
    → (r : Answer) → r ≡ answer α (tree_of ns ps n)
    → (cell (with_pairs ns ps α base work) state_column (base + n) ≡ state_of r) × (cell (with_pairs ns ps α base work) value_column (base + n) ≡ value_of r)
same_answers ns ps α base work p n g r e =
    let filled = passed ns ps α base work p in
    let pair = pair_logic ns ps α n g in
    (filled.states n g.inside ∙ pair.0 ∙ sym (ap state_of e), filled.values n g.inside ∙ pair.1 ∙ sym (ap value_of e))
