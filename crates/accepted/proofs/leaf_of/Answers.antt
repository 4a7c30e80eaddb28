-- `leaf_of` meets its contract: a leaf's datum is its first word; the default arm is a variable.
use Rattle.std.proofs.Common.{ap, ◌∙◌, ⊎_elim}
use Rattle.meaning.specs.Rules.Assignments.{given}
use Rattle.meaning.specs.Rules.Answers.{driven}
use Rattle.meaning.specs.declared.Answer.TheVariants.{Value}
use Rattle.accepted.specs.Nodes.{leaf_datum}
use Rattle.accepted.proofs.leaf_of.Goals as goal

pub returns-in-Const : goal.returns-in-Const
returns-in-Const c = λ xs. rw (← c.in-Const.ensures, leaf_datum c.args.nodes.now c.args.n c.requires.leaf) (ap (Value 1) c.first_of-first.ensures.0)

pub returns-in_default : goal.returns-in_default
returns-in_default c =
    λ xs.
    let variable = ⊎_elim (λ e. absurd (c.in_default.not-Const (c.kind_of.ensures ∙ e))) (⊎_elim (λ e. absurd (c.in_default.not-DC (c.kind_of.ensures ∙ e))) (λ e. e)) c.requires.leaf in
    rw (variable, leaf_datum c.args.nodes.now c.args.n c.requires.leaf) (c.driven_by.ensures ∙ ap driven (c.byte_of.ensures ∙ ap (given c.args.bytes.now) c.first_of-first.ensures.0))
