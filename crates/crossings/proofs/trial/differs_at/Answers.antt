-- `differs_at` meets its contract: the answer there, and whether it is the cleared self's.
use Rattle.meaning.specs.Rules.Comparison.{same_answer}
use Rattle.meaning.specs.declared.Answer.{Answer}
use mathlib.Core.Bool.{not}
use mathlib.Core.Path.{ap, ◌∙◌}
use Rattle.crossings.proofs.trial.differs_at.Goals as goal

pub answer_under-answer-requires : goal.answer_under-answer-requires
answer_under-answer-requires c =
    record {
      variables_value = c.requires.variables_value;
      prepared = c.requires.prepared;
      drivable = c.requires.drivable;
    }

pub returns : goal.returns
returns c =
    record {
      value = ap not (c.same_answer.ensures ∙ ap (λ (x : Answer). same_answer x c.args.cleared) c.answer_under-answer.ensures.value);
      prepared_2 = c.answer_under-answer.ensures.prepared_2;
      drivable_2 = c.answer_under-answer.ensures.drivable_2;
    }
