-- `no_variables` meets its contract.
use Rattle.inputs.specs.Room.{blanks_are}
use Rattle.meaning.specs.Rules.Limits.{variable_count}
use Rattle.inputs.proofs.driving.no_variables.Goals as goal

pub returns : goal.returns
returns c = blanks_are variable_count
