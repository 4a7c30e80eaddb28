-- `undriven` meets its contract.
use Rattle.inputs.specs.Room.{undriven_are}
use Rattle.meaning.specs.Rules.Limits.{variable_count}
use Rattle.inputs.proofs.driving.undriven.Goals as goal

pub returns : goal.returns
returns c = undriven_are variable_count
