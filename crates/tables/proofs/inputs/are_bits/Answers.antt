-- `tables::inputs::are_bits` meets its contract: the definition is the test of every byte.
use Rattle.std.proofs.Common.{◌∙◌, rules, tests, nat_lt}
use Rattle.std.proofs.lemmas.Iterator.{YieldsList-from_slice}
use Rattle.std.proofs.lemmas.Iterator.Search.{all_from_yields_List}
use Rattle.tables.specs.Inputs.{all_bits}
use Rattle.tables.proofs.inputs.are_bits.Goals as goal

pub returns : goal.returns
returns c =
    all_from_yields_List (λ b. nat_lt b 2) _ _ _ c.all.ensures.ran (YieldsList-from_slice c.args.inputs.now cc)
    (λ x b f called. search (rules, tests))
    ∙ all_bits c.args.inputs.now
