-- both lists are past number 8 when the trees are tested
use Rattle.comparer.specs.Both.{first_listed, second_listed}
use Rattle.comparer.proofs.compared.Goals as goal

pub deep_equals-requires-clause-listed : goal.deep_equals-requires-clause-listed
deep_equals-requires-clause-listed c = first_listed _ _ _ _ _ (c.both_sound.ensures.both_prepared (c.in_ok-both_sound.was))

pub deep_equals-requires-clause-listed_2 : goal.deep_equals-requires-clause-listed_2
deep_equals-requires-clause-listed_2 c = second_listed _ _ _ _ _ (c.both_sound.ensures.both_prepared (c.in_ok-both_sound.was))
