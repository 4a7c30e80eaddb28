-- `is_left` meets its contract: the words are looked through with their places.
use Rattle.std.proofs.Common.{rules, ◌∙◌}
use Rattle.std.proofs.lemmas.Iterator.{YieldsList-from_slice}
use Rattle.std.proofs.lemmas.Iterator.Adapters.{YieldsList-from_skip}
use Rattle.std.proofs.lemmas.Iterator.Consumers.{YieldsList-from_enumerate}
use Rattle.std.proofs.lemmas.Iterator.Search.{all_from_yields_List}
use Rattle.lent_words.specs.LentLaws.{looked_through}
use Rattle.lent_words.proofs.is_left.Goals as goal

pub returns : goal.returns
returns g c =
    let words = YieldsList-from_slice {s = c.skip.result.iter.iter} c.args.words.now (cc) in
    let places = YieldsList-from_enumerate {s = c.skip.result.iter} words (cc) in
    let looked = YieldsList-from_skip {s = c.skip.result} c.args.from places c.skip.ensures.count in
    all_from_yields_List (λ p. g.W.PartialEq.eq p.1 (g.W.LentWord.after c.args.cleared p.0)) _ _ _ c.all.ensures.ran looked (λ x b q k. search rules)
    ∙ looked_through g.W.PartialEq.eq (g.W.LentWord.after c.args.cleared) c.args.from c.args.words.now
