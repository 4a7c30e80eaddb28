-- `all_known` meets its contract: every byte is asked.
use Rattle.std.proofs.Common.{◌≡◌, ℕ, List, [], ◌∷◌, Bool, ◌&&◌, leb, refl, ap, rules, ◌∙◌}
use Rattle.std.specs.List.{list_all}
use Rattle.std.proofs.lemmas.Iterator.{YieldsList-from_slice}
use Rattle.std.proofs.lemmas.Iterator.Search.{all_from_yields_List}
use Rattle.meaning.specs.Rules.Refusals.{every}
use Rattle.meaning.specs.Rules.Answers.{undriven_byte}
use Rattle.evaluator.proofs.assignment.all_known.Goals as goal

every_asked : (p : ℕ → Bool) (xs : List ℕ) → list_all p xs ≡ every p xs
every_asked p [] = refl
every_asked p (x ∷ xs) = ap (λ (b : Bool). p x && b) (every_asked p xs)

pub returns : goal.returns
returns c =
    all_from_yields_List (λ b. leb b undriven_byte) _ _ _ c.all.ensures.ran (YieldsList-from_slice c.args.bytes.now (search rules)) (λ x b q k. search rules)
    ∙ every_asked (λ b. leb b undriven_byte) c.args.bytes.now
