use Rattle.std.proofs.Common.{rules, tests, ℕ, Bool, ◌<◌, ◌+◌, length, ◌∙◌}
use Rattle.std.proofs.lemmas.Iterator.Search.{all_from_yields_List}
use Rattle.std.proofs.lemmas.Iterator.{YieldsList-from_slice}
use Rattle.std.proofs.lemmas.Iterator.Adapters.{serves_from_places}
use Rattle.lists.specs.Scan.{all_every}
use Rattle.columns.specs.Columns.{place, cell, shape_column}
use Rattle.shapes.specs.Shapes.{code_stands, row_of, holds_every}
use Rattle.shapes.proofs.fit.all_stand.Goals as goal

pub all-requires-clause-callable : goal.all-requires-clause-callable
all-requires-clause-callable c =
    serves_from_places (YieldsList-from_slice c.args.children.now cc) (λ x q k. search rules)
    (λ x k l e. let inside : place shape_column (c.args.base + x.now) < length c.args.work.now = row_of c.args.work.now c.args.base c.args.children.now c.requires x.now k l e in search (rules, inside))

pub returns : goal.returns
returns c =
    λ ss h.
    let test : ℕ → Bool = λ k. code_stands c.args.bits_only (cell c.args.work.now shape_column (c.args.base + k)) in
    all_from_yields_List test _ _ c.all.result c.all.ensures.ran (YieldsList-from_slice c.args.children.now cc) (λ x b q k. search (rules, tests))
    ∙ all_every test c.args.children.now ∙ holds_every c.args.work.now c.args.base c.args.bits_only c.args.children.now ss h
