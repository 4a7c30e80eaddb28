-- `canonicalize_into` hands on counts that are within the outputs.
use Rattle.std.proofs.Common.{◌≤◌, length, arith, sym, ◌∙◌}
use Rattle.canonicaliser.specs.Outcome.{list_fits}
use Rattle.canonicalize.proofs.list.canonicalize_into.Goals as goal

pub write_starts-requires-clause-words_in_bounds :
    goal.write_starts-requires-clause-words_in_bounds
write_starts-requires-clause-words_in_bounds g c =
    let fits = list_fits _ _ _ _ _ _ (sym c.canonicalize_expr.ensures.value ∙ c.in-Ok.is) in
    omega (arith, fits.0, c.canonicalize_expr.auto.out_nodes)

pub write_starts-requires-clause-entries_in_bounds :
    goal.write_starts-requires-clause-entries_in_bounds
write_starts-requires-clause-entries_in_bounds g c =
    let fits = list_fits _ _ _ _ _ _ (sym c.canonicalize_expr.ensures.value ∙ c.in-Ok.is) in
    omega (arith, fits.1, c.canonicalize_expr.auto.out_pool)
