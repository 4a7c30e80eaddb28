-- `searched` meets its contract: no crossing, or the two answers at the lowest.
use Rattle.std.proofs.Common.{◌∙◌, ap, length, arith}
use Rattle.meaning.specs.Rules.Trees.{root_of}
use Rattle.meaning.specs.Rules.Separation.{found}
use Rattle.crossings.specs.Searching.{found_index, found_nothing}
use Rattle.separator.specs.Judged.{no_crossing, crossing}
use Rattle.separator.proofs.searched.Goals as goal

pub returns-in_default : goal.returns-in_default
returns-in_default c =
    let t = root_of c.args.nodes.now c.args.pool.now in
    let n = length c.args.variables.now in
    c.separated.ensures ∙ ap found (no_crossing t n c.args.marks (found_nothing t n c.args.marks c.in_default.ensures.value))

pub returns : goal.returns
returns c =
    let t = root_of c.args.nodes.now c.args.pool.now in
    let n = length c.args.variables.now in
    let given = c.requires.searchable in
    let lowest = found_index t n c.args.marks c.in-Some.index c.in-Some.ensures.value in
    let told = crossing t n c.args.marks given.marks_small (omega (arith, given.few)) c.in-Some.index lowest.0 lowest.1 c.answer_under-run.result c.answer_under-cleared.result c.answer_under-run.ensures.value c.answer_under-cleared.ensures.value in
    c.crossing_at.ensures ∙ ap found told
