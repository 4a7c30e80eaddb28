use Rattle.std.proofs.Common.{◌≡◌, ◌&&◌, true, false, eqb, refl, arith}
use Rattle.meaning.specs.Rules.Evaluable.{fits, is_root}
use Rattle.meaning.specs.Rules.Kinds.{kind_of, program_word}
use Rattle.meaning.specs.Rules.Trees.{kind_at}
use Rattle.shapes.specs.Shapes.{Holds, child_shapes, children_hold, reached}
use Rattle.shapes.proofs.fit.shape_fault.Goals as goal

pub returns-then-not-fits : goal.returns-then-not-fits
returns-then-not-fits c =
    let well = c.requires.laid c.args.i c.requires.i_bound in
    let held : Holds c.args.work.now c.args.base c.children_of.result.now (child_shapes c.args.nodes.now c.args.pool.now c.args.i) =
    rw c.children_of.ensures (children_hold c.args.nodes.now c.args.pool.now c.args.work.now c.args.base c.args.i well c.requires.column) in
    let said = c.fits.ensures (child_shapes c.args.nodes.now c.args.pool.now c.args.i) held in
    let asked : fits (kind_of (kind_at c.args.nodes.now c.args.i)) (child_shapes c.args.nodes.now c.args.pool.now c.args.i) ≡ false = cc in
    rw (reached c.args.nodes.now c.args.pool.now c.args.i false (is_root c.args.nodes.now c.args.i && eqb (kind_at c.args.nodes.now c.args.i) program_word) well (omega arith) asked refl)

pub returns : goal.returns
returns c =
    let well = c.requires.laid c.args.i c.requires.i_bound in
    let held : Holds c.args.work.now c.args.base c.children_of.result.now (child_shapes c.args.nodes.now c.args.pool.now c.args.i) =
    rw c.children_of.ensures (children_hold c.args.nodes.now c.args.pool.now c.args.work.now c.args.base c.args.i well c.requires.column) in
    let said = c.fits.ensures (child_shapes c.args.nodes.now c.args.pool.now c.args.i) held in
    let asked : fits (kind_of (kind_at c.args.nodes.now c.args.i)) (child_shapes c.args.nodes.now c.args.pool.now c.args.i) ≡ true = cc in
    let root : (is_root c.args.nodes.now c.args.i && eqb (kind_at c.args.nodes.now c.args.i) program_word) ≡ false = cc in
    rw (reached c.args.nodes.now c.args.pool.now c.args.i true false well (omega arith) asked root)
