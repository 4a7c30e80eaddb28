-- `datum_of` meets its contract: the definition's two tests of the kind, in its order.
use Prim.Native.Nat.{ℕ}
use borrow.Author.Tests.{lt-ltb, le-ltb, eq-eqb, ne_eqb}
use lib.Dec.{ltb, eqb}
use mathlib.Core.Bool.{false, true}
use mathlib.Core.Path.{◌≡◌, sym, ◌∙◌}
use native.Mathlib.Omega.{arith}
use Rattle.meaning.specs.Rules.Kinds.{program_word, variable_word}
use Rattle.meaning.specs.Rules.Trees.{kind_at, datum_at}
use Rattle.nodes.proofs.datum_of.Goals as goal

pub returns-then-kind-gt-VARIABLE : goal.returns-then-kind-gt-VARIABLE
unfolding datum_at
returns-then-kind-gt-VARIABLE c =
    let kind : ℕ = kind_at c.args.nodes.now c.args.i in
    let parent : ltb variable_word kind ≡ true = lt-ltb variable_word kind (omega (arith, c.kind_word-kind.ensures)) in
    rw parent

pub returns-then-kind-ne-PROGRAM : goal.returns-then-kind-ne-PROGRAM
unfolding datum_at
returns-then-kind-ne-PROGRAM c =
    let kind : ℕ = kind_at c.args.nodes.now c.args.i in
    let leaf : ltb variable_word kind ≡ false = le-ltb variable_word kind (omega (arith, c.kind_word-kind.ensures)) in
    let other : eqb kind program_word ≡ false = ne_eqb kind program_word (λ e. c.if-kind-ne-PROGRAM.true (c.kind_word-kind.ensures ∙ e)) in
    rw (leaf, other) c.first_of-first.ensures.0

pub returns : goal.returns
unfolding datum_at
returns c =
    let kind : ℕ = kind_at c.args.nodes.now c.args.i in
    let leaf : ltb variable_word kind ≡ false = le-ltb variable_word kind (omega (arith, c.kind_word-kind.ensures)) in
    let program : eqb kind program_word ≡ true = eq-eqb kind program_word (sym c.kind_word-kind.ensures ∙ c.if-kind-ne-PROGRAM.false) in
    c.from_halves.ensures ∙ rw (leaf, program, c.first_of-first.ensures.0, c.count_of.ensures.0)
