-- `fits` meets its contract, test by test.
use Rattle.canonicaliser.specs.Outcome.{fit_words}
use Rattle.meaning.specs.Rules.Limits.{words_per_node, most_nodes}
use borrow.Author.Tests.{lt-leb, le-leb}
use Prim.Native.Nat.{ℕ, ◌-◌, ◌*◌}
use mathlib.Core.Path.{sym}
use native.Mathlib.Omega.{arith}
use Rattle.canonicaliser.proofs.output.fits.Goals as goal

pub overflow_mul-count : goal.overflow_mul-count
overflow_mul-count c = record { fits = omega (arith, c.requires) }

pub returns-then-count-node_room : goal.returns-then-count-node_room
unfolding fit_words
returns-then-count-node_room c =
    let n : ℕ = c.args.count in
    let e : ℕ = c.args.entries in
    let a : ℕ = c.args.node_room in
    let b : ℕ = c.args.pool_room in
    sym (rw (lt-leb (n * words_per_node) a (omega (arith, c.if-count-node_room.true))))

pub returns-then-entries-pool_room : goal.returns-then-entries-pool_room
unfolding fit_words
returns-then-entries-pool_room c =
    let n : ℕ = c.args.count in
    let e : ℕ = c.args.entries in
    let a : ℕ = c.args.node_room in
    let b : ℕ = c.args.pool_room in
    sym (rw (le-leb (n * words_per_node) a (omega (arith, c.if-count-node_room.false)), lt-leb e b (omega (arith, c.if-entries-pool_room.true))))

pub returns-then-count-gt-MOST_NODES : goal.returns-then-count-gt-MOST_NODES
unfolding fit_words
returns-then-count-gt-MOST_NODES c =
    let n : ℕ = c.args.count in
    let e : ℕ = c.args.entries in
    let a : ℕ = c.args.node_room in
    let b : ℕ = c.args.pool_room in
    sym (rw (le-leb (n * words_per_node) a (omega (arith, c.if-count-node_room.false)), le-leb e b (omega (arith, c.if-entries-pool_room.false)), lt-leb n most_nodes (omega (arith, c.if-count-gt-MOST_NODES.true))))

pub returns : goal.returns
unfolding fit_words
returns c =
    let n : ℕ = c.args.count in
    let e : ℕ = c.args.entries in
    let a : ℕ = c.args.node_room in
    let b : ℕ = c.args.pool_room in
    sym (rw (le-leb (n * words_per_node) a (omega (arith, c.if-count-node_room.false)), le-leb e b (omega (arith, c.if-entries-pool_room.false)), le-leb n most_nodes (omega (arith, c.if-count-gt-MOST_NODES.false))))
