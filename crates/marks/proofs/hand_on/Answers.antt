use Prim.Native.Nat.{ℕ, ◌<◌, ◌+◌}
use mathlib.Core.Path.{◌≡◌, sym, ap, ap₂, ◌∙◌}
use mathlib.Core.List.{List}
use lib.ListN.{length}
use native.Mathlib.Omega.{arith}
use Rattle.meaning.specs.Rules.Trees.{children_at}
use Rattle.columns.specs.Columns.{cell, mark_column}
use Rattle.marks.specs.Handing.{lowered, handed_on, turn_reached, turn_unreached}
use Rattle.marks.proofs.hand_on.Goals as goal

pub returns-then-mark-eq0 : goal.returns-then-mark-eq0
returns-then-mark-eq0 c =
    let ns : List ℕ = c.args.nodes.now in
    let ps : List ℕ = c.args.pool.now in
    let base : ℕ = c.args.base in
    let p : ℕ = c.args.p in
    let work : List ℕ = c.args.work.now in
    let none : cell work mark_column (base + p) ≡ 0 = sym c.get-mark.ensures ∙ c.if-mark-eq0.true in
    sym (turn_unreached ns ps base p work none)

pub lower_all-requires : goal.lower_all-requires
lower_all-requires c =
    let ns : List ℕ = c.args.nodes.now in
    let ps : List ℕ = c.args.pool.now in
    let base : ℕ = c.args.base in
    let p : ℕ = c.args.p in
    let work : List ℕ = c.args.work.now in
    λ k h.
    let l : k < length (children_at ns ps p) = rw c.children_of.ensures at h in
    rw c.children_of.ensures (omega (arith, c.requires.well_laid.2 k l, c.requires.p_bound, c.requires.nodes_in_bounds))

pub returns : goal.returns
returns c =
    let ns : List ℕ = c.args.nodes.now in
    let ps : List ℕ = c.args.pool.now in
    let base : ℕ = c.args.base in
    let p : ℕ = c.args.p in
    let work : List ℕ = c.args.work.now in
    let mark : c.get-mark.result ≡ cell work mark_column (base + p) = c.get-mark.ensures in
    let handed : c.handed_on-handed.result ≡ handed_on ns p (cell work mark_column (base + p)) =
    c.handed_on-handed.ensures ∙ ap (handed_on ns p) mark in
    c.lower_all.ensures
    ∙ ap₂ (λ (m : ℕ) (cs : List ℕ). lowered base m cs work) handed c.children_of.ensures
    ∙ sym (turn_reached ns ps base p work (omega (arith, mark)))
