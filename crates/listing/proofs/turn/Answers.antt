-- `turn` meets its contract: the laws of a turn (specs/Turn), for each of its three ways.
use Rattle.std.proofs.Common.{ℕ, List, ◌+◌, ◌-◌, ◌≡◌, ◌≢◌, refl, sym, ap, ap₂, subst, ◌∙◌, set, arith}
use Rattle.columns.specs.Columns.{stack_column, next_column, cell, place, count_column, number_column}
use Rattle.form_rows.specs.Forms.{kid_at}
use Rattle.listing.specs.More.{kept_count}
use Rattle.listing.specs.Steps.{own_number, closed_work}
use Rattle.listing.specs.Turn.{visit_reads, visit_entry, visit_depth, visit_row, visit_turn, last_row, at_row, at_home, at_listable, at_formed, at_room, leave_turn, next_more, child_row, child_now, next_turn}
use Rattle.listing.specs.Walk.{Visit}
use Rattle.listing.proofs.turn.Goals as goal

-- what a turn reads: the last node of the path, the child that is next there, and how many children it has
module _ (work : List ℕ) (last : ℕ) {h next count : ℕ} (at : h ≡ cell work stack_column last) (is : next ≡ cell work next_column last)
    (many : count ≡ cell work count_column h) where
  over : next ≡ count → cell work next_column last ≡ cell work count_column (cell work stack_column last)
  over e = sym is ∙ e ∙ many ∙ ap (cell work count_column) at

  more : (next ≡ count → ⊥) → cell work next_column last ≢ cell work count_column (cell work stack_column last)
  more ne e = ne (is ∙ e ∙ sym (many ∙ ap (cell work count_column) at))

  child_is : (ns ps : List ℕ) {child : ℕ} → child ≡ kid_at ns ps work h next
      → child ≡ kid_at ns ps work (cell work stack_column last) (cell work next_column last)
  child_is ns ps e = e ∙ ap₂ (kid_at ns ps work) at is

pub get-h-requires : goal.get-h-requires
get-h-requires c = omega (arith, last_row c.requires.walk c.requires.depth_nonzero refl)

pub get-next-requires : goal.get-next-requires
get-next-requires c = omega (arith, last_row c.requires.walk c.requires.depth_nonzero refl)

pub kid_count-requires : goal.kid_count-requires
kid_count-requires c = omega (arith, c.get-h.ensures, at_row c.requires.walk c.requires.depth_nonzero refl)

pub leave-requires : goal.leave-requires
leave-requires c = record {
  listable = at_listable c.requires.walk c.requires.depth_nonzero refl;
  home = rw c.get-h.ensures (at_home c.requires.walk c.requires.depth_nonzero refl);
  depth_nonzero = (c.requires.depth_nonzero, at_room c.requires.walk c.requires.depth_nonzero refl);
}

pub returns-then-next-kid_count : goal.returns-then-next-kid_count
returns-then-next-kid_count c =
    let ns : List ℕ = c.args.nodes.now in
    let ps : List ℕ = c.args.pool.now in
    let w : List ℕ = c.args.work.now in
    let n : ℕ = c.args.at.count in
    let at = c.get-h.ensures in
    let left = leave_turn c.requires.walk c.requires.depth_nonzero refl (over c.args.work.now (c.args.at.depth - 1) at c.get-next.ensures c.kid_count.ensures c.if-next-kid_count.true) c.leave.new.work c.leave.result.depth c.leave.result.count
    (c.leave.ensures.work_after ∙ ap (closed_work ns ps w n) at) c.leave.ensures.depth_value.0 (c.leave.ensures.depth_value.1 ∙ ap (λ (h : ℕ). kept_count (own_number ns ps w n h) n) at) in
    record { walk_2 = left.0; depth_bound = left.1 }

pub kid-child-requires : goal.kid-child-requires
kid-child-requires c = record {
  formed = at_formed c.requires.walk c.requires.depth_nonzero refl;
  home = rw c.get-h.ensures (at_home c.requires.walk c.requires.depth_nonzero refl);
  j_bound = rw (c.get-h.ensures, c.get-next.ensures) (next_more c.requires.walk c.requires.depth_nonzero refl (more c.args.work.now (c.args.at.depth - 1) c.get-h.ensures c.get-next.ensures c.kid_count.ensures c.if-next-kid_count.false));
}

pub get-requires : goal.get-requires
get-requires c =
    let child = child_is c.args.work.now (c.args.at.depth - 1) c.get-h.ensures c.get-next.ensures c.kid_count.ensures c.args.nodes.now c.args.pool.now c.kid-child.ensures in
    omega (arith, child, child_row c.requires.walk c.requires.depth_nonzero refl (more c.args.work.now (c.args.at.depth - 1) c.get-h.ensures c.get-next.ensures c.kid_count.ensures c.if-next-kid_count.false))

pub enter-requires : goal.enter-requires
enter-requires c =
    let child = child_is c.args.work.now (c.args.at.depth - 1) c.get-h.ensures c.get-next.ensures c.kid_count.ensures c.args.nodes.now c.args.pool.now c.kid-child.ensures in
    let now = child_now c.requires.walk c.requires.depth_nonzero refl (more c.args.work.now (c.args.at.depth - 1) c.get-h.ensures c.get-next.ensures c.kid_count.ensures c.if-next-kid_count.false)
    (ap (cell c.args.work.now number_column) (sym child) ∙ sym c.get.ensures ∙ c.if-get-eq0.true) in
    let visit = subst (Visit c.args.nodes.now c.args.pool.now c.args.work.now c.args.at.depth c.args.at.count) (sym child) now in
    record {
      readable = visit_reads visit;
      work_per_node_in_bounds = visit_entry visit;
      work_per_node_in_bounds_2 = visit_depth visit;
      work_per_node_in_bounds_3 = visit_row visit;
    }

pub returns-then-get-eq0 : goal.returns-then-get-eq0
returns-then-get-eq0 c =
    let child = child_is c.args.work.now (c.args.at.depth - 1) c.get-h.ensures c.get-next.ensures c.kid_count.ensures c.args.nodes.now c.args.pool.now c.kid-child.ensures in
    let now = child_now c.requires.walk c.requires.depth_nonzero refl (more c.args.work.now (c.args.at.depth - 1) c.get-h.ensures c.get-next.ensures c.kid_count.ensures c.if-next-kid_count.false)
    (ap (cell c.args.work.now number_column) (sym child) ∙ sym c.get.ensures ∙ c.if-get-eq0.true) in
    let visit = subst (Visit c.args.nodes.now c.args.pool.now c.args.work.now c.args.at.depth c.args.at.count) (sym child) now in
    let turned = visit_turn visit c.enter.new.work c.enter.result.depth c.enter.result.count c.enter.ensures.work_after c.enter.ensures.depth_value.0 c.enter.ensures.depth_value.1 in
    record { walk_2 = turned.0; depth_bound = turned.1 }

pub overflow_add-next : goal.overflow_add-next
overflow_add-next c =
    let below = next_more c.requires.walk c.requires.depth_nonzero refl (more c.args.work.now (c.args.at.depth - 1) c.get-h.ensures c.get-next.ensures c.kid_count.ensures c.if-next-kid_count.false) in
    let home = at_home c.requires.walk c.requires.depth_nonzero refl in
    let few = ((at_formed c.requires.walk c.requires.depth_nonzero refl).forms _ home.inside home).few in
    record { fits = omega (arith, c.get-next.ensures, below, few) }

pub put-requires : goal.put-requires
put-requires c = omega (arith, last_row c.requires.walk c.requires.depth_nonzero refl)

pub returns : goal.returns
returns c =
    let w : List ℕ = c.args.work.now in
    let at = c.get-h.ensures in
    let next = c.get-next.ensures in
    let child = child_is c.args.work.now (c.args.at.depth - 1) at next c.kid_count.ensures c.args.nodes.now c.args.pool.now c.kid-child.ensures in
    let turned = next_turn c.requires.walk c.requires.depth_nonzero refl (more c.args.work.now (c.args.at.depth - 1) at next c.kid_count.ensures c.if-next-kid_count.false)
    (λ e. c.if-get-eq0.false (c.get.ensures ∙ ap (cell w number_column) child ∙ e)) c.put.new.work
    (c.put.ensures ∙ ap (λ (x : ℕ). set w (place next_column (c.args.at.depth - 1)) (x + 1)) next) in
    record { walk_2 = turned.0; depth_bound = turned.1 }
