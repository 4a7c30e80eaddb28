-- One turn of the walk, in the words of the function that makes it: at the last node of the path, `last` its place.
use Rattle.std.specs.Prelude.{ℕ, suc, ◌+◌, ◌-◌, ◌*◌, ◌/◌, ◌≤◌, ◌<◌, ◌≡◌, ◌≢◌, List, length, set}
use Rattle.std.proofs.Common.{sym, subst, ◌∙◌, arith, add-one}
use Rattle.meaning.specs.Rules.Limits.{work_per_node}
use Rattle.meaning.specs.Rules.Trees.{node_count}
use Rattle.columns.specs.Columns.{place, cell, count_column, number_column, stack_column, next_column}
use Rattle.form_rows.specs.Forms.{kid_at, Home, Formed}
use Rattle.listed.specs.Entries.{Readable, Listable, listable_reads}
use Rattle.listed.specs.Likeness.{kid_read}
use Rattle.listed.specs.Cells.{other_column, same_cell}
use Rattle.listing.specs.More.{kept_count}
use Rattle.listing.specs.Steps.{opened_work, lut_count, own_number, closed_work, turns}
use Rattle.listing.specs.Walk.{Walk, Visit, visited, visit_room, form_cell, formed_here, home_here, listable_here, last_home, last_inside, last_next, close_room, closed_walk, child_inside, child_visit, next_walk}
use Rattle.listing.specs.Ends.{turns_less, turns_next}

-- where the walk is after a turn
abbrev pub Turned : List ℕ → List ℕ → List ℕ → ℕ → List ℕ → ℕ → ℕ → Type 0
Turned ns ps work depth after left count = Walk ns ps after left count × (turns (node_count ns) after left < turns (node_count ns) work depth)

-- ---- what is read and written is there
module _ {ns ps work : List ℕ} {depth count h : ℕ} (v : Visit ns ps work depth count h) where
  row : (i : ℕ) → i < node_count ns → work_per_node * i + work_per_node ≤ length work
  row i l = omega (arith, (formed_here v.table).room)

  pub visit_reads : Readable work count
  visit_reads = listable_reads (listable_here v.table)

  pub visit_entry : work_per_node * (count / 2) + work_per_node ≤ length work
  visit_entry = row (count / 2) (omega (arith, visit_room v))

  pub visit_depth : work_per_node * depth + work_per_node ≤ length work
  visit_depth = row depth (omega (arith, v.fits))

  pub visit_row : work_per_node * h + work_per_node ≤ length work
  visit_row = row h v.home.inside

  -- the node comes onto the path
  pub visit_turn : (after : List ℕ) (left kept : ℕ) → after ≡ opened_work work depth count h → left ≡ depth + 1 → kept ≡ lut_count work count h
      → Turned ns ps work depth after left kept
  visit_turn after left kept is d c =
      let w = visited v in
      let walk : Walk ns ps (opened_work work depth count h) (suc depth) (lut_count work count h) = w.0 in
      rw (is, d, c, add-one depth) (walk, turns_less work depth walk w.1)

module _ {ns ps work : List ℕ} {depth count last : ℕ} (w : Walk ns ps work depth count) (some : 0 < depth) (is : last ≡ depth - 1) where
  here : Walk ns ps work (suc last) count
  here = let e : depth ≡ suc last = omega (arith, some, is) in subst (λ (d : ℕ). Walk ns ps work d count) e w

  abbrev at : ℕ
  at = cell work stack_column last

  abbrev next : ℕ
  next = cell work next_column last

  pub last_row : work_per_node * last + work_per_node ≤ length work
  last_row = omega (arith, last_inside here, (formed_here w.table).room)

  pub at_row : work_per_node * at + work_per_node ≤ length work
  at_row = omega (arith, (last_home here).inside, (formed_here w.table).room)

  pub at_home : Home ns ps work at
  at_home = home_here here.table at (last_home here)

  pub at_listable : Listable ns ps work count
  at_listable = listable_here w.table

  pub at_formed : Formed ns ps work (node_count ns)
  at_formed = formed_here w.table

  pub at_room : count < 2 * node_count ns
  at_room = close_room here

  counted : cell work count_column at ≡ cell here.forms count_column at
  counted = form_cell here.table count_column at (omega arith) (omega arith)

  deep : depth ≡ suc last
  deep = omega (arith, some, is)

  -- no child is left
  pub leave_turn : next ≡ cell work count_column at → (after : List ℕ) (left kept : ℕ) → after ≡ closed_work ns ps work count at → left ≡ depth - 1
      → kept ≡ kept_count (own_number ns ps work count at) count → Turned ns ps work depth after left kept
  leave_turn over after left kept e d c =
      let closed = closed_walk here (over ∙ counted) in
      let shorter : left ≡ last = d ∙ sym is in
      let walk : Walk ns ps (closed_work ns ps work count at) last (kept_count (own_number ns ps work count at) count) = closed.0 in
      rw (e, shorter, c) (walk, turns_less work depth walk closed.1)

  -- there is a child
  module _ (more : next ≢ cell work count_column at) where
    pub next_more : next < cell work count_column at
    next_more = omega (arith, last_next here, counted, more)

    there : next < cell here.forms count_column at
    there = omega (arith, next_more, counted)

    child_read : kid_at ns ps work at next ≡ kid_at ns ps here.forms at next
    child_read = kid_read here.table.entries at (last_home here) next there

    pub child_row : work_per_node * kid_at ns ps work at next + work_per_node ≤ length work
    child_row = rw child_read (omega (arith, child_inside here there, (formed_here w.table).room))

    pub child_now : cell work number_column (kid_at ns ps work at next) ≡ 0 → Visit ns ps work depth count (kid_at ns ps work at next)
    child_now unmet =
        let visit = child_visit here there (rw child_read at unmet) in
        subst (Visit ns ps work depth count) (sym child_read)
        (subst (λ (d : ℕ). Visit ns ps work d count (kid_at ns ps here.forms at next)) (sym deep) visit)

    pub next_turn : cell work number_column (kid_at ns ps work at next) ≢ 0 → (after : List ℕ) → after ≡ set work (place next_column last) (next + 1)
        → Turned ns ps work depth after depth count
    next_turn met after e =
        let moved = next_walk here there (rw child_read at met) in
        let new : List ℕ = set work (place next_column last) (next + 1) in
        subst (λ (l : List ℕ). Turned ns ps work depth l depth count) (sym e)
        (subst (λ (d : ℕ). Turned ns ps work d new d count) (sym deep) (
          moved.0,
          turns_next here there new moved.1
              (other_column work (next + 1) next_column last stack_column last (omega arith) (omega arith) (λ q. absurd (omega arith)))
              (same_cell work (next + 1) next_column last (omega (arith, last_row)))
              (other_column work (next + 1) next_column last count_column at (omega arith) (omega arith) (λ q. absurd (omega arith))),
        ))
