-- To the next child: the one before it has its number.
use Rattle.std.specs.Prelude.{ℕ, suc, ◌+◌, ◌/◌, ◌≤◌, ◌<◌, ◌≡◌, ◌≢◌, List, set}
use Rattle.std.proofs.Common.{sym, subst, ◌∙◌, inl, arith}
use Rattle.std.proofs.Math.Decide.{ℕ_discrete}
use Rattle.meaning.specs.Rules.Limits.{work_per_node}
use Rattle.meaning.specs.Rules.Trees.{Tree}
use Rattle.columns.specs.Columns.{place, cell, count_column, number_column, program_column, stack_column, next_column}
use Rattle.form_rows.specs.Forms.{kid_at}
use Rattle.listed.specs.Keeping.{grows_own}
use Rattle.listed.specs.Entries.{listed_at}
use Rattle.listed.specs.Cells.{same_cell, other_column, other_row, entry_beside}
use Rattle.listing.specs.Table.{Frame, Table, program_stays, number_stays_at, frame_stays}
use Rattle.listing.specs.More.{entries_put}

-- ---- to the next child
module _ {ns ps forms work : List ℕ} {seen : List Tree} {d count : ℕ} (t : Table ns ps forms work seen (suc d) count)
    (more : cell work next_column d < cell forms count_column (cell work stack_column d))
    (done : 2 ≤ cell work number_column (kid_at ns ps forms (cell work stack_column d) (cell work next_column d))) where
  abbrev next_work : List ℕ
  next_work = set work (place next_column d) (cell work next_column d + 1)

  pub next_other : (q i : ℕ) → q < work_per_node → q ≢ next_column → cell next_work q i ≡ cell work q i
  next_other q i h ne = other_column work (cell work next_column d + 1) next_column d q i (omega arith) h ne

  next_number : (c : ℕ) → 2 ≤ cell work number_column c → cell next_work number_column c ≡ cell work number_column c
  next_number c h = next_other number_column c (omega arith) (λ e. absurd (omega arith))

  pub next_here : cell next_work next_column d ≡ cell work next_column d + 1
  next_here =
      same_cell work (cell work next_column d + 1) next_column d
      (omega (arith, t.deep d (omega arith), t.entries.formed.room, t.entries.size))

  pub table_next : Table ns ps forms next_work seen (suc d) count
  table_next = record {
    entries = entries_put t.entries next_column d (cell work next_column d + 1) (inl (omega arith)) (omega arith) (λ e. absurd (omega arith));
    ordered = t.ordered;
    finished = λ k h even.
        let entry : listed_at next_work k ≡ listed_at work k = entry_beside work (cell work next_column d + 1) next_column d k (omega arith) in
        rw (entry, next_other number_column (listed_at work k / 2) (omega arith) (λ e. absurd (omega arith))) (t.finished k h (rw entry at even));
    numbers = λ h home n.
        number_stays_at ns ps forms work next_work (grows_own seen) next_number h (next_other program_column h (omega arith) (λ e. absurd (omega arith)))
        (t.numbers h home (rw (next_other number_column h (omega arith) (λ e. absurd (omega arith))) at n));
    frames = frame;
    falls = λ a b l h. rw (stack a, stack b) (t.falls a b l h);
    deep = λ a h. rw (stack a) (t.deep a h);
    opened = λ h home n.
        let on = t.opened h home (sym (next_other number_column h (omega arith) (λ e. absurd (omega arith))) ∙ n) in
        (on.0, on.1, stack on.0 ∙ on.2);
  }
    where
      stack : (e : ℕ) → cell next_work stack_column e ≡ cell work stack_column e
      stack e = next_other stack_column e (omega arith) (λ r. absurd (omega arith))

      last : Frame ns ps forms next_work seen d
      last =
          let f = t.frames d (omega arith) in
          let s = stack d in
          record {
            home = rw s f.home;
            met = rw s (next_other number_column (cell work stack_column d) (omega arith) (λ r. absurd (omega arith)) ∙ f.met);
            next = rw (s, next_here) (omega (arith, more));
            done = λ j l. rw (s, next_other number_column (kid_at ns ps forms (cell work stack_column d) j) (omega arith) (λ r. absurd (omega arith))) (each j (rw next_here at l));
            program = λ q.
                rw s
                (program_stays ns ps forms work next_work (grows_own seen) next_number (cell work stack_column d)
                (next_other program_column (cell work stack_column d) (omega arith) (λ r. absurd (omega arith))) (f.program (rw s at q)));
          }
        where
          each : (j : ℕ) → j < cell work next_column d + 1 → 2 ≤ cell work number_column (kid_at ns ps forms (cell work stack_column d) j)
          each j l = elim (ℕ_discrete j (cell work next_column d)) [
            | yes e ↦ subst (λ (x : ℕ). 2 ≤ cell work number_column (kid_at ns ps forms (cell work stack_column d) x)) (sym e) done
            | no e ↦ (t.frames d (omega arith)).done j (omega arith)
          ]

      frame : (e : ℕ) → e < suc d → Frame ns ps forms next_work seen e
      frame e l = elim (ℕ_discrete e d) [
        | yes q ↦ subst (Frame ns ps forms next_work seen) (sym q) last
        | no q ↦
            frame_stays ns ps forms work next_work (grows_own seen) next_number e (stack e)
            (other_row work (cell work next_column d + 1) next_column d e q)
            (next_other number_column (cell work stack_column e) (omega arith) (λ r. absurd (omega arith)))
            (next_other program_column (cell work stack_column e) (omega arith) (λ r. absurd (omega arith)))
            (t.frames e l)
      ]
