-- The last node of the path gets its number: all its children have theirs.
use Rattle.std.specs.Prelude.{ℕ, zero, suc, ◌+◌, ◌*◌, ◌/◌, ◌%◌, ◌≤◌, ◌<◌, ◌≡◌, refl, ◌≢◌, List, Bool, true, false, cond, set, eqb}
use Rattle.std.proofs.Common.{sym, ap, subst, ◌∙◌, inr, ⊎_elim, add-zero, zero-add, eqb-true}
use native.Mathlib.Omega.{arith}
use Rattle.std.proofs.Math.Decide.{ℕ_discrete}
use Rattle.meaning.specs.Rules.Kinds.{lut_word}
use Rattle.meaning.specs.Rules.Trees.{Tree, Forest, node, ◌◂◌, forest, node_count, children}
use Rattle.meaning.specs.Rules.Listing.{keep, number_in}
use Rattle.meaning.proofs.Laws.ListingLaws.{Has, AllHas, keep_ordered}
use Rattle.columns.specs.Columns.{place, cell, kind_column, datum_column, count_column, number_column, program_column, listed_column, stack_column, next_column}
use Rattle.form_rows.specs.Forms.{nf_at, made, program_of, kid_at, kids_in, Home}
use Rattle.form_rows.specs.From.{from}
use Rattle.listed.specs.Keeping.{keep_grows, keep_number, number_has}
use Rattle.listed.specs.Entries.{listed_at, entry_tree, Numbered, KidsNumbered, Entries}
use Rattle.listed.specs.Cells.{same_cell, other_column, other_row, entry_beside}
use Rattle.listed.specs.Listing.{ProgramAt}
use Rattle.listing.specs.Table.{unlike, NumberAt, Frame, Table, numbered_stays, program_stays, number_stays_at, frame_stays}
use Rattle.listing.specs.More.{kept_work, kept_count, kept_cell, entries_keep, kept_entry, entries_put}

-- ---- a node's children are seen, its Lut's Program among them
kids_seen : (ns ps forms work : List ℕ) (seen : List Tree) (h j n : ℕ)
    → ((i : ℕ) → i < n → Numbered ns ps work seen (kid_at ns ps forms h (j + i))) → AllHas seen (forest (nf_at ns ps) (from (kid_at ns ps forms h) j n))
unfolding from
kids_seen ns ps forms work seen h j zero f = tt
kids_seen ns ps forms work seen h j (suc n) f =
    (number_has seen (nf_at ns ps (kid_at ns ps forms h j)) (rw (add-zero j) at (f 0 (omega arith))).there, kids_seen ns ps forms work seen h (suc j) n (λ i l. later i l))
  where
    later : (i : ℕ) → i < n → Numbered ns ps work seen (kid_at ns ps forms h (suc j + i))
    later i l = let q : suc j + i ≡ j + suc i = omega arith in rw q (f (suc i) (omega arith))

children_seen : (seen : List Tree) (k d : ℕ) (cs : Forest) → AllHas seen cs → (k ≡ lut_word → Has seen (program_of d)) → AllHas seen (children (made k d cs))
unfolding made
children_seen seen k d cs a p = go (eqb k lut_word) refl
  where
    go : (b : Bool) → eqb k lut_word ≡ b → AllHas seen (children (cond b (node lut_word 0 (program_of d ◂ cs)) (node k d cs)))
    go true e = (p (eqb-true k lut_word e), a)
    go false e = a

-- ---- node h, the last of the path, with no child left
module _ {ns ps forms work : List ℕ} {seen : List Tree} {d count : ℕ} (t : Table ns ps forms work seen (suc d) count)
    (h : ℕ) (here : cell work stack_column d ≡ h) (over : cell work next_column d ≡ cell forms count_column h) where
  f : Frame ns ps forms work seen d
  f = t.frames d (omega arith)

  pub closing_home : Home ns ps forms h
  closing_home = rw here at f.home

  pub closing_met : cell work number_column h ≡ 1
  closing_met = rw here at f.met

  pub closing_kids : KidsNumbered ns ps forms work seen h
  closing_kids j l =
      let g = (t.entries.formed.forms h closing_home.inside closing_home).kids j l in
      (t.numbers (kid_at ns ps forms h j) g.1 (rw here at (f.done j (omega (arith, over))))).own

  closing_program : cell forms kind_column h ≡ lut_word → ProgramAt forms work seen h
  closing_program e = rw here at (f.program (rw here e))

  closing_children : AllHas seen (children (nf_at ns ps h))
  closing_children =
      let form = t.entries.formed.forms h closing_home.inside closing_home in
      rw form.tree
      (children_seen seen (cell forms kind_column h) (cell forms datum_column h) (forest (nf_at ns ps) (kids_in ns ps forms h))
      (kids_seen ns ps forms work seen h 0 (cell forms count_column h) (λ i l. rw (zero-add i) (closing_kids i l)))
      (λ e. number_has seen (program_of (cell forms datum_column h)) (closing_program e).there))

  module _ (room : count < 2 * node_count ns) (number : ℕ) (is : number ≡ number_in seen (nf_at ns ps h)) where
    abbrev own : Tree
    own = nf_at ns ps h

    abbrev kept : List ℕ
    kept = kept_work work number count (2 * h)

    abbrev pub closed : List ℕ
    closed = set kept (place number_column h) (number + 2)

    half : (2 * h) / 2 ≡ h
    half = omega arith

    entry_is : entry_tree ns ps forms (2 * h) ≡ own
    unfolding entry_tree
    entry_is = let even : (2 * h) % 2 ≡ 0 = omega arith in rw (even, half)

    below : (2 * h) % 2 ≡ 0 → KidsNumbered ns ps forms work seen ((2 * h) / 2)
    below e = rw half closing_kids

    there : Home ns ps forms ((2 * h) / 2)
    there = rw half closing_home

    kept_entries : Entries ns ps forms kept (keep own seen) (kept_count number count)
    kept_entries = entries_keep t.entries own number is (2 * h) there entry_is below room

    -- ---- cell by cell
    pub number_here : cell closed number_column h ≡ number + 2
    number_here = same_cell kept (number + 2) number_column h (omega (arith, closing_home.inside, kept_entries.size, t.entries.formed.room))

    pub number_other : (c : ℕ) → c ≢ h → cell closed number_column c ≡ cell work number_column c
    number_other c ne = other_row kept (number + 2) number_column h c ne ∙ kept_cell work number count (2 * h) number_column c (omega arith)

    pub same : (q i : ℕ) → q < listed_column → q ≢ number_column → cell closed q i ≡ cell work q i
    same q i l ne = other_column kept (number + 2) number_column h q i (omega arith) (omega arith) ne ∙ kept_cell work number count (2 * h) q i l

    entry : (k : ℕ) → listed_at closed k ≡ listed_at kept k
    entry k = entry_beside kept (number + 2) number_column h k (omega arith)

    numbered_apart : (c : ℕ) → 2 ≤ cell work number_column c → c ≢ h
    numbered_apart c l = unlike work c h (omega (arith, closing_met, l))

    number_stays : (c : ℕ) → 2 ≤ cell work number_column c → cell closed number_column c ≡ cell work number_column c
    number_stays c l = number_other c (numbered_apart c l)

    program_same : (c : ℕ) → cell closed program_column c ≡ cell work program_column c
    program_same c = same program_column c (omega arith) (λ e. absurd (omega arith))

    pub stack_same : (e : ℕ) → cell closed stack_column e ≡ cell work stack_column e
    stack_same e = same stack_column e (omega arith) (λ r. absurd (omega arith))

    -- ---- its number
    number_own : NumberAt ns ps forms closed (keep own seen) h
    number_own = record {
      own = record { number = number_here ∙ ap (λ (x : ℕ). x + 2) (is ∙ sym (keep_number own seen).0); there = (keep_number own seen).1 };
      kids = λ j l. numbered_stays ns ps forms work closed (keep_grows own seen) number_stays (kid_at ns ps forms h j) (closing_kids j l);
      program = λ e. program_stays ns ps forms work closed (keep_grows own seen) number_stays h (program_same h) (closing_program e);
    }

    number_at : (c : ℕ) → Home ns ps forms c → 2 ≤ cell closed number_column c → NumberAt ns ps forms closed (keep own seen) c
    number_at c g n = elim (ℕ_discrete c h) [
      | yes q ↦ subst (NumberAt ns ps forms closed (keep own seen)) (sym q) number_own
      | no q ↦
          number_stays_at ns ps forms work closed (keep_grows own seen) number_stays c (program_same c) (t.numbers c g (rw (number_other c q) at n))
    ]

    frame : (e : ℕ) → e < d → Frame ns ps forms closed (keep own seen) e
    frame e l =
        let above : h < cell work stack_column e = rw here at (t.falls e d l (omega arith)) in
        frame_stays ns ps forms work closed (keep_grows own seen) number_stays e (stack_same e) (same next_column e (omega arith) (λ r. absurd (omega arith)))
        (number_other (cell work stack_column e) (λ r. absurd (omega arith))) (program_same (cell work stack_column e)) (t.frames e (omega arith))

    on_path : (c : ℕ) → Home ns ps forms c → cell closed number_column c ≡ 1 → (e : ℕ) × (e < d) × (cell closed stack_column e ≡ c)
    on_path c g n = elim (ℕ_discrete c h) [
      | yes q ↦ absurd (high (sym number_here ∙ subst (λ (x : ℕ). cell closed number_column x ≡ 1) q n))
      | no q ↦
          let on = t.opened c g (sym (number_other c q) ∙ n) in
          (on.0, shorter on.0 on.1 (λ r. q (sym on.2 ∙ ap (cell work stack_column) r ∙ here)), stack_same on.0 ∙ on.2)
    ]
      where
        high : number + 2 ≡ 1 → ⊥
        high e = omega arith

        shorter : (e : ℕ) → e < suc d → e ≢ d → e < d
        shorter e l ne = omega arith

    pub table_closed : Table ns ps forms closed (keep own seen) d (kept_count number count)
    table_closed = record {
      entries =
          entries_put kept_entries number_column h (number + 2) (inr (omega arith)) (omega arith)
          (λ e. omega (arith, closing_met, kept_cell work number count (2 * h) number_column h (omega arith)));
      ordered = keep_ordered own seen t.ordered closing_children;
      finished = λ k l even.
          ⊎_elim
          (λ old.
          let was = t.finished k old.0 (rw (entry k ∙ old.1) at even) in
          rw (entry k ∙ old.1, number_stays (listed_at work k / 2) was) was)
          (λ new. rw (entry k ∙ new.1, half, number_here) (omega arith))
          (kept_entry t.entries own number is (2 * h) there entry_is below room k l);
      numbers = number_at;
      frames = frame;
      falls = λ a b l k. rw (stack_same a, stack_same b) (t.falls a b l (omega arith));
      deep = λ a l. rw (stack_same a) (t.deep a (omega arith));
      opened = on_path;
    }
