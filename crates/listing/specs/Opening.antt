-- A node more on the path, its Lut's Program listed before.
use Rattle.std.specs.Prelude.{ℕ, suc, ◌+◌, ◌*◌, ◌/◌, ◌%◌, ◌≤◌, ◌<◌, ◌≡◌, ◌≢◌, List, length, set}
use Rattle.std.proofs.Common.{sym, subst, ◌∙◌, inl, inr, ⊎_elim, length-set}
use native.Mathlib.Omega.{arith}
use Rattle.std.proofs.Math.Decide.{ℕ_discrete}
use Rattle.meaning.specs.Rules.Limits.{work_per_node}
use Rattle.meaning.specs.Rules.Kinds.{lut_word}
use Rattle.meaning.specs.Rules.Trees.{Tree, node_count}
use Rattle.meaning.specs.Rules.Listing.{keep, number_in}
use Rattle.meaning.proofs.Laws.ListingLaws.{keep_ordered}
use Rattle.columns.specs.Columns.{place, cell, kind_column, datum_column, number_column, program_column, stack_column, next_column}
use Rattle.form_rows.specs.Forms.{program_of, Home}
use Rattle.listed.specs.Keeping.{grows_own, keep_grows, keep_number}
use Rattle.listed.specs.Entries.{listed_at, entry_tree, KidsNumbered, Entries}
use Rattle.listed.specs.Cells.{same_cell, other_column, other_row, entry_beside}
use Rattle.listed.specs.Listing.{ProgramAt}
use Rattle.listing.specs.Table.{unlike, NumberAt, Frame, Table, program_stays, number_stays_at, frame_stays}
use Rattle.listing.specs.More.{kept_work, kept_count, kept_cell, entries_keep, kept_entry, entries_put}

-- ---- the Program of the Lut in row h, which is not met yet
module _ {ns ps forms work : List ℕ} {seen : List Tree} {depth count : ℕ} (t : Table ns ps forms work seen depth count)
    (h : ℕ) (home : Home ns ps forms h) (unmet : cell work number_column h ≡ 0) (room : count < 2 * node_count ns)
    (number : ℕ) (is : number ≡ number_in seen (program_of (cell forms datum_column h))) where
  abbrev program : Tree
  program = program_of (cell forms datum_column h)

  abbrev kept : List ℕ
  kept = kept_work work number count (2 * h + 1)

  abbrev pub program_work : List ℕ
  program_work = set kept (place program_column h) number

  half : (2 * h + 1) / 2 ≡ h
  half = omega arith

  entry_is : entry_tree ns ps forms (2 * h + 1) ≡ program
  unfolding entry_tree
  entry_is = let odd : (2 * h + 1) % 2 ≡ 1 = omega arith in rw (odd, half)

  below : (2 * h + 1) % 2 ≡ 0 → KidsNumbered ns ps forms work seen ((2 * h + 1) / 2)
  below e = absurd (omega arith)

  there : Home ns ps forms ((2 * h + 1) / 2)
  there = rw half home

  -- the other columns, and the other rows of this one
  pub program_beside : (q i : ℕ) → q < program_column → cell program_work q i ≡ cell work q i
  program_beside q i l = other_column kept number program_column h q i (omega arith) (omega arith) (λ e. absurd (omega arith)) ∙ kept_cell work number count (2 * h + 1) q i (omega arith)

  numbers_same : (c : ℕ) → 2 ≤ cell work number_column c → cell program_work number_column c ≡ cell work number_column c
  numbers_same c l = program_beside number_column c (omega arith)

  others : (c : ℕ) → c ≢ h → cell program_work program_column c ≡ cell work program_column c
  others c ne = other_row kept number program_column h c ne ∙ kept_cell work number count (2 * h + 1) program_column c (omega arith)

  apart : (c : ℕ) → 1 ≤ cell work number_column c → c ≢ h
  apart c l = unlike work c h (omega (arith, unmet, l))

  kept_entries : Entries ns ps forms kept (keep program seen) (kept_count number count)
  kept_entries = entries_keep t.entries program number is (2 * h + 1) there entry_is below room

  pub program_listed : ProgramAt forms program_work (keep program seen) h
  program_listed = record {
    number =
        same_cell kept number program_column h (omega (arith, home.inside, kept_entries.size, t.entries.formed.room))
        ∙ is ∙ sym (keep_number program seen).0;
    there = (keep_number program seen).1;
  }

  pub table_program : Table ns ps forms program_work (keep program seen) depth (kept_count number count)
  table_program = record {
    entries = entries_put kept_entries program_column h number (inr (omega arith)) (omega arith) (λ e. absurd (omega arith));
    ordered = keep_ordered program seen t.ordered tt;
    finished = λ k l even.
        ⊎_elim
        (λ old. rw (entry k ∙ old.1, program_beside number_column (listed_at work k / 2) (omega arith)) (t.finished k old.0 (rw (entry k ∙ old.1) at even)))
        (λ new. absurd (odd (rw (entry k ∙ new.1) at even)))
        (kept_entry t.entries program number is (2 * h + 1) there entry_is below room k l);
    numbers = λ c g n.
        let old : 2 ≤ cell work number_column c = rw (program_beside number_column c (omega arith)) at n in
        number_stays_at ns ps forms work program_work (keep_grows program seen) numbers_same c (others c (apart c (omega (arith, old)))) (t.numbers c g old);
    frames = λ d l.
        let f = t.frames d l in
        frame_stays ns ps forms work program_work (keep_grows program seen) numbers_same d (program_beside stack_column d (omega arith)) (program_beside next_column d (omega arith))
        (program_beside number_column (cell work stack_column d) (omega arith)) (others (cell work stack_column d) (apart (cell work stack_column d) (omega (arith, f.met)))) f;
    falls = λ a b l k. rw (program_beside stack_column a (omega arith), program_beside stack_column b (omega arith)) (t.falls a b l k);
    deep = λ a l. rw (program_beside stack_column a (omega arith)) (t.deep a l);
    opened = λ c g n.
        let on = t.opened c g (sym (program_beside number_column c (omega arith)) ∙ n) in
        (on.0, on.1, program_beside stack_column on.0 (omega arith) ∙ on.2);
  }
    where
      entry : (k : ℕ) → listed_at program_work k ≡ listed_at kept k
      entry k = entry_beside kept number program_column h k (omega arith)

      odd : (2 * h + 1) % 2 ≡ 0 → ⊥
      odd e = omega arith

-- ---- node h comes onto the path
module _ {ns ps forms work : List ℕ} {seen : List Tree} {depth count : ℕ} (t : Table ns ps forms work seen depth count)
    (h : ℕ) (home : Home ns ps forms h) (unmet : cell work number_column h ≡ 0)
    (lower : (d : ℕ) → d < depth → h < cell work stack_column d) (fits : h + depth < node_count ns)
    (program : cell forms kind_column h ≡ lut_word → ProgramAt forms work seen h) where
  abbrev stacked : List ℕ
  stacked = set work (place stack_column depth) h

  abbrev begun : List ℕ
  begun = set stacked (place next_column depth) 0

  abbrev pub pushed : List ℕ
  pushed = set begun (place number_column h) 1

  room : work_per_node * node_count ns ≤ length work
  room = omega (arith, t.entries.formed.room, t.entries.size)

  begun_length : length begun ≡ length work
  begun_length = length-set stacked (place next_column depth) 0 ∙ length-set work (place stack_column depth) h

  -- ---- cell by cell
  pub number_here : cell pushed number_column h ≡ 1
  number_here = same_cell begun 1 number_column h (omega (arith, begun_length, room, home.inside))

  unnumbered : (q i : ℕ) → q < work_per_node → q ≢ number_column → cell pushed q i ≡ cell begun q i
  unnumbered q i l ne = other_column begun 1 number_column h q i (omega arith) l ne

  beside : (q i : ℕ) → q < work_per_node → q ≢ next_column → q ≢ stack_column → cell begun q i ≡ cell work q i
  beside q i l n s =
      other_column stacked 0 next_column depth q i (omega arith) l n ∙ other_column work h stack_column depth q i (omega arith) l s

  pub number_other : (c : ℕ) → c ≢ h → cell pushed number_column c ≡ cell work number_column c
  number_other c ne = other_row begun 1 number_column h c ne ∙ beside number_column c (omega arith) (λ e. absurd (omega arith)) (λ e. absurd (omega arith))

  program_same : (c : ℕ) → cell pushed program_column c ≡ cell work program_column c
  program_same c =
      unnumbered program_column c (omega arith) (λ e. absurd (omega arith))
      ∙ beside program_column c (omega arith) (λ e. absurd (omega arith)) (λ e. absurd (omega arith))

  pub stack_here : cell pushed stack_column depth ≡ h
  stack_here =
      unnumbered stack_column depth (omega arith) (λ e. absurd (omega arith))
      ∙ other_column stacked 0 next_column depth stack_column depth (omega arith) (omega arith) (λ e. absurd (omega arith))
      ∙ same_cell work h stack_column depth (omega (arith, room, fits))

  pub stack_other : (d : ℕ) → d ≢ depth → cell pushed stack_column d ≡ cell work stack_column d
  stack_other d ne =
      unnumbered stack_column d (omega arith) (λ e. absurd (omega arith))
      ∙ other_column stacked 0 next_column depth stack_column d (omega arith) (omega arith) (λ e. absurd (omega arith))
      ∙ other_row work h stack_column depth d ne

  pub next_here : cell pushed next_column depth ≡ 0
  next_here =
      unnumbered next_column depth (omega arith) (λ e. absurd (omega arith))
      ∙ same_cell stacked 0 next_column depth (omega (arith, room, fits, length-set work (place stack_column depth) h))

  pub next_other : (d : ℕ) → d ≢ depth → cell pushed next_column d ≡ cell work next_column d
  next_other d ne =
      unnumbered next_column d (omega arith) (λ e. absurd (omega arith))
      ∙ other_row stacked 0 next_column depth d ne
      ∙ other_column work h stack_column depth next_column d (omega arith) (omega arith) (λ e. absurd (omega arith))

  entry : (k : ℕ) → listed_at pushed k ≡ listed_at work k
  entry k =
      entry_beside begun 1 number_column h k (omega arith) ∙ entry_beside stacked 0 next_column depth k (omega arith)
      ∙ entry_beside work h stack_column depth k (omega arith)

  met_apart : (c : ℕ) → 1 ≤ cell work number_column c → c ≢ h
  met_apart c l = unlike work c h (omega (arith, unmet, l))

  number_stays : (c : ℕ) → 2 ≤ cell work number_column c → cell pushed number_column c ≡ cell work number_column c
  number_stays c l = number_other c (met_apart c (omega (arith, l)))

  pushed_entries : Entries ns ps forms pushed seen count
  pushed_entries =
      let one = entries_put t.entries stack_column depth h (inl (omega arith)) (omega arith) (λ e. absurd (omega arith)) in
      let two = entries_put one next_column depth 0 (inl (omega arith)) (omega arith) (λ e. absurd (omega arith)) in
      entries_put two number_column h 1 (inr (omega arith)) (omega arith)
      (λ e. omega (arith, unmet, beside number_column h (omega arith) (λ r. absurd (omega arith)) (λ r. absurd (omega arith))))

  -- ---- the path
  last : Frame ns ps forms pushed seen depth
  last = record {
    home = rw stack_here home;
    met = rw stack_here number_here;
    next = rw next_here (omega arith);
    done = λ j l. absurd (none_yet (rw next_here at l));
    program = λ q. rw stack_here (program_stays ns ps forms work pushed (grows_own seen) number_stays h (program_same h) (program (rw stack_here at q)));
  }
    where
      none_yet : {j : ℕ} → j < 0 → ⊥
      none_yet l = omega arith

  frame : (d : ℕ) → d < suc depth → Frame ns ps forms pushed seen d
  frame d l = elim (ℕ_discrete d depth) [
    | yes q ↦ subst (Frame ns ps forms pushed seen) (sym q) last
    | no q ↦
        let f = t.frames d (omega arith) in
        frame_stays ns ps forms work pushed (grows_own seen) number_stays d (stack_other d q) (next_other d q)
        (number_other (cell work stack_column d) (met_apart (cell work stack_column d) (omega (arith, f.met)))) (program_same (cell work stack_column d)) f
  ]

  falling : (d e : ℕ) → d < e → e < suc depth → cell pushed stack_column e < cell pushed stack_column d
  falling d e l k = elim (ℕ_discrete e depth) [
    | yes q ↦ subst (λ (x : ℕ). cell pushed stack_column x < cell pushed stack_column d) (sym q) (rw (stack_here, stack_other d (λ r. absurd (omega arith))) (lower d (omega arith)))
    | no q ↦ rw (stack_other e q, stack_other d (λ r. absurd (omega arith))) (t.falls d e l (omega arith))
  ]

  deeper : (d : ℕ) → d < suc depth → cell pushed stack_column d + d < node_count ns
  deeper d l = elim (ℕ_discrete d depth) [
    | yes q ↦ subst (λ (x : ℕ). cell pushed stack_column x + x < node_count ns) (sym q) (rw stack_here fits)
    | no q ↦ rw (stack_other d q) (t.deep d (omega arith))
  ]

  on_path : (c : ℕ) → Home ns ps forms c → cell pushed number_column c ≡ 1 → (d : ℕ) × (d < suc depth) × (cell pushed stack_column d ≡ c)
  on_path c g n = elim (ℕ_discrete c h) [
    | yes q ↦ (depth, omega arith, stack_here ∙ sym q)
    | no q ↦
        let on = t.opened c g (sym (number_other c q) ∙ n) in
        (on.0, omega (arith, on.1), stack_other on.0 (λ r. absurd (omega (arith, on.1))) ∙ on.2)
  ]

  pub table_pushed : Table ns ps forms pushed seen (suc depth) count
  table_pushed = record {
    entries = pushed_entries;
    ordered = t.ordered;
    finished = λ k l even.
        let old = t.finished k l (rw (entry k) at even) in
        rw (entry k, number_stays (listed_at work k / 2) old) old;
    numbers = number_at;
    frames = frame;
    falls = falling;
    deep = deeper;
    opened = on_path;
  }
    where
      number_at : (c : ℕ) → Home ns ps forms c → 2 ≤ cell pushed number_column c → NumberAt ns ps forms pushed seen c
      number_at c g n = elim (ℕ_discrete c h) [
        | yes q ↦ absurd (unlike pushed c h (omega (arith, number_here, n)) q)
        | no q ↦
            number_stays_at ns ps forms work pushed (grows_own seen) number_stays c (program_same c) (t.numbers c g (rw (number_other c q) at n))
      ]
