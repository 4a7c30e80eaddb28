-- The walk, step by step: what is seen in the end stays the same, and every turn brings it nearer.
use Rattle.std.specs.Prelude.{ℕ, suc, ◌+◌, ◌*◌, ◌/◌, ◌≤◌, ◌<◌, ◌≡◌, ◌≢◌, List, Bool, true, false, cond, set, eqb}
use Rattle.std.proofs.Math.Path.{refl}
use Rattle.std.proofs.Common.{sym, ap, subst, ◌∙◌, arith, eq-eqb, ne_eqb, eqb-true}
use Rattle.std.proofs.Math.Decide.{ℕ_discrete}
use Rattle.std.proofs.lemmas.Bool.{eqb-false}
use Rattle.meaning.specs.Rules.Kinds.{program_word, lut_word}
use Rattle.meaning.specs.Rules.Trees.{Tree, node_count}
use Rattle.meaning.specs.Rules.Search.{lowest}
use Rattle.meaning.specs.Rules.Listing.{keep, visit, number_in}
use Rattle.columns.specs.Columns.{place, cell, home_column, kind_column, datum_column, count_column, number_column, program_column, stack_column, next_column}
use Rattle.form_rows.specs.Forms.{nf_at, program_of, kid_at, Home, Formed}
use Rattle.form_rows.specs.Same.{same_home, formed_same}
use Rattle.listed.specs.Entries.{listed_at, Listable}
use Rattle.listed.specs.Likeness.{is_program, is_form, program_form, lowest_program, lowest_form}
use Rattle.listed.specs.Keeping.{number_has}
use Rattle.listed.specs.Cells.{other_row}
use Rattle.listed.specs.Listing.{ProgramAt, listing}
use Rattle.listing.specs.Weights.{weight, weights, weights_same, weights_changed, weights_least}
use Rattle.listing.specs.Path.{rest, rest_same, rest_last, finished, with_program, kid_passed, kid_first, kids_done, visit_form}
use Rattle.listing.specs.Table.{Frame, Table}
use Rattle.listing.specs.More.{kept_work, kept_count, kept_most}
use Rattle.listing.specs.Steps.{program_number, is_lut, lut_work, lut_count, pushed_work, own_number, closed_work}
use Rattle.listing.specs.Opening as opening
use Rattle.listing.specs.Closing as closing
use Rattle.listing.specs.Next as next

pub record Walk (ns ps work : List ℕ) (depth count : ℕ) : Type 0 where
  -- the work space as the forms were written in it
  pub forms : List ℕ
  pub seen : List Tree
  pub table : Table ns ps forms work seen depth count
  pub spare : count + weights work (node_count ns) ≤ 2 * node_count ns
  pub left : rest ns ps forms work depth seen ≡ listing ns ps

-- node h is to be visited now
pub record Visit (ns ps work : List ℕ) (depth count h : ℕ) : Type 0 where
  pub forms : List ℕ
  pub seen : List Tree
  pub table : Table ns ps forms work seen depth count
  pub spare : count + weights work (node_count ns) ≤ 2 * node_count ns
  pub home : Home ns ps forms h
  pub unmet : cell work number_column h ≡ 0
  pub lower : (d : ℕ) → d < depth → h < cell work stack_column d
  pub fits : h + depth < node_count ns
  pub left : rest ns ps forms work depth (visit (nf_at ns ps h) seen) ≡ listing ns ps

-- ---- the forms, read in the work space
module _ {ns ps forms work : List ℕ} {seen : List Tree} {depth count : ℕ} (t : Table ns ps forms work seen depth count) where
  pub form_cell : (q i : ℕ) → home_column ≤ q → q < number_column → cell work q i ≡ cell forms q i
  form_cell = t.entries.same.at

  pub formed_here : Formed ns ps work (node_count ns)
  formed_here = formed_same t.entries.same t.entries.formed t.entries.size

  pub home_here : (h : ℕ) → Home ns ps forms h → Home ns ps work h
  home_here h = same_home t.entries.same t.entries.formed t.entries.size

  pub listable_here : Listable ns ps work count
  listable_here = record {
    formed = formed_here;
    within = t.entries.within;
    homes = λ k h. home_here (listed_at work k / 2) (t.entries.homes k h);
  }

-- ---- a node comes onto the path, once the Program of the Lut that it is is listed
module _ {ns ps forms work : List ℕ} {seen : List Tree} {depth count : ℕ} (t : Table ns ps forms work seen depth count)
    (h : ℕ) (home : Home ns ps forms h) (unmet : cell work number_column h ≡ 0)
    (lower : (d : ℕ) → d < depth → h < cell work stack_column d) (fits : h + depth < node_count ns)
    (program : cell forms kind_column h ≡ lut_word → ProgramAt forms work seen h) where
  abbrev after : List ℕ
  after = pushed_work work depth h

  pushed_weights : weights after (node_count ns) + 1 ≡ weights work (node_count ns)
  pushed_weights =
      let changed : weights after (node_count ns) + weight (cell work number_column h) ≡ weights work (node_count ns) + weight (cell after number_column h) =
      weights_changed work after (node_count ns) h home.inside (λ i l ne. opening.number_other t h home unmet lower fits program i ne) in
      let known : weights after (node_count ns) + 2 ≡ weights work (node_count ns) + 1 = rw (unmet, opening.number_here t h home unmet lower fits program) at changed in
      omega (arith, known)

  pushed_rest : rest ns ps forms after (suc depth) seen ≡ rest ns ps forms work depth (finished ns ps forms h 0 seen)
  pushed_rest =
      rest_last ns ps forms after depth seen
      ∙ rw (opening.stack_here t h home unmet lower fits program, opening.next_here t h home unmet lower fits program)
      (rest_same ns ps forms work after depth
      (λ d l. opening.stack_other t h home unmet lower fits program d (λ e. absurd (omega arith)))
      (λ d l. opening.next_other t h home unmet lower fits program d (λ e. absurd (omega arith)))
      (finished ns ps forms h 0 seen))

  pub pushed_walk : count + weights work (node_count ns) ≤ 2 * node_count ns + 1
      → rest ns ps forms work depth (finished ns ps forms h 0 seen) ≡ listing ns ps
      → Walk ns ps after (suc depth) count × (weights after (node_count ns) + 1 ≡ weights work (node_count ns))
  pushed_walk spare left = (
    record {
      forms = forms;
      seen = seen;
      table = opening.table_pushed t h home unmet lower fits program;
      spare = omega (arith, pushed_weights, spare);
      left = pushed_rest ∙ left;
    },
    pushed_weights,
  )

-- ---- node h is visited
module _ {ns ps work : List ℕ} {depth count h : ℕ} (v : Visit ns ps work depth count h) where
  abbrev forms : List ℕ
  forms = v.forms

  abbrev seen : List Tree
  seen = v.seen

  abbrev own : Tree
  own = program_of (cell forms datum_column h)

  pub visit_room : count + 2 ≤ 2 * node_count ns
  visit_room =
      let least : weight (cell work number_column h) ≤ weights work (node_count ns) = weights_least work (node_count ns) h v.home.inside in
      let two : 2 ≤ weights work (node_count ns) = rw v.unmet at least in
      omega (arith, v.spare, two)

  number_is : program_number work count h ≡ number_in seen own
  number_is =
      ap (λ (p : ℕ). lowest (is_program work p) count) (form_cell v.table datum_column h (omega arith) (omega arith))
      ∙ lowest_program v.table.entries (cell forms datum_column h)

  to_visit : rest ns ps forms work depth (finished ns ps forms h 0 (with_program forms h seen)) ≡ listing ns ps
  to_visit =
      ap (rest ns ps forms work depth) (sym (visit_form ns ps forms h (v.table.entries.formed.forms h v.home.inside v.home) seen))
      ∙ v.left

  abbrev Opened : List ℕ → ℕ → Type 0
  Opened w c = Walk ns ps (pushed_work w depth h) (suc depth) c × (weights (pushed_work w depth h) (node_count ns) + 1 ≡ weights work (node_count ns))

  lut_kept : cell forms kind_column h ≡ lut_word → with_program forms h seen ≡ keep own seen
  unfolding with_program
  lut_kept e = rw (eq-eqb (cell forms kind_column h) lut_word e)

  other_kept : cell forms kind_column h ≢ lut_word → with_program forms h seen ≡ seen
  unfolding with_program
  other_kept e = rw (ne_eqb (cell forms kind_column h) lut_word e)

  lut_opened : cell forms kind_column h ≡ lut_word
      → Opened (set (kept_work work (program_number work count h) count (2 * h + 1)) (place program_column h) (program_number work count h))
      (kept_count (program_number work count h) count)
  lut_opened e =
      let number = program_number work count h in
      let room : count < 2 * node_count ns = omega (arith, visit_room) in
      let beside = opening.program_beside v.table h v.home v.unmet room number number_is in
      let w = set (kept_work work number count (2 * h + 1)) (place program_column h) number in
      let same_weights : weights w (node_count ns) ≡ weights work (node_count ns) = weights_same work w (node_count ns) (λ i l. beside number_column i (omega arith)) in
      let most = kept_most number count in
      let kept : with_program forms h seen ≡ keep own seen = lut_kept e in
      let walk = pushed_walk (opening.table_program v.table h v.home v.unmet room number number_is) h v.home (beside number_column h (omega arith) ∙ v.unmet)
      (λ d l. rw (beside stack_column d (omega arith)) (v.lower d l)) v.fits (λ q. opening.program_listed v.table h v.home v.unmet room number number_is)
      (omega (arith, same_weights, most.1, v.spare))
      (rest_same ns ps forms work w depth (λ d l. beside stack_column d (omega arith)) (λ d l. beside next_column d (omega arith)) (finished ns ps forms h 0 (keep own seen))
      ∙ ap (λ (l : List Tree). rest ns ps forms work depth (finished ns ps forms h 0 l)) (sym kept) ∙ to_visit) in
      (walk.0, walk.1 ∙ same_weights)

  other_opened : cell forms kind_column h ≢ lut_word → Opened work count
  other_opened e =
      pushed_walk v.table h v.home v.unmet v.lower v.fits (λ q. absurd (e q)) (omega (arith, v.spare))
      (ap (λ (l : List Tree). rest ns ps forms work depth (finished ns ps forms h 0 l)) (sym (other_kept e)) ∙ to_visit)

  pub visited : Opened (lut_work work count h) (lut_count work count h)
  unfolding lut_work lut_count
  visited = go (is_lut work h) refl
    where
      kind : cell work kind_column h ≡ cell forms kind_column h
      kind = form_cell v.table kind_column h (omega arith) (omega arith)

      go : (b : Bool) → is_lut work h ≡ b
          → Opened (cond b (set (kept_work work (program_number work count h) count (2 * h + 1)) (place program_column h) (program_number work count h)) work)
          (cond b (kept_count (program_number work count h) count) count)
      go true e = lut_opened (sym kind ∙ eqb-true (cell work kind_column h) lut_word e)
      go false e = other_opened (λ q. eqb-false (cell work kind_column h) lut_word e (kind ∙ q))

-- ---- at the last node of the path
module _ {ns ps work : List ℕ} {d count : ℕ} (w : Walk ns ps work (suc d) count) where
  abbrev at : ℕ
  at = cell work stack_column d

  abbrev i : ℕ
  i = cell work next_column d

  last_frame : Frame ns ps w.forms work w.seen d
  last_frame = w.table.frames d (omega arith)

  pub last_home : Home ns ps w.forms at
  last_home = last_frame.home

  pub last_inside : d < node_count ns
  last_inside = omega (arith, w.table.deep d (omega arith))

  pub last_next : i ≤ cell w.forms count_column at
  last_next = last_frame.next

  -- an entry more has room
  pub close_room : count < 2 * node_count ns
  close_room =
      let least : weight (cell work number_column at) ≤ weights work (node_count ns) = weights_least work (node_count ns) at last_home.inside in
      let one : 1 ≤ weights work (node_count ns) = rw last_frame.met at least in
      omega (arith, w.spare, one)

  -- ---- no child is left
  module _ (over : i ≡ cell w.forms count_column at) where
    number_told : own_number ns ps work count at ≡ number_in w.seen (nf_at ns ps at)
    unfolding own_number
    number_told = go (eqb (cell work kind_column at) program_word) refl
      where
        kind : cell work kind_column at ≡ cell w.forms kind_column at
        kind = form_cell w.table kind_column at (omega arith) (omega arith)

        value : cell work datum_column at ≡ cell w.forms datum_column at
        value = form_cell w.table datum_column at (omega arith) (omega arith)

        go : (b : Bool) → eqb (cell work kind_column at) program_word ≡ b
            → cond b (program_number work count at) (lowest (is_form ns ps work at) count) ≡ number_in w.seen (nf_at ns ps at)
        go true e =
            ap (λ (p : ℕ). lowest (is_program work p) count) value ∙ lowest_program w.table.entries (cell w.forms datum_column at)
            ∙ ap (number_in w.seen)
            (sym (program_form w.table.entries at last_home (sym kind ∙ eqb-true (cell work kind_column at) program_word e)))
        go false e =
            lowest_form w.table.entries at last_home (closing.closing_kids w.table at refl over)
            (λ q. eqb-false (cell work kind_column at) program_word e (kind ∙ q))

    abbrev number : ℕ
    number = own_number ns ps work count at

    abbrev after_close : List ℕ
    after_close = closed_work ns ps work count at

    closed_weights : weights after_close (node_count ns) + 1 ≡ weights work (node_count ns)
    closed_weights =
        let changed : weights after_close (node_count ns) + weight (cell work number_column at) ≡ weights work (node_count ns) + weight (cell after_close number_column at) =
        weights_changed work after_close (node_count ns) at last_home.inside (λ j l ne. closing.number_other w.table at refl over close_room number number_told j ne) in
        let here : cell after_close number_column at ≡ number + 2 = closing.number_here w.table at refl over close_room number number_told in
        let none_left : weight (cell after_close number_column at) ≡ 0 = rw here (weightless number) in
        let known : weights after_close (node_count ns) + 1 ≡ weights work (node_count ns) + 0 = rw (last_frame.met, none_left) at changed in
        omega (arith, known)
      where
        weightless : (n : ℕ) → weight (n + 2) ≡ 0
        weightless n = rw (ne_eqb (n + 2) 0 (λ e. absurd (omega arith)), ne_eqb (n + 2) 1 (λ e. absurd (omega arith)))

    closed_rest : rest ns ps w.forms after_close d (keep (nf_at ns ps at) w.seen) ≡ listing ns ps
    closed_rest =
        rest_same ns ps w.forms work after_close d (λ e l. closing.stack_same w.table at refl over close_room number number_told e)
        (λ e l. closing.same w.table at refl over close_room number number_told next_column e (omega arith) (λ q. absurd (omega arith)))
        (keep (nf_at ns ps at) w.seen)
        ∙ ap (rest ns ps w.forms work d) (sym (kids_done ns ps w.forms at i w.seen (omega (arith, over))))
        ∙ sym (rest_last ns ps w.forms work d w.seen) ∙ w.left

    pub closed_walk : Walk ns ps after_close d (kept_count number count) × (weights after_close (node_count ns) + 1 ≡ weights work (node_count ns))
    closed_walk = (
      record {
        forms = w.forms;
        seen = keep (nf_at ns ps at) w.seen;
        table = closing.table_closed w.table at refl over close_room number number_told;
        spare = omega (arith, closed_weights, (kept_most number count).1, w.spare);
        left = closed_rest;
      },
      closed_weights,
    )

  -- ---- there is a child
  module _ (more : i < cell w.forms count_column at) where
    abbrev child : ℕ
    child = kid_at ns ps w.forms at i

    child_is : (child < at) × Home ns ps w.forms child
    child_is = (w.table.entries.formed.forms at last_home.inside last_home).kids i more

    pub child_inside : child < node_count ns
    child_inside = child_is.1.inside

    lower_all : (e : ℕ) → e < suc d → child < cell work stack_column e
    lower_all e l = elim (ℕ_discrete e d) [
      | yes q ↦ subst (λ (x : ℕ). child < cell work stack_column x) (sym q) child_is.0
      | no q ↦ below child_is.0 (w.table.falls e d (omega arith) (omega arith))
    ]
      where
        below : {a b c : ℕ} → a < b → b < c → a < c
        below x y = omega arith

    -- it is not met yet
    pub child_visit : cell work number_column child ≡ 0 → Visit ns ps work (suc d) count child
    child_visit unmet = record {
      forms = w.forms;
      seen = w.seen;
      table = w.table;
      spare = w.spare;
      home = child_is.1;
      unmet = unmet;
      lower = lower_all;
      fits = omega (arith, child_is.0, w.table.deep d (omega arith));
      left =
          rest_last ns ps w.forms work d (visit (nf_at ns ps child) w.seen)
          ∙ ap (rest ns ps w.forms work d) (sym (kid_first ns ps w.forms at i more w.seen w.table.ordered))
          ∙ sym (rest_last ns ps w.forms work d w.seen) ∙ w.left;
    }

    -- it has its number, for it is not on the path: that goes down
    child_done : cell work number_column child ≢ 0 → 2 ≤ cell work number_column child
    child_done met = elim (ℕ_discrete (cell work number_column child) 1) [
      | yes q ↦
          let on = w.table.opened child child_is.1 q in
          absurd (circle (lower_all on.0 on.1) on.2)
      | no q ↦ omega arith
    ]
      where
        circle : {a b : ℕ} → a < b → b ≡ a → ⊥
        circle l e = omega arith

    pub next_walk : cell work number_column child ≢ 0
        → Walk ns ps (set work (place next_column d) (i + 1)) (suc d) count
        × (weights (set work (place next_column d) (i + 1)) (node_count ns) ≡ weights work (node_count ns))
    next_walk met =
        let done = child_done met in
        let same_weights = weights_same work (set work (place next_column d) (i + 1)) (node_count ns)
        (λ j l. next.next_other w.table more done number_column j (omega arith) (λ e. absurd (omega arith))) in (
          record {
            forms = w.forms;
            seen = w.seen;
            table = next.table_next w.table more done;
            spare = omega (arith, same_weights, w.spare);
            left = moved done;
          },
          same_weights,
        )
      where
        after : List ℕ
        after = set work (place next_column d) (i + 1)

        moved : 2 ≤ cell work number_column child → rest ns ps w.forms after (suc d) w.seen ≡ listing ns ps
        moved done =
            rest_last ns ps w.forms after d w.seen
            ∙ rw (next.next_other w.table more done stack_column d (omega arith) (λ e. absurd (omega arith)), next.next_here w.table more done)
            (rest_same ns ps w.forms work after d (λ e l. next.next_other w.table more done stack_column e (omega arith) (λ q. absurd (omega arith)))
            (λ e l. other_row work (i + 1) next_column d e (λ q. absurd (omega arith))) (finished ns ps w.forms at (i + 1) w.seen))
            ∙ ap (rest ns ps w.forms work d)
            (sym (kid_passed ns ps w.forms at i more w.seen w.table.ordered
            (number_has w.seen (nf_at ns ps child) (w.table.numbers child child_is.1 done).own.there)))
            ∙ sym (rest_last ns ps w.forms work d w.seen) ∙ w.left
