-- Where the walk begins, where it ends, and that every turn brings it nearer to its end.
use Rattle.std.specs.Prelude.{ℕ, zero, suc, ◌+◌, ◌-◌, ◌/◌, ◌%◌, ◌≤◌, ◌<◌, ◌≡◌, refl, List, []}
use Rattle.std.proofs.Common.{sym, subst, ◌∙◌, arith}
use Rattle.std.proofs.Math.Path.{ap}
use Rattle.meaning.specs.Rules.Limits.{widest_bus}
use Rattle.meaning.specs.Rules.Kinds.{lut_word}
use Rattle.meaning.specs.Rules.Trees.{Tree, node_count, root_of}
use Rattle.meaning.specs.Rules.Listing.{visit, subtrees}
use Rattle.meaning.proofs.Laws.ListingLaws.{Ordered}
use Rattle.meaning.proofs.Laws.ReachLaws.{reach_root}
use Rattle.columns.specs.Columns.{cell, home_column, kind_column, datum_column, count_column, number_column, stack_column, next_column}
use Rattle.form_rows.specs.Forms.{nf_at, Home, HomeOf, Formed}
use Rattle.form_rows.specs.Same.{same_own}
use Rattle.listed.specs.Entries.{listed_at, entry_tree, KidsNumbered, Entries}
use Rattle.listed.specs.Likeness.{kid_read}
use Rattle.listed.specs.Listing.{ProgramAt, listing, Listing}
use Rattle.listing.specs.Weights.{weights, weights_most}
use Rattle.listing.specs.Path.{rest}
use Rattle.listing.specs.Table.{Table}
use Rattle.listing.specs.Steps.{left_here, turns}
use Rattle.listing.specs.Walk.{Walk, Visit, form_cell, formed_here, home_here, last_home}

-- ---- at first nothing is met, and the root's home is to be visited
module _ {ns ps work : List ℕ} (f : Formed ns ps work (node_count ns)) (fresh : (i : ℕ) → i < node_count ns → cell work number_column i ≡ 0) where
  abbrev last : ℕ
  last = node_count ns - 1

  abbrev pub start : ℕ
  start = cell work home_column last

  rooted : 0 < node_count ns
  rooted = f.sound.1.1.0

  of_root : HomeOf ns ps work last
  of_root = f.homes last (omega (arith, rooted)) (reach_root ns ps last (omega (arith, rooted)))

  nothing : Entries ns ps work work [] 0
  nothing = record {
    formed = f;
    same = same_own work;
    size = refl;
    within = omega arith;
    seen_size = refl;
    homes = λ k h. absurd (omega arith);
    trees = λ k h. absurd (omega arith);
    kids = λ k h even. absurd (omega arith);
  }

  unmet : (h : ℕ) → Home ns ps work h → {n : ℕ} → 1 ≤ n → cell work number_column h ≡ n → ⊥
  unmet h home l e = omega (arith, fresh h home.inside, e)

  empty : Table ns ps work work [] 0 0
  unfolding Ordered
  empty = record {
    entries = nothing;
    ordered = λ i l. absurd (omega arith);
    finished = λ k h even. absurd (omega arith);
    numbers = λ h home n. absurd (unmet h home (omega (arith, n)) refl);
    frames = λ d l. absurd (omega arith);
    falls = λ d e l k. absurd (omega arith);
    deep = λ d l. absurd (omega arith);
    opened = λ h home n. absurd (unmet h home (omega arith) n);
  }

  whole : rest ns ps work work 0 (visit (nf_at ns ps start) []) ≡ listing ns ps
  unfolding rest listing subtrees root_of nf_at
  whole = ap (λ (t : Tree). visit t []) (sym of_root.same)

  pub begin : Visit ns ps work 0 0 start
  begin = record {
    forms = work;
    seen = [];
    table = empty;
    spare = omega (arith, weights_most work (node_count ns));
    home = of_root.home;
    unmet = fresh start of_root.home.inside;
    lower = λ d l. absurd (omega arith);
    fits = omega (arith, of_root.home.inside);
    left = whole;
  }

-- ---- at last the path is at its end, and all is seen
module _ {ns ps work : List ℕ} {count : ℕ} (w : Walk ns ps work 0 count) where
  all_seen : w.seen ≡ listing ns ps
  unfolding rest
  all_seen = w.left

  es : Entries ns ps w.forms work w.seen count
  es = w.table.entries

  own_entry : (e : ℕ) → entry_tree ns ps w.forms e ≡ entry_tree ns ps work e
  unfolding entry_tree
  own_entry e = rw (form_cell w.table datum_column (e / 2) (omega arith) (omega arith))

  own_kids : (h : ℕ) → Home ns ps w.forms h → KidsNumbered ns ps w.forms work w.seen h → KidsNumbered ns ps work work w.seen h
  own_kids h home n j l =
      let there : j < cell w.forms count_column h = rw (form_cell w.table count_column h (omega arith) (omega arith)) at l in
      rw (kid_read es h home j there) (n j there)

  own_entries : Entries ns ps work work w.seen count
  own_entries = record {
    formed = formed_here w.table;
    same = same_own work;
    size = refl;
    within = es.within;
    seen_size = es.seen_size;
    homes = λ k h. home_here w.table (listed_at work k / 2) (es.homes k h);
    trees = λ k h. es.trees k h ∙ own_entry (listed_at work k);
    kids = λ k h even. own_kids (listed_at work k / 2) (es.homes k h) (es.kids k h even);
  }

  own_programs : (k : ℕ) → k < count → listed_at work k % 2 ≡ 0 → cell work kind_column (listed_at work k / 2) ≡ lut_word
      → ProgramAt work work w.seen (listed_at work k / 2)
  own_programs k h even lut =
      let g : ℕ = listed_at work k / 2 in
      let p = (w.table.numbers g (es.homes k h) (w.table.finished k h even)).program
      (sym (form_cell w.table kind_column g (omega arith) (omega arith)) ∙ lut) in
      let value : cell work datum_column g ≡ cell w.forms datum_column g = form_cell w.table datum_column g (omega arith) (omega arith) in
      record { number = rw value p.number; there = rw value p.there }

  pub ended : Listing ns ps work count
  ended = let all = subst Whole all_seen (own_entries, own_programs) in record { entries = all.0; programs = all.1 }
    where
      Whole : List Tree → Type 0
      Whole l =
          Entries ns ps work work l count
          × ((k : ℕ) → k < count → listed_at work k % 2 ≡ 0 → cell work kind_column (listed_at work k / 2) ≡ lut_word → ProgramAt work work l (listed_at work k / 2))

-- ---- every turn
left_few : {ns ps work : List ℕ} (depth : ℕ) {count : ℕ} → Walk ns ps work depth count → left_here work depth ≤ widest_bus
left_few zero w = omega arith
left_few {work = work} (suc d) w =
    let h = last_home w in
    let few = (w.table.entries.formed.forms (cell work stack_column d) h.inside h).few in
    omega (arith, few, form_cell w.table count_column (cell work stack_column d) (omega arith) (omega arith))

-- one entry less can come
pub turns_less : (work : List ℕ) (depth : ℕ) {ns ps after : List ℕ} {left count : ℕ} → Walk ns ps after left count
    → weights after (node_count ns) + 1 ≡ weights work (node_count ns) → turns (node_count ns) after left < turns (node_count ns) work depth
unfolding turns
turns_less work depth {left = left} w e = omega (arith, left_few left w, e)

-- one child less is left
pub turns_next : {ns ps work : List ℕ} {d count : ℕ} (w : Walk ns ps work (suc d) count)
    → (more : cell work next_column d < cell w.forms count_column (cell work stack_column d))
    → (after : List ℕ) → weights after (node_count ns) ≡ weights work (node_count ns) → cell after stack_column d ≡ cell work stack_column d
    → cell after next_column d ≡ cell work next_column d + 1
    → cell after count_column (cell work stack_column d) ≡ cell work count_column (cell work stack_column d)
    → turns (node_count ns) after (suc d) < turns (node_count ns) work (suc d)
unfolding turns
turns_next {work = work} {d = d} w more after same stack next count =
    let few : cell work count_column (cell work stack_column d) ≡ cell w.forms count_column (cell work stack_column d) =
    form_cell w.table count_column (cell work stack_column d) (omega arith) (omega arith) in
    rw (same, stack, next, count) (omega (arith, more, few))
