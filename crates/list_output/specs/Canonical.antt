-- The rows' words are those of the canonical list (document 01, "Canonical list"), once all subtrees are listed.
use Prim.Native.Nat.{ℕ, zero, suc, ◌+◌, ◌*◌, ◌/◌, ◌%◌, ◌≤◌, ◌<◌}
use Rattle.std.specs.Prelude.{◌≡◌, Bool, cond, take}
use Rattle.std.proofs.Math.Path.{refl, sym, ap}
use Rattle.std.proofs.Common.{ap₂, subst, ◌∙◌, add-zero, zero-add, arith, take-suc, take_all, eqb-true}
use mathlib.Core.List.{List, [], ◌∷◌, ◌++◌, map}
use Rattle.std.proofs.Math.Bool.{true, false}
use Rattle.std.proofs.Math.ListN.{length}
use Rattle.std.proofs.Math.Dec.{eqb}
use Rattle.std.proofs.lemmas.Bool.{eqb-false}
use Rattle.meaning.specs.Rules.Limits.{words_per_node, most_nodes}
use Rattle.meaning.specs.Rules.Kinds.{lut_word, has_children}
use Rattle.meaning.specs.Rules.Trees.{Tree, Forest, node, ◌◂◌, kind_word, datum, children, trees, forest, stump, nth_tree}
use Rattle.meaning.specs.Rules.Listing.{number_in, child_numbers, node_at, node_words, pool_words, listed_nodes, listed_pool}
use Rattle.meaning.specs.Rules.Canonical.{canonical_nodes, canonical_pool}
use Rattle.meaning.proofs.Laws.ListingLaws.{numbers_length}
use Rattle.meaning.proofs.Laws.BoolLaws.{true_false}
use Rattle.columns.specs.Columns.{cell, kind_column, datum_column, count_column, program_column}
use Rattle.form_rows.specs.From.{from}
use Rattle.form_rows.specs.Forms.{nf_at, made, program_of, kid_at, kids_in, FormAt}
use Rattle.listed.specs.Entries.{listed_at, entry_tree, KidsNumbered, listable_reads}
use Rattle.listed.specs.Listing.{listing, ProgramAt, Listing}
use Rattle.list_output.specs.Words.{entry_kind, child_count, entry_first, entry_count, entry_node, program_part, kid_number, kids_part, entry_part, pool_size, row_nodes, row_pool, Rows, Numbers}
use Rattle.list_output.specs.Sizes.{nodes_size, pool_size_lem, part_size}
use Rattle.list_output.specs.Ends.{pool_end, nodes_end}

-- ---- a tree from what its row says
module _ (k d : ℕ) (cs : Forest) where
  made_kind : kind_word (made k d cs) ≡ k
  unfolding made
  made_kind = go (eqb k lut_word) refl
    where
      go : (b : Bool) → eqb k lut_word ≡ b → kind_word (cond b (node lut_word 0 (program_of d ◂ cs)) (node k d cs)) ≡ k
      go true e = sym (eqb-true k lut_word e)
      go false e = refl

  made_datum : has_children k ≡ false → datum (made k d cs) ≡ d
  unfolding made
  made_datum leaf = go (eqb k lut_word) refl
    where
      go : (b : Bool) → eqb k lut_word ≡ b → datum (cond b (node lut_word 0 (program_of d ◂ cs)) (node k d cs)) ≡ d
      go true e = let inner : has_children k ≡ true = ap has_children (eqb-true k lut_word e) in absurd (true_false inner leaf)
      go false e = refl

-- the numbers of a row's children
kid_numbers : (number : Tree → ℕ) (tree : ℕ → Tree) (f g : ℕ → ℕ) (j n : ℕ)
    → ((i : ℕ) → i < n → number (tree (f (j + i))) ≡ g (j + i))
    → map number (trees (forest tree (from f j n))) ≡ from g j n
unfolding from
kid_numbers number tree f g j zero e = refl
kid_numbers number tree f g j (suc n) e =
    let here : number (tree (f j)) ≡ g j = rw (add-zero j) at (e 0 (omega arith)) in
    ap₂ (λ (x : ℕ) (xs : List ℕ). x ∷ xs) here (kid_numbers number tree f g (suc j) n (λ i h. later i h))
  where
    later : (i : ℕ) → i < n → number (tree (f (suc j + i))) ≡ g (suc j + i)
    later i h = let q : suc j + i ≡ j + suc i = omega arith in rw q (e (suc i) (omega arith))

-- ---- an entry's words are those of its tree
record Told (ns ps work : List ℕ) (all : List Tree) (e : ℕ) (t : Tree) : Type 0 where
  kind : kind_word t ≡ entry_kind work e
  value : has_children (kind_word t) ≡ false → datum t ≡ cell work datum_column (e / 2)
  numbers : child_numbers all t ≡ entry_part ns ps work e

told_count : {ns ps work : List ℕ} {all : List Tree} {e : ℕ} {t : Tree} → Told ns ps work all e t
    → length (trees (children t)) ≡ child_count work e
told_count {ns} {ps} {work} {all} {e} {t} told =
    sym (numbers_length all t) ∙ ap length told.numbers ∙ part_size ns ps work e

told_node : {ns ps work : List ℕ} {all : List Tree} {e : ℕ} {t : Tree} → Told ns ps work all e t → (at : ℕ)
    → node_at at t ≡ entry_node work at e
unfolding entry_first entry_count
told_node {ns} {ps} {work} {all} {e} {t} told at = go (has_children (kind_word t)) refl
  where
    go : (b : Bool) → has_children (kind_word t) ≡ b → node_at at t ≡ entry_node work at e
    go true q = rw (← told.kind, q, told_count told)
    go false q = rw (← told.kind, q, told.value q)

module _ {ns ps work : List ℕ} {count : ℕ} (l : Listing ns ps work count) where
  abbrev all : List Tree
  all = listing ns ps

  -- the row of an entry
  form_at : (k : ℕ) → k < count → FormAt ns ps work (listed_at work k / 2)
  form_at k h =
      let home = l.entries.homes k h in
      l.entries.formed.forms (listed_at work k / 2) home.inside home

  pub listing_rows : Rows work count
  listing_rows = record {
    reads = listable_reads (record { formed = l.entries.formed; within = l.entries.within; homes = l.entries.homes });
    known = λ k h. (form_at k h).known;
    few = λ k h. (form_at k h).few;
  }

  -- the numbers that it holds are below the count
  pub listing_numbers : count ≤ most_nodes → (k : ℕ) → k < count → listed_at work k % 2 ≡ 0 → Numbers ns ps work (listed_at work k / 2)
  listing_numbers small k h even = record {
    formed = l.entries.formed;
    home = l.entries.homes k h;
    program = λ e. let p = l.programs k h even e in omega (arith, p.number, p.there, l.entries.seen_size, small);
    kids = λ j m.
        let n = l.entries.kids k h even j m in
        (omega (arith, n.number), omega (arith, n.number, n.there, l.entries.seen_size, small));
  }

  -- ---- what they are
  kids_told : (h : ℕ) → KidsNumbered ns ps work work all h
      → map (number_in all) (trees (forest (nf_at ns ps) (kids_in ns ps work h))) ≡ kids_part ns ps work h
  unfolding kids_part kid_number
  kids_told h numbered =
      kid_numbers (number_in all) (nf_at ns ps) (kid_at ns ps work h) (kid_number ns ps work h) 0 (cell work count_column h) each
    where
      each : (i : ℕ) → i < cell work count_column h → number_in all (nf_at ns ps (kid_at ns ps work h (0 + i))) ≡ kid_number ns ps work h (0 + i)
      each i m = rw (zero-add i) (omega (arith, (numbered i m).number))

  even_numbers : (h : ℕ) → KidsNumbered ns ps work work all h → (cell work kind_column h ≡ lut_word → ProgramAt work work all h)
      → child_numbers all (made (cell work kind_column h) (cell work datum_column h) (forest (nf_at ns ps) (kids_in ns ps work h)))
      ≡ program_part work h ++ kids_part ns ps work h
  unfolding made program_part
  even_numbers h numbered program = go (eqb (cell work kind_column h) lut_word) refl
    where
      cs : Forest
      cs = forest (nf_at ns ps) (kids_in ns ps work h)

      d : ℕ
      d = cell work datum_column h

      go : (b : Bool) → eqb (cell work kind_column h) lut_word ≡ b
          → child_numbers all (cond b (node lut_word 0 (program_of d ◂ cs)) (node (cell work kind_column h) d cs))
          ≡ cond b (cell work program_column h ∷ []) [] ++ kids_part ns ps work h
      go true e =
          ap₂ (λ (x : ℕ) (xs : List ℕ). x ∷ xs) (sym (program (eqb-true (cell work kind_column h) lut_word e)).number) (kids_told h numbered)
      go false e = kids_told h numbered

  odd_told : (e : ℕ) → eqb (e % 2) 1 ≡ true → Told ns ps work all e (entry_tree ns ps work e)
  unfolding entry_tree entry_kind entry_part
  odd_told e odd = record { kind = rw odd; value = λ leaf. rw odd; numbers = rw odd }

  even_told : (e : ℕ) → eqb (e % 2) 1 ≡ false → FormAt ns ps work (e / 2) → KidsNumbered ns ps work work all (e / 2)
      → (cell work kind_column (e / 2) ≡ lut_word → ProgramAt work work all (e / 2)) → Told ns ps work all e (entry_tree ns ps work e)
  unfolding entry_tree entry_kind entry_part
  even_told e even form numbered program = record {
    kind = is_kind ∙ rw even;
    value = λ leaf. rw (even, form.tree) (made_datum k d cs (ap has_children (sym is_kind) ∙ leaf));
    numbers = rw (even, form.tree) (even_numbers (e / 2) numbered program);
  }
    where
      k : ℕ
      k = cell work kind_column (e / 2)

      d : ℕ
      d = cell work datum_column (e / 2)

      cs : Forest
      cs = forest (nf_at ns ps) (kids_in ns ps work (e / 2))

      is_kind : kind_word (cond (eqb (e % 2) 1) (program_of d) (nf_at ns ps (e / 2))) ≡ k
      is_kind = rw (even, form.tree) (made_kind k d cs)

  entry_told : (k : ℕ) → k < count → Told ns ps work all (listed_at work k) (nth_tree all k)
  entry_told k h = subst (Told ns ps work all (listed_at work k)) (sym (l.entries.trees k h)) (go (eqb (listed_at work k % 2) 1) refl)
    where
      go : (b : Bool) → eqb (listed_at work k % 2) 1 ≡ b → Told ns ps work all (listed_at work k) (entry_tree ns ps work (listed_at work k))
      go true odd = odd_told (listed_at work k) odd
      go false q =
          let even : listed_at work k % 2 ≡ 0 = omega (arith, eqb-false (listed_at work k % 2) 1 q) in
          even_told (listed_at work k) q (form_at k h) (l.entries.kids k h even) (l.programs k h even)

  -- ---- the first k of them
  more : (k : ℕ) → k < count → take (suc k) all ≡ take k all ++ (nth_tree all k ∷ [])
  more k h = take-suc all k stump (omega (arith, l.entries.seen_size))

  pool_told : (k : ℕ) → k ≤ count → row_pool ns ps work k ≡ pool_words all (take k all)
  unfolding row_pool
  pool_told zero h = refl
  pool_told (suc k) h =
      rw (more k (omega arith))
      (ap₂ (λ (xs ys : List ℕ). xs ++ ys) (pool_told k (omega arith)) (sym (entry_told k (omega arith)).numbers)
      ∙ sym (pool_end all (nth_tree all k) (take k all)))

  size_told : (k : ℕ) → k ≤ count → pool_size work k ≡ length (pool_words all (take k all))
  size_told k h = sym (pool_size_lem work ns ps k) ∙ ap length (pool_told k h)

  nodes_told : (k : ℕ) → k ≤ count → row_nodes work k ≡ node_words 0 (take k all)
  unfolding row_nodes
  nodes_told zero h = refl
  nodes_told (suc k) h =
      let at : pool_size work k ≡ 0 + length (pool_words all (take k all)) = size_told k (omega arith) ∙ sym (zero-add _) in
      rw (more k (omega arith))
      (ap₂ (λ (xs ys : List ℕ). xs ++ ys) (nodes_told k (omega arith))
      (sym (told_node (entry_told k (omega arith)) (pool_size work k)) ∙ ap (λ (x : ℕ). node_at x (nth_tree all k)) at)
      ∙ sym (nodes_end all (nth_tree all k) 0 (take k all)))

  -- ---- all of them
  whole : take count all ≡ all
  whole = take_all count all (omega (arith, l.entries.seen_size))

  pub listing_nodes : row_nodes work count ≡ canonical_nodes ns ps
  unfolding canonical_nodes listed_nodes listing
  listing_nodes = nodes_told count (omega arith) ∙ ap (node_words 0) whole

  pub listing_pool : row_pool ns ps work count ≡ canonical_pool ns ps
  unfolding canonical_pool listed_pool listing
  listing_pool = pool_told count (omega arith) ∙ ap (pool_words all) whole

  pub listing_size : pool_size work count ≡ length (canonical_pool ns ps)
  listing_size = sym (pool_size_lem work ns ps count) ∙ ap length listing_pool

  pub listing_words : length (canonical_nodes ns ps) ≡ count * words_per_node
  listing_words = ap length (sym listing_nodes) ∙ nodes_size work count
