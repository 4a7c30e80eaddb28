-- The tests by which an entry is found. An entry is the tree that is looked for exactly if the words of its row say so,
-- since children that are listed have one number exactly if they are the same tree.
use Prim.Native.Nat.{ℕ, zero, suc, ◌+◌, ◌/◌, ◌%◌, ◌≤◌, ◌<◌}
use Rattle.std.specs.Prelude.{◌≡◌, ◌↔◌, ◌≢◌, Bool, cond, not, ◌&&◌, ◌||◌, length}
use Rattle.std.proofs.Math.Path.{refl, ap, ap₂}
use Rattle.std.proofs.Common.{sym, ◌∙◌, add-zero, zero-add}
use mathlib.Core.List.{List, [], ◌∷◌}
use Rattle.std.proofs.Math.Bool.{true, false, and-false, and-true}
use native.Mathlib.Omega.{arith}
use Rattle.std.proofs.Math.Dec.{eqb}
use borrow.Author.Tests.{eq-eqb, ne_eqb, eqb-true, eqb-false}
use Rattle.meaning.specs.Rules.Kinds.{program_word, lut_word}
use Rattle.meaning.specs.Rules.Trees.{Tree, Forest, node, none, ◌◂◌, same, same_all, forest, nth_tree}
use Rattle.meaning.specs.Rules.Search.{lowest}
use Rattle.meaning.proofs.Laws.BoolLaws.{true_false, and_left, and_right, not_true, not_is_false}
use Rattle.meaning.specs.Rules.Listing.{number_in}
use Rattle.meaning.proofs.Laws.SearchLaws.{IsLowest, lowest_is, lowest_only}
use Rattle.meaning.proofs.Laws.TestLaws.{none_is}
use Rattle.meaning.proofs.Laws.TreeLaws.{same_eq, same_all_refl}
use Rattle.columns.specs.Columns.{cell, home_column, kind_column, datum_column, count_column, number_column}
use Rattle.form_rows.specs.From.{from, from_length, from_same}
use Rattle.form_rows.specs.Forms.{nf_at, made, program_of, kid_at, kids_in, Home}
use Rattle.form_rows.specs.Same.{same_kid}
use Rattle.listed.specs.Keeping.{same_number}
use Rattle.listed.specs.Entries.{listed_at, entry_tree, KidsNumbered, Entries}

-- ---- by words
-- a Lut's Program, or a Program node's own form
unfoldable pub entry_is_program : List ℕ → ℕ → ℕ → Bool
entry_is_program work p e =
    eqb p (cell work datum_column (e / 2)) && (eqb (e % 2) 1 || eqb (cell work kind_column (e / 2)) program_word)

abbrev pub is_program : List ℕ → ℕ → ℕ → Bool
is_program work p k = entry_is_program work p (listed_at work k)

-- child j has the same number in both
abbrev pub kid_alike : List ℕ → List ℕ → List ℕ → ℕ → ℕ → ℕ → Bool
kid_alike ns ps work h g j =
    eqb (cell work number_column (kid_at ns ps work h j)) (cell work number_column (kid_at ns ps work g j))

abbrev pub kid_differs : List ℕ → List ℕ → List ℕ → ℕ → ℕ → ℕ → Bool
kid_differs ns ps work h g j = not (kid_alike ns ps work h g j)

unfoldable pub same_kids : List ℕ → List ℕ → List ℕ → ℕ → ℕ → ℕ → Bool
same_kids ns ps work h g n = eqb (lowest (kid_differs ns ps work h g) n) n

unfoldable pub same_row : List ℕ → List ℕ → List ℕ → ℕ → ℕ → Bool
same_row ns ps work h g =
    eqb (cell work datum_column h) (cell work datum_column g) && (eqb (cell work kind_column h) (cell work kind_column g)
    && (eqb (cell work count_column h) (cell work count_column g) && same_kids ns ps work h g (cell work count_column h)))

unfoldable pub entry_is_form : List ℕ → List ℕ → List ℕ → ℕ → ℕ → Bool
entry_is_form ns ps work h e = eqb (e % 2) 0 && same_row ns ps work h (e / 2)

abbrev pub is_form : List ℕ → List ℕ → List ℕ → ℕ → ℕ → Bool
is_form ns ps work h k = entry_is_form ns ps work h (listed_at work k)

-- ---- trees by their words
-- the tree of one row is that of another exactly if kind, datum and children are the same
pub same_made : (k d k' d' : ℕ) (cs cs' : Forest) → same (made k d cs) (made k' d' cs') ≡ (eqb d d' && (eqb k k' && same_all cs cs'))
unfolding made
same_made k d k' d' cs cs' = go (eqb k lut_word) refl (eqb k' lut_word) refl
  where
    moved : (a b c : Bool) → (a && b && c) ≡ (b && (a && c))
    moved true true c = refl
    moved true false c = refl
    moved false true c = refl
    moved false false c = refl

    apart : (a b : ℕ) → eqb a lut_word ≡ true → eqb b lut_word ≡ false → eqb a b ≡ false
    apart a b e f = ne_eqb a b (λ q. eqb-false b lut_word f (sym q ∙ eqb-true a lut_word e))

    apart' : (a b : ℕ) → eqb a lut_word ≡ false → eqb b lut_word ≡ true → eqb a b ≡ false
    apart' a b e f = ne_eqb a b (λ q. eqb-false a lut_word e (q ∙ eqb-true b lut_word f))

    go : (b : Bool) → eqb k lut_word ≡ b → (b' : Bool) → eqb k' lut_word ≡ b'
        → same (cond b (node lut_word 0 (program_of d ◂ cs)) (node k d cs)) (cond b' (node lut_word 0 (program_of d' ◂ cs')) (node k' d' cs'))
        ≡ (eqb d d' && (eqb k k' && same_all cs cs'))
    go true e true e' =
        rw (eq-eqb k k' (eqb-true k lut_word e ∙ sym (eqb-true k' lut_word e')), and-true (eqb d d'))
    go true e false e' =
        rw (apart k k' e e', and-false (eqb d d')) (ap (λ (x : Bool). x && eqb 0 d' && same_all (program_of d ◂ cs) cs') (apart lut_word k' refl e'))
    go false e true e' =
        rw (apart' k k' e e', and-false (eqb d d')) (ap (λ (x : Bool). x && eqb d 0 && same_all cs (program_of d' ◂ cs')) (apart' k lut_word e refl))
    go false e false e' = moved (eqb k k') (eqb d d') (same_all cs cs')

-- ---- children by their numbers
module _ (tree : ℕ → Tree) (f g : ℕ → ℕ) where
  forest_same : (j n : ℕ) → ((i : ℕ) → i < n → tree (f (j + i)) ≡ tree (g (j + i)))
      → forest tree (from f j n) ≡ forest tree (from g j n)
  unfolding from
  forest_same j zero e = refl
  forest_same j (suc n) e =
      let here : tree (f j) ≡ tree (g j) = rw (add-zero j) at (e 0 (omega arith)) in
      ap₂ (λ (t : Tree) (ts : Forest). t ◂ ts) here (forest_same (suc j) n (λ i h. later i h))
    where
      later : (i : ℕ) → i < n → tree (f (suc j + i)) ≡ tree (g (suc j + i))
      later i h = let q : suc j + i ≡ j + suc i = omega arith in rw q (e (suc i) (omega arith))

  same_each : (j n : ℕ) → same_all (forest tree (from f j n)) (forest tree (from g j n)) ≡ true
      → (i : ℕ) → i < n → same (tree (f (j + i))) (tree (g (j + i))) ≡ true
  unfolding from
  same_each j zero h i l = absurd (omega arith)
  same_each j (suc n) h zero l =
      rw (add-zero j) (and_left (same (tree (f j)) (tree (g j))) (same_all (forest tree (from f (suc j) n)) (forest tree (from g (suc j) n))) h)
  same_each j (suc n) h (suc i) l =
      let q : j + suc i ≡ suc j + i = omega arith in
      rw q
      (same_each (suc j) n
      (and_right (same (tree (f j)) (tree (g j))) (same_all (forest tree (from f (suc j) n)) (forest tree (from g (suc j) n))) h) i (omega arith))

  -- where equal numbers are equal trees, the numbers tell whether the children are the same
  kids_told : (number : ℕ → ℕ) (n : ℕ)
      → ((i : ℕ) → i < n → eqb (number (f i)) (number (g i)) ≡ same (tree (f i)) (tree (g i)))
      → eqb (lowest (λ i. not (eqb (number (f i)) (number (g i)))) n) n ≡ same_all (forest tree (from f 0 n)) (forest tree (from g 0 n))
  kids_told number n told = go (same_all (forest tree (from f 0 n)) (forest tree (from g 0 n))) refl
    where
      alike : ℕ → Bool
      alike i = eqb (number (f i)) (number (g i))

      all : (eqb (lowest (λ i. not (alike i)) n) n ≡ true) ↔ ((i : ℕ) → i < n → alike i ≡ true)
      all = none_is (λ i. not (alike i)) (λ i. (not_is_false (alike i), λ e. rw e)) n

      go : (b : Bool) → same_all (forest tree (from f 0 n)) (forest tree (from g 0 n)) ≡ b
          → eqb (lowest (λ i. not (alike i)) n) n ≡ b
      go true e = all.1 (λ i h. told i h ∙ (rw (zero-add i) at (same_each 0 n e i h)))
      go false e =
          not_true (eqb (lowest (λ i. not (alike i)) n) n)
          (λ q. true_false (rw (forest_same 0 n (λ i h. rw (zero-add i) (same_eq (tree (f i)) (tree (g i)) (sym (told i h) ∙ all.0 q i h)))) (same_all_refl (forest tree (from g 0 n)))) e)

counts_differ : (tree : ℕ → Tree) (cs ds : List ℕ) → length cs ≢ length ds → same_all (forest tree cs) (forest tree ds) ≡ false
counts_differ tree [] [] h = absurd (h refl)
counts_differ tree [] (d ∷ ds) h = refl
counts_differ tree (c ∷ cs) [] h = refl
counts_differ tree (c ∷ cs) (d ∷ ds) h = rw (counts_differ tree cs ds (λ e. h (ap suc e))) (and-false (same (tree c) (tree d)))

both_two : (a b : ℕ) → eqb (a + 2) (b + 2) ≡ eqb a b
both_two a b = go (eqb a b) refl
  where
    go : (t : Bool) → eqb a b ≡ t → eqb (a + 2) (b + 2) ≡ t
    go true e = eq-eqb (a + 2) (b + 2) (ap (λ (x : ℕ). x + 2) (eqb-true a b e))
    go false e = ne_eqb (a + 2) (b + 2) (λ q. eqb-false a b e (omega arith))

lowest_same : (p q : ℕ → Bool) (n : ℕ) → ((i : ℕ) → i < n → p i ≡ q i) → lowest p n ≡ lowest q n
lowest_same p q n e = lowest_only p n (lowest q n) (record {
  after = omega arith;
  within = found.within;
  passes = λ h. e (lowest q n) h ∙ found.passes h;
  before = λ j a b. e j (omega (arith, found.within)) ∙ found.before j a b;
})
  where
    found : IsLowest q 0 n (lowest q n)
    found = lowest_is q n

program_made : (p : ℕ) → made program_word p none ≡ program_of p
unfolding made
program_made p = refl

-- ---- the tests tell equal trees
module _ {ns ps forms work : List ℕ} {seen : List Tree} {count : ℕ} (es : Entries ns ps forms work seen count) where
  cell_read : (q h : ℕ) → home_column ≤ q → q < number_column → cell work q h ≡ cell forms q h
  cell_read q h = es.same.at q h

  pub kid_read : (h : ℕ) → Home ns ps forms h → (j : ℕ) → j < cell forms count_column h → kid_at ns ps work h j ≡ kid_at ns ps forms h j
  kid_read h home j l =
      same_kid es.same es.formed es.size h j home l

  -- the form of a node that is a home
  abbrev kids : ℕ → Forest
  kids h = forest (nf_at ns ps) (kids_in ns ps forms h)

  form_is : (h : ℕ) → Home ns ps forms h → nf_at ns ps h ≡ made (cell forms kind_column h) (cell forms datum_column h) (kids h)
  form_is h home = (es.formed.forms h home.inside home).tree

  program_kids : (h : ℕ) → Home ns ps forms h → cell forms kind_column h ≡ program_word → kids h ≡ none
  unfolding from
  program_kids h home e =
      let no_kids : cell forms count_column h ≡ 0 = (es.formed.forms h home.inside home).leaf (omega arith) in
      rw no_kids

  pub program_form : (h : ℕ) → Home ns ps forms h → cell forms kind_column h ≡ program_word → nf_at ns ps h ≡ program_of (cell forms datum_column h)
  program_form h home e =
      form_is h home ∙ rw (e, program_kids h home e) (program_made (cell forms datum_column h))

  -- a Program
  entry_program : (p e : ℕ) → Home ns ps forms (e / 2) → entry_is_program work p e ≡ same (program_of p) (entry_tree ns ps forms e)
  unfolding entry_is_program entry_tree
  entry_program p e home =
      rw (cell_read datum_column (e / 2) (omega arith) (omega arith), cell_read kind_column (e / 2) (omega arith) (omega arith)) (go (eqb (e % 2) 1))
    where
      h : ℕ
      h = e / 2

      d : ℕ
      d = cell forms datum_column (e / 2)

      k : ℕ
      k = cell forms kind_column (e / 2)

      kinds : (b : Bool) → eqb k program_word ≡ b → b ≡ (eqb program_word k && same_all none (kids h))
      kinds true q = rw (eq-eqb program_word k (sym (eqb-true k program_word q)), program_kids h home (eqb-true k program_word q))
      kinds false q = rw (ne_eqb program_word k (λ r. eqb-false k program_word q (sym r)))

      go : (b : Bool) → (eqb p d && (b || eqb k program_word)) ≡ same (program_of p) (cond b (program_of d) (nf_at ns ps h))
      go true = rw (and-true (eqb p d))
      go false = rw (form_is h home) (ap (λ (x : Bool). eqb p d && x) (kinds (eqb k program_word) refl) ∙ sym (same_made program_word p k d none (kids h)) ∙ ap (λ (t : Tree). same t (made k d (kids h))) (program_made p))

  pub lowest_program : (p : ℕ) → lowest (is_program work p) count ≡ number_in seen (program_of p)
  lowest_program p =
      rw es.seen_size
      (lowest_same (is_program work p) (λ k. same (program_of p) (nth_tree seen k)) count
      (λ k h. entry_program p (listed_at work k) (es.homes k h) ∙ ap (same (program_of p)) (sym (es.trees k h))))

  -- a form that is no Program, whose children have their numbers
  module _ (h : ℕ) (home : Home ns ps forms h) (numbered : KidsNumbered ns ps forms work seen h) where
    -- beside another whose children have theirs
    module _ (g : ℕ) (other : Home ns ps forms g) (others : KidsNumbered ns ps forms work seen g) where
      abbrev n : ℕ
      n = cell forms count_column h

      kids_same : n ≡ cell forms count_column g → same_kids ns ps work h g n ≡ same_all (kids h) (kids g)
      unfolding same_kids
      kids_same e =
          kids_told (nf_at ns ps) (kid_at ns ps work h) (kid_at ns ps work g) (cell work number_column) n told
          ∙ ap₂ (λ (cs ds : List ℕ). same_all (forest (nf_at ns ps) cs) (forest (nf_at ns ps) ds))
          (from_same (kid_at ns ps work h) (kid_at ns ps forms h) 0 n (λ i l. rw (zero-add i) (kid_read h home i l)))
          (from_same (kid_at ns ps work g) (kid_at ns ps forms g) 0 n (λ i l. rw (zero-add i) (kid_read g other i (omega arith)))
          ∙ ap (from (kid_at ns ps forms g) 0) e)
        where
          told : (i : ℕ) → i < n
              → eqb (cell work number_column (kid_at ns ps work h i)) (cell work number_column (kid_at ns ps work g i))
              ≡ same (nf_at ns ps (kid_at ns ps work h i)) (nf_at ns ps (kid_at ns ps work g i))
          told i l =
              let a = numbered i l in
              let b = others i (omega arith) in
              rw (kid_read h home i l, kid_read g other i (omega arith), a.number, b.number)
              (both_two (number_in seen (nf_at ns ps (kid_at ns ps forms h i))) (number_in seen (nf_at ns ps (kid_at ns ps forms g i)))
              ∙ same_number seen (nf_at ns ps (kid_at ns ps forms h i)) (nf_at ns ps (kid_at ns ps forms g i)) a.there b.there)

      counted : (eqb n (cell forms count_column g) && same_kids ns ps work h g n) ≡ same_all (kids h) (kids g)
      counted = go (eqb n (cell forms count_column g)) refl
        where
          go : (b : Bool) → eqb n (cell forms count_column g) ≡ b → (b && same_kids ns ps work h g n) ≡ same_all (kids h) (kids g)
          go true e = kids_same (eqb-true n (cell forms count_column g) e)
          go false e =
              sym (counts_differ (nf_at ns ps) (kids_in ns ps forms h) (kids_in ns ps forms g)
              (λ q. eqb-false n (cell forms count_column g) e
              (sym (from_length (kid_at ns ps forms h) 0 n) ∙ q ∙ from_length (kid_at ns ps forms g) 0 (cell forms count_column g))))

      row_same : same_row ns ps work h g ≡ same (nf_at ns ps h) (nf_at ns ps g)
      unfolding same_row
      row_same =
          rw (
            cell_read datum_column h (omega arith) (omega arith),
            cell_read datum_column g (omega arith) (omega arith),
            cell_read kind_column h (omega arith) (omega arith),
            cell_read kind_column g (omega arith) (omega arith),
            cell_read count_column h (omega arith) (omega arith),
            cell_read count_column g (omega arith) (omega arith),
            counted,
            form_is h home,
            form_is g other,
          )
          (sym (same_made (cell forms kind_column h) (cell forms datum_column h) (cell forms kind_column g) (cell forms datum_column g) (kids h) (kids g)))

    module _ (inner : cell forms kind_column h ≢ program_word) where
      entry_form : (e : ℕ) → Home ns ps forms (e / 2) → (e % 2 ≡ 0 → KidsNumbered ns ps forms work seen (e / 2))
          → entry_is_form ns ps work h e ≡ same (nf_at ns ps h) (entry_tree ns ps forms e)
      unfolding entry_is_form entry_tree
      entry_form e other others = go (eqb (e % 2) 1) refl
        where
          go : (b : Bool) → eqb (e % 2) 1 ≡ b
              → (eqb (e % 2) 0 && same_row ns ps work h (e / 2)) ≡ same (nf_at ns ps h) (cond b (program_of (cell forms datum_column (e / 2))) (nf_at ns ps (e / 2)))
          go true q =
              rw (ne_eqb (e % 2) 0 (λ r. absurd (omega (arith, eqb-true (e % 2) 1 q))), form_is h home)
              (sym (ap (same (made (cell forms kind_column h) (cell forms datum_column h) (kids h))) (sym (program_made (cell forms datum_column (e / 2))))
              ∙ same_made (cell forms kind_column h) (cell forms datum_column h) program_word (cell forms datum_column (e / 2)) (kids h) none
              ∙ rw (ne_eqb (cell forms kind_column h) program_word inner) (and-false (eqb (cell forms datum_column h) (cell forms datum_column (e / 2))))))
          go false q =
              let even : e % 2 ≡ 0 = omega (arith, eqb-false (e % 2) 1 q) in
              rw (eq-eqb (e % 2) 0 even) (row_same (e / 2) other (others even))

      pub lowest_form : lowest (is_form ns ps work h) count ≡ number_in seen (nf_at ns ps h)
      lowest_form =
          rw es.seen_size
          (lowest_same (is_form ns ps work h) (λ k. same (nf_at ns ps h) (nth_tree seen k)) count
          (λ k l. entry_form (listed_at work k) (es.homes k l) (es.kids k l) ∙ ap (same (nf_at ns ps h)) (sym (es.trees k l))))
