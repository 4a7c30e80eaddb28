-- One more entry, unless its tree is there; and stores beside the forms and the entries, which leave both.
use Rattle.std.specs.Prelude.{ℕ, ◌+◌, ◌*◌, ◌/◌, ◌%◌, ◌≤◌, ◌<◌, ◌≡◌, ◌⊎◌, Bool, set, eqb}
use Rattle.std.proofs.Math.Path.{refl, subst}
use Rattle.std.proofs.Common.{sym, ap, ◌∙◌, add-one, length-set}
use Rattle.std.proofs.Math.Logic.{inl, inr}
use mathlib.Core.List.{List, [], ◌∷◌, ◌++◌}
use Rattle.std.proofs.Math.Bool.{true, false, cond}
use native.Mathlib.Omega.{arith}
use Rattle.std.proofs.Math.Decide.{ℕ_discrete}
use Rattle.std.proofs.Math.ListN.{length}
use borrow.Author.Tests.{eq-eqb, eqb-true, eqb-false}
use Rattle.meaning.specs.Rules.Trees.{Tree, node_count, nth_tree}
use Rattle.meaning.specs.Rules.Listing.{keep, number_in}
use Rattle.meaning.proofs.Laws.ListingLaws.{nth_new, one_more}
use Rattle.columns.specs.Columns.{place, cell, home_column, number_column, listed_column}
use Rattle.form_rows.specs.Forms.{kid_at, Home}
use Rattle.form_rows.specs.Same.{SameForms, same_then, same_set}
use Rattle.listed.specs.Keeping.{grows_own, keep_grows, keep_there, keep_new, number_most}
use Rattle.listed.specs.Entries.{listed_place, listed_at, entry_tree, KidsNumbered, Entries}
use Rattle.listed.specs.Cells.{other_column, other_row, same_entry, other_entry, cell_beside, entry_beside}
use Rattle.listing.specs.Table.{unlike, numbered_stays}

-- ---- one more entry, unless the tree is there: what `list_entry` does
abbrev pub entry_new : ℕ → ℕ → Bool
entry_new number count = eqb number count

unfoldable pub kept_work : List ℕ → ℕ → ℕ → ℕ → List ℕ
kept_work work number count e = cond (entry_new number count) (set work (listed_place count) e) work

unfoldable pub kept_count : ℕ → ℕ → ℕ
kept_count number count = cond (entry_new number count) (count + 1) count

pub kept_length : (work : List ℕ) (number count e : ℕ) → length (kept_work work number count e) ≡ length work
unfolding kept_work
kept_length work number count e = go (entry_new number count)
  where
    go : (b : Bool) → length (cond b (set work (listed_place count) e) work) ≡ length work
    go true = length-set work (listed_place count) e
    go false = refl

pub kept_most : (number count : ℕ) → (count ≤ kept_count number count) × (kept_count number count ≤ count + 1)
unfolding kept_count
kept_most number count = go (entry_new number count)
  where
    go : (b : Bool) → (count ≤ cond b (count + 1) count) × (cond b (count + 1) count ≤ count + 1)
    go true = (omega arith, omega arith)
    go false = (omega arith, omega arith)

-- the columns before LISTED are as they were
pub kept_cell : (work : List ℕ) (number count e q i : ℕ) → q < listed_column → cell (kept_work work number count e) q i ≡ cell work q i
unfolding kept_work
kept_cell work number count e q i h = go (entry_new number count)
  where
    go : (b : Bool) → cell (cond b (set work (listed_place count) e) work) q i ≡ cell work q i
    go true = cell_beside work e count q i h
    go false = refl

module _ {ns ps forms work : List ℕ} {seen : List Tree} {count : ℕ} (es : Entries ns ps forms work seen count)
    (t : Tree) (number : ℕ) (is : number ≡ number_in seen t) (e : ℕ) (home : Home ns ps forms (e / 2)) (tree : entry_tree ns ps forms e ≡ t)
    (below : e % 2 ≡ 0 → KidsNumbered ns ps forms work seen (e / 2)) (room : count < 2 * node_count ns) where
  abbrev left : List ℕ
  left = kept_work work number count e

  kept_same : SameForms forms left
  kept_same = same_then es.same (record { at = λ q i l h. kept_cell work number count e q i (omega arith) })

  place_there : listed_place count < length work
  place_there = omega (arith, es.formed.room, es.size)

  stays : (c : ℕ) → 2 ≤ cell work number_column c → cell left number_column c ≡ cell work number_column c
  stays c h = kept_cell work number count e number_column c (omega arith)

  -- ---- the tree is new
  module _ (new : number ≡ count) where
    grown : keep t seen ≡ seen ++ (t ∷ [])
    grown = keep_new t seen (omega (arith, is, es.seen_size))

    work_new : left ≡ set work (listed_place count) e
    unfolding kept_work
    work_new = rw (eq-eqb number count new)

    old_entry : (k : ℕ) → k < count → listed_at left k ≡ listed_at work k
    old_entry k h = rw work_new (other_entry work e count k (λ q. absurd (omega arith)))

    new_entry : listed_at left count ≡ e
    new_entry = rw work_new (same_entry work e count place_there)

    kids_stay : (h : ℕ) → KidsNumbered ns ps forms work seen h → KidsNumbered ns ps forms left (keep t seen) h
    kids_stay h n j l = numbered_stays ns ps forms work left (keep_grows t seen) stays (kid_at ns ps forms h j) (n j l)

    at_entry : (P : ℕ → ℕ → Type 0) → ((k : ℕ) → k < count → P k (listed_at work k)) → P count e → (k : ℕ) → k < count + 1 → P k (listed_at left k)
    at_entry P old here k h = elim (ℕ_discrete k count) [
      | yes q ↦ subst (λ (x : ℕ). P x (listed_at left x)) (sym q) (subst (P count) (sym new_entry) here)
      | no q ↦ subst (P k) (sym (old_entry k (omega arith))) (old k (omega arith))
    ]

    entries_more : Entries ns ps forms left (keep t seen) (count + 1)
    entries_more = record {
      formed = es.formed;
      same = kept_same;
      size = kept_length work number count e ∙ es.size;
      within = omega (arith, room);
      seen_size = ap length grown ∙ one_more t seen ∙ rw es.seen_size (sym (add-one count));
      homes = at_entry (λ k x. Home ns ps forms (x / 2)) es.homes home;
      trees =
          at_entry (λ k x. nth_tree (keep t seen) k ≡ entry_tree ns ps forms x)
          (λ k h. (keep_grows t seen).nth k (rw es.seen_size h) ∙ es.trees k h) (rw grown (last ∙ sym tree));
      kids =
          at_entry (λ k x. x % 2 ≡ 0 → KidsNumbered ns ps forms left (keep t seen) (x / 2))
          (λ k h even. kids_stay (listed_at work k / 2) (es.kids k h even)) (λ even. kids_stay (e / 2) (below even));
    }
      where
        last : nth_tree (seen ++ (t ∷ [])) count ≡ t
        last = rw (← es.seen_size) (nth_new t seen)

  pub entries_keep : Entries ns ps forms (kept_work work number count e) (keep t seen) (kept_count number count)
  unfolding kept_work kept_count
  entries_keep = go (entry_new number count) refl
    where
      go : (b : Bool) → entry_new number count ≡ b
          → Entries ns ps forms (cond b (set work (listed_place count) e) work) (keep t seen) (cond b (count + 1) count)
      go true q = subst (λ (w : List ℕ). Entries ns ps forms w (keep t seen) (count + 1)) (work_new (eqb-true number count q)) (entries_more (eqb-true number count q))
      go false q =
          let there : number_in seen t < length seen = omega (arith, number_most seen t, is, es.seen_size, eqb-false number count q) in
          subst (λ (l : List Tree). Entries ns ps forms work l count) (sym (keep_there t seen there)) es

  -- an entry is an old one, or it is the new one
  pub kept_entry : (k : ℕ) → k < kept_count number count
      → ((k < count) × (listed_at (kept_work work number count e) k ≡ listed_at work k)) ⊎ ((k ≡ count) × (listed_at (kept_work work number count e) k ≡ e))
  unfolding kept_work kept_count
  kept_entry k h = go (entry_new number count) refl h
    where
      go : (b : Bool) → entry_new number count ≡ b → k < cond b (count + 1) count
          → ((k < count) × (listed_at (cond b (set work (listed_place count) e) work) k ≡ listed_at work k))
          ⊎ ((k ≡ count) × (listed_at (cond b (set work (listed_place count) e) work) k ≡ e))
      go true q l = elim (ℕ_discrete k count) [
        | yes r ↦ inr (r, subst (λ (x : ℕ). listed_at (set work (listed_place count) e) x ≡ e) (sym r) (same_entry work e count place_there))
        | no r ↦ inl (omega arith, other_entry work e count k r)
      ]
      go false q l = inl (l, refl)

-- ---- a store beside the forms and the entries; a number may be stored where there was none
module _ {ns ps forms work : List ℕ} {seen : List Tree} {count : ℕ} (es : Entries ns ps forms work seen count) (q row v : ℕ)
    (beside : (q < home_column) ⊎ (number_column ≤ q)) (before : q < listed_column) (fresh : q ≡ number_column → cell work number_column row < 2) where
  pub number_kept : (c : ℕ) → 2 ≤ cell work number_column c → cell (set work (place q row) v) number_column c ≡ cell work number_column c
  number_kept c h = elim (ℕ_discrete q number_column) [
    | yes e ↦
        subst (λ (x : ℕ). cell (set work (place x row) v) number_column c ≡ cell work number_column c) (sym e)
        (other_row work v number_column row c (unlike work c row (omega (arith, fresh e, h))))
    | no e ↦ other_column work v q row number_column c (omega arith) (omega arith) (λ r. e (sym r))
  ]

  pub entries_put : Entries ns ps forms (set work (place q row) v) seen count
  entries_put =
      let entry : (k : ℕ) → listed_at (set work (place q row) v) k ≡ listed_at work k = λ k. entry_beside work v q row k before in
      record {
        formed = es.formed;
        same = same_then es.same (same_set work q row v (omega arith) beside);
        size = length-set work (place q row) v ∙ es.size;
        within = es.within;
        seen_size = es.seen_size;
        homes = λ k h. rw (entry k) (es.homes k h);
        trees = λ k h. rw (entry k) (es.trees k h);
        kids = λ k h even.
            rw (entry k)
            (λ j l. numbered_stays ns ps forms work (set work (place q row) v) (grows_own seen) number_kept (kid_at ns ps forms (listed_at work k / 2) j)
            (es.kids k h (rw (entry k) at even) j l));
      }
