-- Forms stay where the rows that hold them stay: of a list whose first m nodes' forms are written, only the columns of the
-- forms in the rows below m matter.
use Rattle.std.specs.Prelude.{ℕ, ◌+◌, ◌≤◌, ◌<◌, ◌≡◌, refl, List, Bool}
use Rattle.std.proofs.Common.{sym, ap, ap₂, subst, ◌∙◌, arith, zero-add, eqb-true}
use Rattle.std.proofs.Math.Bool.{true, false, cond}
use Rattle.std.proofs.Math.ListN.{length, get_or}
use Rattle.std.proofs.Math.Dec.{eqb}
use Rattle.std.proofs.lemmas.Bool.{eqb-false}
use Rattle.meaning.specs.Rules.Kinds.{lut_word}
use Rattle.meaning.specs.Rules.Trees.{forest, children_at}
use Rattle.columns.specs.Columns.{cell, home_column, kind_column, datum_column, count_column, operand_column, number_column}
use Rattle.form_rows.specs.From.{from, from_same}
use Rattle.form_rows.specs.Forms.{nf_at, made, kid_at, kids_in, Home, FormAt, Formed}

module _ (ns ps before after : List ℕ) (m : ℕ) (f : Formed ns ps before m) (size : length after ≡ length before)
    (kept : (q j : ℕ) → home_column ≤ q → q < number_column → j < m → cell after q j ≡ cell before q j) where
  pub kept_home : {h : ℕ} → h < m → Home ns ps before h → Home ns ps after h
  kept_home {h} l g = record { inside = g.inside; marked = g.marked; own = kept home_column h (omega arith) (omega arith) l ∙ g.own }

  pub home_before : {h : ℕ} → h < m → Home ns ps after h → Home ns ps before h
  home_before {h} l g = record { inside = g.inside; marked = g.marked; own = sym (kept home_column h (omega arith) (omega arith) l) ∙ g.own }

  pub kept_kid : (h j : ℕ) → h < m → FormAt ns ps before h → j < cell before count_column h → kid_at ns ps after h j ≡ kid_at ns ps before h j
  unfolding kid_at
  kept_kid h j l g small = rw (kept kind_column h (omega arith) (omega arith) l) (go (eqb (cell before kind_column h) lut_word) refl)
    where
      go : (b : Bool) → eqb (cell before kind_column h) lut_word ≡ b
          → cond b (cell after (operand_column + j) h) (cell after home_column (get_or (children_at ns ps h) j 0))
          ≡ cond b (cell before (operand_column + j) h) (cell before home_column (get_or (children_at ns ps h) j 0))
      go true e = kept (operand_column + j) h (omega arith) (omega (arith, g.operands (eqb-true (cell before kind_column h) lut_word e))) l
      go false e =
          let there : j < length (children_at ns ps h) = omega (arith, g.given (eqb-false (cell before kind_column h) lut_word e)) in
          let low : get_or (children_at ns ps h) j 0 < h = (f.sound.0 h (omega (arith, f.within))).2 j there in
          kept home_column (get_or (children_at ns ps h) j 0) (omega arith) (omega arith) (omega arith)

  kept_form : (h : ℕ) → h < m → FormAt ns ps before h → FormAt ns ps after h
  kept_form h l g =
      let kind : cell after kind_column h ≡ cell before kind_column h = kept kind_column h (omega arith) (omega arith) l in
      let datum : cell after datum_column h ≡ cell before datum_column h = kept datum_column h (omega arith) (omega arith) l in
      let count : cell after count_column h ≡ cell before count_column h = kept count_column h (omega arith) (omega arith) l in
      let kids : kids_in ns ps after h ≡ kids_in ns ps before h =
      ap (from (kid_at ns ps after h) 0) count
      ∙ from_same (kid_at ns ps after h) (kid_at ns ps before h) 0 (cell before count_column h) (λ i k. rw (zero-add i) (kept_kid h i l g k)) in
      record {
        known = rw kind g.known;
        bit = rw (kind, datum) g.bit;
        few = rw count g.few;
        leaf = rw (kind, count) g.leaf;
        operands = rw (kind, count) g.operands;
        given = rw (kind, count) g.given;
        tree = g.tree ∙ ap₂ (λ (k d : ℕ). made k d (forest (nf_at ns ps) (kids_in ns ps before h))) (sym kind) (sym datum)
            ∙ ap (λ (is : List ℕ). made (cell after kind_column h) (cell after datum_column h) (forest (nf_at ns ps) is)) (sym kids);
        kids = λ j k.
            let small : j < cell before count_column h = omega (arith, count) in
            let one = g.kids j small in
            let is : kid_at ns ps before h j ≡ kid_at ns ps after h j = sym (kept_kid h j l g small) in
            (subst (λ (x : ℕ). x < h) is one.0, subst (λ (x : ℕ). Home ns ps after x) is (kept_home (omega (arith, one.0)) one.1));
      }

  pub formed_kept : Formed ns ps after m
  formed_kept = record {
    sound = f.sound;
    room = rw size f.room;
    within = f.within;
    homes = λ i l marked.
        let g = f.homes i l marked in
        let is : cell before home_column i ≡ cell after home_column i = sym (kept home_column i (omega arith) (omega arith) l) in
        record {
          below = rw (← is) g.below;
          home = subst (λ (h : ℕ). Home ns ps after h) is (kept_home (omega (arith, g.below)) g.home);
          same = g.same ∙ ap (nf_at ns ps) is;
        };
    forms = λ h l g. kept_form h l (f.forms h l (home_before l g));
  }
