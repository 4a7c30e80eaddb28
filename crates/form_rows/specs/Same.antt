-- The forms stay as they are whatever is written in the columns in front of them and behind them.
use Rattle.std.specs.Prelude.{ℕ, ◌≤◌, ◌<◌, ◌≡◌, refl, ◌⊎◌, List, length, set}
use Rattle.std.proofs.Common.{◌∙◌, ⊎_elim, arith, get_or-set_other}
use Rattle.meaning.specs.Rules.Limits.{work_per_node}
use Rattle.meaning.specs.Rules.Trees.{node_count}
use Rattle.columns.specs.Columns.{place, cell, home_column, count_column, number_column}
use Rattle.form_rows.specs.Kept.{formed_kept, kept_home, kept_kid}
use Rattle.form_rows.specs.Forms.{Home, Formed, kid_at}

-- the columns of the forms, from HOME to the last of OPERAND, hold the same
pub record SameForms (before after : List ℕ) : Type 0 where
  pub at : (q i : ℕ) → home_column ≤ q → q < number_column → cell after q i ≡ cell before q i

pub same_own : (work : List ℕ) → SameForms work work
same_own work = record { at = λ q i l h. refl }

pub same_then : {a b c : List ℕ} → SameForms a b → SameForms b c → SameForms a c
same_then f g = record { at = λ q i l h. g.at q i l h ∙ f.at q i l h }

-- a store in another column
pub same_set : (work : List ℕ) (p row v : ℕ) → p < work_per_node → (p < home_column) ⊎ (number_column ≤ p)
    → SameForms work (set work (place p row) v)
same_set work p row v hp beside = record { at = kept }
  where
    kept : (q i : ℕ) → home_column ≤ q → q < number_column → cell (set work (place p row) v) q i ≡ cell work q i
    kept q i l h =
        ⊎_elim (λ b. get_or-set_other work (place p row) (place q i) v 0 (λ e. absurd (omega arith)))
        (λ b. get_or-set_other work (place p row) (place q i) v 0 (λ e. absurd (omega arith))) beside

-- ---- so the forms stay
module _ {before after : List ℕ} (same : SameForms before after) {ns ps : List ℕ} (f : Formed ns ps before (node_count ns))
    (size : length after ≡ length before) where
  kept : (q j : ℕ) → home_column ≤ q → q < number_column → j < node_count ns → cell after q j ≡ cell before q j
  kept q j l h inside = same.at q j l h

  pub formed_same : Formed ns ps after (node_count ns)
  formed_same = formed_kept ns ps before after (node_count ns) f size kept

  pub same_home : {h : ℕ} → Home ns ps before h → Home ns ps after h
  same_home g = kept_home ns ps before after (node_count ns) f size kept g.inside g

  pub same_kid : (h j : ℕ) → Home ns ps before h → j < cell before count_column h → kid_at ns ps after h j ≡ kid_at ns ps before h j
  same_kid h j g l = kept_kid ns ps before after (node_count ns) f size kept h j g.inside (f.forms h g.inside g) l
