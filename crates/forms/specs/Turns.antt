-- Normal forms are written node by node: at node i's turn those below it stand, its own row is filled, and everything else
-- stays as it is.
use Rattle.std.specs.Prelude.{ℕ, ◌+◌, ◌≤◌, ◌<◌, ◌≡◌, List, length, set}
use Rattle.std.proofs.Common.{sym, ap, subst, ◌∙◌, arith, length-set, get_or-set_same, get_or-set_other}
use Rattle.std.proofs.Math.Decide.{ℕ_discrete}
use Rattle.meaning.specs.Rules.Limits.{work_per_node}
use Rattle.meaning.specs.Rules.Trees.{node_count}
use Rattle.meaning.specs.Rules.Reach.{mark_of}
use Rattle.columns.specs.Columns.{place, cell, mark_column, home_column, number_column}
use Rattle.form_rows.specs.Kept.{formed_kept}
use Rattle.form_rows.specs.Forms.{nf_at, Home, FormAt, HomeOf, Formed}

-- all is as before but the form in row i
pub record Beside (before after : List ℕ) (i : ℕ) : Type 0 where
  pub size : length after ≡ length before
  pub same : (q j : ℕ) → q < work_per_node → (j ≡ i → home_column ≤ q → q < number_column → ⊥) → cell after q j ≡ cell before q j

pub beside_set : (work : List ℕ) (i p v : ℕ) → home_column ≤ p → p < number_column → Beside work (set work (place p i) v) i
beside_set work i p v l h = record {
  size = length-set work (place p i) v;
  same = λ q j hq apart. get_or-set_other work (place p i) (place q j) v 0 (λ e. absurd (apart (omega arith) (omega arith) (omega arith)));
}

pub beside_then : {a b c : List ℕ} {i : ℕ} → Beside a b i → Beside b c i → Beside a c i
beside_then f g = record { size = g.size ∙ f.size; same = λ q j hq apart. g.same q j hq apart ∙ f.same q j hq apart }

-- ---- node i's row when its turn is over
pub data Done (ns ps work : List ℕ) (i : ℕ) : Type 0 where
  unreached : mark_of ns ps i ≡ 0 → Done ns ps work i
  own : cell work home_column i ≡ i → FormAt ns ps work i → Done ns ps work i
  other : cell work home_column i < i → HomeOf ns ps work i → Done ns ps work i

pub formed_next : {ns ps work : List ℕ} {i : ℕ} → Formed ns ps work i → i < node_count ns → Done ns ps work i → Formed ns ps work (i + 1)
formed_next {ns} {ps} {work} {i} f inside d = record {
  sound = f.sound;
  room = f.room;
  within = omega arith;
  homes = λ j l marked. elim (ℕ_discrete j i) [
    | yes e ↦ subst (λ (x : ℕ). HomeOf ns ps work x) (sym e) (home_here d (subst (λ (x : ℕ). 0 < mark_of ns ps x) e marked))
    | no e ↦ f.homes j (omega arith) marked
  ];
  forms = λ h l g. elim (ℕ_discrete h i) [
    | yes e ↦ subst (λ (x : ℕ). FormAt ns ps work x) (sym e) (form_here d (subst (λ (x : ℕ). Home ns ps work x) e g))
    | no e ↦ f.forms h (omega arith) g
  ];
}
  where
    home_here : Done ns ps work i → 0 < mark_of ns ps i → HomeOf ns ps work i
    home_here (unreached e) marked = absurd (omega arith)
    home_here (own e g) marked = record {
      below = omega arith;
      home = record { inside = rw e inside; marked = rw e marked; own = rw e e };
      same = ap (nf_at ns ps) (sym e);
    }
    home_here (other l g) marked = g

    form_here : Done ns ps work i → Home ns ps work i → FormAt ns ps work i
    form_here (unreached e) g = absurd (omega (arith, g.marked))
    form_here (own e form) g = form
    form_here (other l form) g = absurd (omega (arith, g.own))

-- ---- at node i's turn
pub record Turn (ns ps work : List ℕ) (i : ℕ) : Type 0 where
  pub formed : Formed ns ps work i
  pub inside : i < node_count ns
  pub mark : cell work mark_column i ≡ mark_of ns ps i

-- as the pass goes
pub record Passed (ns ps work : List ℕ) (i : ℕ) : Type 0 where
  pub formed : Formed ns ps work i
  pub marks : (j : ℕ) → j < node_count ns → cell work mark_column j ≡ mark_of ns ps j
  pub numbers : (j : ℕ) → j < i → cell work number_column j ≡ 0

module _ {ns ps work : List ℕ} {i : ℕ} (p : Passed ns ps work i) (inside : i < node_count ns) where
  abbrev numbered : List ℕ
  numbered = set work (place number_column i) 0

  number_apart : (q j : ℕ) → q < work_per_node → (j ≡ i → q ≡ number_column → ⊥) → cell numbered q j ≡ cell work q j
  number_apart q j hq apart = get_or-set_other work (place number_column i) (place q j) 0 0 (λ e. apart (omega arith) (omega arith))

  pub passed_turn : Turn ns ps numbered i
  passed_turn = record {
    formed = formed_kept ns ps work numbered i p.formed (length-set work (place number_column i) 0) (λ q j l h below. number_apart q j (omega arith) (λ e k. absurd (omega arith)));
    inside = inside;
    mark = number_apart mark_column i (omega arith) (λ e k. absurd (omega arith)) ∙ p.marks i inside;
  }

  pub passed_next : {after : List ℕ} → Beside numbered after i → Done ns ps after i → Passed ns ps after (i + 1)
  passed_next {after} b d = record {
    formed = formed_next (formed_kept ns ps numbered after i passed_turn.formed b.size (λ q j l h below. b.same q j (omega arith) (λ e. absurd (omega arith)))) inside d;
    marks = λ j l.
        b.same mark_column j (omega arith) (λ e k. absurd (omega arith))
        ∙ number_apart mark_column j (omega arith) (λ e k. absurd (omega arith)) ∙ p.marks j l;
    numbers = λ j l. b.same number_column j (omega arith) (λ e k h. absurd (omega arith)) ∙ number j l;
  }
    where
      number : (j : ℕ) → j < i + 1 → cell numbered number_column j ≡ 0
      number j l = elim (ℕ_discrete j i) [
        | yes e ↦ rw e (get_or-set_same work (place number_column i) 0 0 (omega (arith, p.formed.room)))
        | no e ↦ number_apart number_column j (omega arith) (λ k. absurd (e k)) ∙ p.numbers j (omega arith)
      ]
