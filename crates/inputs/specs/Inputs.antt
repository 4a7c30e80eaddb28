-- "the variables below the first root", lowest number first: what the nodes of a list past number 8 tell of them, and what
-- callers may rely on.
use Rattle.std.specs.Prelude.{ℕ, zero, suc, ◌+◌, ◌≤◌, ◌<◌, ◌≡◌, refl, List, Bool, true, false, cond, ◌&&◌, length, get_or, take, set, ltb, eqb}
use Rattle.std.specs.List.{list_any, range_with_len}
use Rattle.std.proofs.Math.Decide.{dec_lt}
use Rattle.std.proofs.lemmas.List.{take-set-le}
use Rattle.std.proofs.Common.{sym, ap, ⊎_elim, ◌∙◌, append-nil, arith, add-one, length-take-le, take-suc-set, eqb-true, eq-eqb, ltb-true, lt-ltb}
use Rattle.meaning.specs.Rules.Limits.{variable_count}
use Rattle.meaning.specs.Rules.Kinds.{variable_word}
use Rattle.meaning.specs.Rules.Trees.{Tree, node_count, kind_at, first_at, datum_at, root_of}
use Rattle.meaning.specs.Rules.Layout.{children_below}
use Rattle.meaning.specs.Rules.Reach.{mark_of, reachable}
use Rattle.meaning.specs.Rules.Assignments.{occurs, select, inputs}
use Rattle.meaning.specs.Claims.Column.{Sound}
use Rattle.meaning.proofs.Laws.BoolLaws.{true_false, and_left, and_right, and_both, not_true, or_cases, or_left_false, or_right_false}
use Rattle.meaning.proofs.Laws.InputLaws.{IsInput, inputs_reachable}
use Rattle.meaning.proofs.Laws.AssignmentLaws.{in_select}
use Rattle.lists.specs.Scan.{some_at}
use Rattle.lists.specs.Laid.{children_below_lem}

-- node i is the variable v, and the root reaches it
abbrev pub is_input : List ℕ → List ℕ → ℕ → ℕ → Bool
is_input ns ps v i = eqb (kind_at ns i) variable_word && (eqb (first_at ns i) v && reachable ns ps i)

-- ---- a test of the n numbers from `from` on
any_at : (p : ℕ → Bool) (n from : ℕ) → list_any p (range_with_len from n) ≡ true → (i : ℕ) × (i < from + n) × (p i ≡ true)
any_at p zero from h = absurd (true_false h refl)
any_at p (suc n) from h =
    ⊎_elim (λ e. (from, omega arith, e)) (λ e. let later = any_at p n (from + 1) e in (later.0, omega (arith, later.1), later.2))
    (or_cases (p from) (list_any p (range_with_len (from + 1) n)) h)

no_one : (p : ℕ → Bool) (n from : ℕ) → list_any p (range_with_len from n) ≡ false → (i : ℕ) → from ≤ i → i < from + n → p i ≡ false
no_one p zero from h i a b = absurd (omega arith)
no_one p (suc n) from h i a b = elim (dec_lt from i) [
  | yes l ↦ no_one p n (from + 1) (or_right_false (p from) (list_any p (range_with_len (from + 1) n)) h) i (omega arith) (omega arith)
  | no l ↦ let e : i ≡ from = omega arith in rw e (or_left_false (p from) (list_any p (range_with_len (from + 1) n)) h)
]

-- ---- one variable: it occurs below the root exactly if some node is it
module _ (ns ps : List ℕ) (sound : Sound ns ps) (v : ℕ) where
  below : (i : ℕ) → i < node_count ns → children_below ns ps i ≡ true
  below i h = children_below_lem ns ps i (sound.0 i h)

  -- "Var: first is its number"
  number_is : (i : ℕ) → kind_at ns i ≡ variable_word → datum_at ns i ≡ first_at ns i
  unfolding datum_at
  number_is i e = rw e

  pub input_found : (i : ℕ) → i < node_count ns → is_input ns ps v i ≡ true → occurs v (root_of ns ps) ≡ true
  input_found i h e =
      let rest : (eqb (first_at ns i) v && reachable ns ps i) ≡ true = and_right (eqb (kind_at ns i) variable_word) (eqb (first_at ns i) v && reachable ns ps i) e in
      let kind : kind_at ns i ≡ variable_word = eqb-true (kind_at ns i) variable_word (and_left (eqb (kind_at ns i) variable_word) (eqb (first_at ns i) v && reachable ns ps i) e) in
      (inputs_reachable ns ps below v sound.1.1.0).1 (
        i,
        record {
          small = h;
          marked = ltb-true 0 (mark_of ns ps i) (and_right (eqb (first_at ns i) v) (reachable ns ps i) rest);
          kind = kind;
          number = number_is i kind ∙ eqb-true (first_at ns i) v (and_left (eqb (first_at ns i) v) (reachable ns ps i) rest);
        },
      )

  is_input_lem : (i : ℕ) → IsInput ns ps below v i → is_input ns ps v i ≡ true
  is_input_lem i g =
      let first : eqb (first_at ns i) v ≡ true = eq-eqb (first_at ns i) v (sym (number_is i g.kind) ∙ g.number) in
      and_both (eqb (kind_at ns i) variable_word) (eqb (first_at ns i) v && reachable ns ps i) (eq-eqb (kind_at ns i) variable_word g.kind)
      (and_both (eqb (first_at ns i) v) (reachable ns ps i) first (lt-ltb 0 (mark_of ns ps i) g.marked))

  pub input_none : ((i : ℕ) → i < node_count ns → is_input ns ps v i ≡ false) → occurs v (root_of ns ps) ≡ false
  input_none none =
      not_true (occurs v (root_of ns ps)) (λ o.
      let found = (inputs_reachable ns ps below v sound.1.1.0).0 o in
      true_false (is_input_lem found.0 found.1) (none found.0 found.1.small))

  -- every node is asked, in order
  pub any_input : list_any (is_input ns ps v) (range_with_len 0 (node_count ns)) ≡ occurs v (root_of ns ps)
  any_input = told (list_any (is_input ns ps v) (range_with_len 0 (node_count ns))) refl
    where
      told : (b : Bool) → list_any (is_input ns ps v) (range_with_len 0 (node_count ns)) ≡ b → b ≡ occurs v (root_of ns ps)
      told true h = let found = any_at (is_input ns ps v) (node_count ns) 0 h in sym (input_found found.0 (omega (arith, found.1)) found.2)
      told false h = sym (input_none (λ i l. no_one (is_input ns ps v) (node_count ns) 0 h i (omega arith) (omega arith)))

-- ---- all of them: a variable is stored behind those found so far, and stays there if it is one
keep_yes : (p : ℕ → Bool) (vs : List ℕ) (count v : ℕ) → count < length vs → p v ≡ true → take count vs ≡ select p v
    → take (suc count) (set vs count v) ≡ select p (suc v)
keep_yes p vs count v h e kept = take-suc-set vs count v h ∙ rw (kept, e)

keep_no : (p : ℕ → Bool) (vs : List ℕ) (count v : ℕ) → p v ≡ false → take count vs ≡ select p v
    → take count (set vs count v) ≡ select p (suc v)
keep_no p vs count v e kept = take-set-le count vs count v (omega arith) ∙ kept ∙ rw e (sym (append-nil (select p v)))

-- one turn of the loop: r variables are found now
module _ (found : Bool) (count v r : ℕ) (counted : r ≡ cond found (count + 1) count) where
  pub keep_turn : (p : ℕ → Bool) (vs vs' : List ℕ) → found ≡ p v → count < length vs → vs' ≡ set vs count v → take count vs ≡ select p v
      → take r vs' ≡ select p (v + 1)
  keep_turn p vs vs' told h stored kept = rw (counted, stored, add-one v) (go found told)
    where
      go : (b : Bool) → b ≡ p v → take (cond b (count + 1) count) (set vs count v) ≡ select p (suc v)
      go true e = rw (add-one count) (keep_yes p vs count v h (sym e) kept)
      go false e = keep_no p vs count v (sym e) kept

pub all_tried : (t : Tree) (n : ℕ) → n ≡ variable_count → select (λ v. occurs v t) n ≡ inputs t
unfolding inputs
all_tried t n e = ap (select (λ v. occurs v t)) e

-- so many are found: no second count meets the promise of `get_input_set`
pub count_is : (t : Tree) (vs : List ℕ) (r : ℕ) → r ≤ length vs → take r vs ≡ inputs t → length (inputs t) ≡ r
count_is t vs r h e = sym (ap length e) ∙ length-take-le r vs h

-- ---- "its number 0 to 255": each of the variables is below n
abbrev pub AllBelow : ℕ → List ℕ → Type 0
AllBelow n vs = (j : ℕ) → j < length vs → get_or vs j 0 < n

pub selected_below : (p : ℕ → Bool) (n : ℕ) → AllBelow n (select p n)
selected_below p n j h =
    let v : ℕ = get_or (select p n) j 0 in
    ltb-true v n (and_left (ltb v n) (p v) (sym (in_select p n v) ∙ some_at (select p n) j h))

all_below : (t : Tree) → AllBelow variable_count (inputs t)
unfolding inputs
all_below t = selected_below (λ v. occurs v t) variable_count

pub inputs_below : (t : Tree) (vs : List ℕ) (n : ℕ) → vs ≡ inputs t → n ≡ variable_count → AllBelow n vs
inputs_below t vs n e size = rw (e, size) (all_below t)
