-- The canonicaliser's call, way by way: what is answered, and what the work space and the outputs hold.
use Rattle.std.specs.Prelude.{ℕ, ◌*◌, ◌≤◌, ◌≡◌, ◌≢◌, Bool, true, false, cond, ◌&&◌, length, leb, Ok, Err}
use Rattle.std.proofs.Math.Path.{refl, ap, ap₂, subst}
use Rattle.std.proofs.Common.{sym, ◌∙◌, arith, eq-eqb, ne_eqb, eqb-true, leb-true}
use mathlib.Core.List.{List, [], ◌∷◌}
use Rattle.meaning.specs.declared.Refusal.{Refusal}
use Rattle.meaning.specs.Rules.Calls.{Canonical}
use Rattle.meaning.specs.Rules.Limits.{words_per_node, most_nodes, most_pool}
use Rattle.meaning.specs.Rules.Numbers.{short_output}
use Rattle.meaning.specs.Rules.Trees.{node_count}
use Rattle.meaning.specs.Rules.Lent.{cleared, output_after}
use Rattle.meaning.specs.Rules.Refusals.{is_done, asked, require, ◌then◌, work_after}
use Rattle.meaning.specs.Rules.Refusals as refusals
use Rattle.meaning.specs.Rules.Layout.{sizes, work_for, room}
use Rattle.meaning.specs.Rules.Evaluable.{sound}
use Rattle.meaning.specs.Rules.Canonical.{gates, canonical_nodes, canonical_pool}
use Rattle.meaning.specs.Rules.Calls.{Canonicalised, fits_lists, canonical_refusal, canonicalised, canonical, canonical_result, canonicalise}
use Rattle.meaning.specs.Claims.Terms.{Says}
use Rattle.meaning.proofs.Laws.BoolLaws.{and_left, and_right}
use Rattle.meaning.proofs.Laws.RefusalLaws.{refused_output, work_cleared, then_rest, with_done, with_refused, done_of_ok, refused_of_err, found_of_ok, asked_is}
use Rattle.meaning.proofs.Laws.NumberLaws.{require_says, require_passed, then_go, then_stop, then_joined, then_says, never}
use Rattle.meaning.proofs.Laws.ColumnLaws.{sound_says, gates_says}
use Rattle.sizes.specs.Lent.{lent_row, lent_room, lent_keeps}
use Rattle.columns.specs.ColumnLaws.{cleared_alike}
use Rattle.meaning.specs.declared.Canonical as code

-- a refusal: "other fields zero"
abbrev pub refused_with : Refusal → Canonical
refused_with r = record { refusal = r; nodes = 0; pool = 0 }

-- 3 to 8 and 14
abbrev pub accepted_row : List ℕ → List ℕ → Refusal
accepted_row ns ps = sound ns ps then gates ns ps

-- 19, for so many words of each output
abbrev pub fit_row : List ℕ → List ℕ → ℕ → ℕ → Refusal
fit_row ns ps out_nodes out_pool = require (fits_lists ns ps out_nodes out_pool) short_output

abbrev pub rest_row : List ℕ → List ℕ → ℕ → ℕ → Refusal
rest_row ns ps out_nodes out_pool = accepted_row ns ps then fit_row ns ps out_nodes out_pool

-- the same by counts: so many nodes and pool entries
unfoldable pub fit_words : ℕ → ℕ → ℕ → ℕ → Bool
fit_words count entries out_nodes out_pool =
    leb (count * words_per_node) out_nodes && leb entries out_pool && leb count most_nodes && leb entries most_pool

-- ---- what a row leaves to be answered and written
abbrev pub list_answer : List ℕ → List ℕ → ℕ → ℕ → Canonical
list_answer ns ps out_nodes out_pool = canonical (fit_row ns ps out_nodes out_pool) ns ps

abbrev pub list_nodes : List ℕ → List ℕ → List ℕ → ℕ → List ℕ
list_nodes ns ps out_nodes out_pool = output_after (is_done (fit_row ns ps (length out_nodes) out_pool)) (canonical_nodes ns ps) out_nodes

abbrev pub list_pool : List ℕ → List ℕ → ℕ → List ℕ → List ℕ
list_pool ns ps out_nodes out_pool = output_after (is_done (fit_row ns ps out_nodes (length out_pool))) (canonical_pool ns ps) out_pool

abbrev pub rest_answer : List ℕ → List ℕ → ℕ → ℕ → Canonical
rest_answer ns ps out_nodes out_pool = canonical (rest_row ns ps out_nodes out_pool) ns ps

abbrev pub rest_nodes : List ℕ → List ℕ → List ℕ → ℕ → List ℕ
rest_nodes ns ps out_nodes out_pool = output_after (is_done (rest_row ns ps (length out_nodes) out_pool)) (canonical_nodes ns ps) out_nodes

abbrev pub rest_pool : List ℕ → List ℕ → ℕ → List ℕ → List ℕ
rest_pool ns ps out_nodes out_pool = output_after (is_done (rest_row ns ps out_nodes (length out_pool))) (canonical_pool ns ps) out_pool

module _ (ns ps : List ℕ) where
  pub canonical_refused : (r : Refusal) → r.number ≢ 0 → refused_with r ≡ canonical r ns ps
  unfolding canonical
  canonical_refused r h = rw (ne_eqb r.number 0 h)

  pub canonical_done : (r : Refusal) (n p : ℕ) → r.number ≡ 0 → n ≡ length (canonical_nodes ns ps) → p ≡ length (canonical_pool ns ps)
      → record { refusal = r; nodes = n; pool = p } ≡ canonical r ns ps
  unfolding canonical
  canonical_done r n p h e f = rw (eq-eqb r.number 0 h, e, f)

  -- 19 lets pass what fits
  pub row_fits : (out_nodes out_pool : ℕ) → (fit_row ns ps out_nodes out_pool).number ≡ 0 → fits_lists ns ps out_nodes out_pool ≡ true
  row_fits out_nodes out_pool =
      (require_passed (fits_lists ns ps out_nodes out_pool) 18 {P = fits_lists ns ps out_nodes out_pool ≡ true} ((λ e. e), (λ e. e))).when.0

  -- ---- past 14 the rest is 19
  pub rest_accepted : (out_nodes out_pool : ℕ) → (accepted_row ns ps).number ≡ 0 → fit_row ns ps out_nodes out_pool ≡ rest_row ns ps out_nodes out_pool
  rest_accepted out_nodes out_pool h = sym (then_go (accepted_row ns ps) (fit_row ns ps out_nodes out_pool) h)

  pub rest_refused : (out_nodes out_pool : ℕ) → (accepted_row ns ps).number ≢ 0 → accepted_row ns ps ≡ rest_row ns ps out_nodes out_pool
  rest_refused out_nodes out_pool h = sym (then_stop (accepted_row ns ps) (fit_row ns ps out_nodes out_pool) h)

  -- ---- the same of what the code answers: a row that refuses
  stops : (r : Refusal) (e : Refusal) → refusals.answered r ≡ Err e → Err e ≡ canonical_result (canonical r ns ps)
  stops r e stop =
      let refused = refused_of_err r e stop in
      ap Err (sym refused.0) ∙ sym (with_refused r (record { nodes = 0; pool = 0 }) refused.1) ∙ ap canonical_result (canonical_refused r refused.1)

  -- 3 to 8 or 14 refuses
  module _ (e : Refusal) (stop : refusals.answered (accepted_row ns ps) ≡ Err e) where
    pub row_stops : (out_nodes out_pool : ℕ) → Err e ≡ canonical_result (rest_answer ns ps out_nodes out_pool)
    row_stops out_nodes out_pool = stops (accepted_row ns ps) e stop ∙ ap (λ (r : Refusal). canonical_result (canonical r ns ps)) (rest_refused out_nodes out_pool (refused_of_err (accepted_row ns ps) e stop).1)

    row_keeps : (words old : List ℕ) (out_nodes out_pool : ℕ) → old ≡ output_after (is_done (rest_row ns ps out_nodes out_pool)) words old
    row_keeps words old out_nodes out_pool =
        let refused = (refused_of_err (accepted_row ns ps) e stop).1 in
        sym (refused_output (rest_row ns ps out_nodes out_pool) words old (rw (sym (rest_refused out_nodes out_pool refused)) refused))

    pub row_nodes : (out_nodes : List ℕ) (out_pool : ℕ) → out_nodes ≡ rest_nodes ns ps out_nodes out_pool
    row_nodes out_nodes out_pool = row_keeps (canonical_nodes ns ps) out_nodes (length out_nodes) out_pool

    pub row_pool : (out_nodes : ℕ) (out_pool : List ℕ) → out_pool ≡ rest_pool ns ps out_nodes out_pool
    row_pool out_nodes out_pool = row_keeps (canonical_pool ns ps) out_pool out_nodes (length out_pool)

  -- past 14 the list answers
  module _ (go : refusals.answered (accepted_row ns ps) ≡ Ok tt) where
    rest_is : (out_nodes out_pool : ℕ) → fit_row ns ps out_nodes out_pool ≡ rest_row ns ps out_nodes out_pool
    rest_is out_nodes out_pool = rest_accepted out_nodes out_pool (done_of_ok (accepted_row ns ps) go)

    pub list_answers : (out_nodes out_pool : ℕ) → canonical_result (list_answer ns ps out_nodes out_pool) ≡ canonical_result (rest_answer ns ps out_nodes out_pool)
    list_answers out_nodes out_pool = ap (λ (r : Refusal). canonical_result (canonical r ns ps)) (rest_is out_nodes out_pool)

    pub list_nodes_out : (out_nodes : List ℕ) (out_pool : ℕ) → list_nodes ns ps out_nodes out_pool ≡ rest_nodes ns ps out_nodes out_pool
    list_nodes_out out_nodes out_pool = ap (λ (r : Refusal). output_after (is_done r) (canonical_nodes ns ps) out_nodes) (rest_is (length out_nodes) out_pool)

    pub list_pool_out : (out_nodes : ℕ) (out_pool : List ℕ) → list_pool ns ps out_nodes out_pool ≡ rest_pool ns ps out_nodes out_pool
    list_pool_out out_nodes out_pool = ap (λ (r : Refusal). output_after (is_done r) (canonical_pool ns ps) out_pool) (rest_is out_nodes (length out_pool))

  -- 19, which the code asks by counts
  module _ (out_nodes out_pool : ℕ) (fit : Bool) (same : fit ≡ fits_lists ns ps out_nodes out_pool) where
    fit_is : asked fit short_output ≡ refusals.answered (fit_row ns ps out_nodes out_pool)
    fit_is = asked_is fit 18 ∙ ap (λ (b : Bool). refusals.answered (require b short_output)) same

    pub fit_stops : (e : Refusal) → asked fit short_output ≡ Err e → Err e ≡ canonical_result (list_answer ns ps out_nodes out_pool)
    fit_stops e stop = stops (fit_row ns ps out_nodes out_pool) e (sym fit_is ∙ stop)

    pub fit_keeps : (e : Refusal) → asked fit short_output ≡ Err e → (words old : List ℕ) → old ≡ output_after (is_done (fit_row ns ps out_nodes out_pool)) words old
    fit_keeps e stop words old = sym (refused_output (fit_row ns ps out_nodes out_pool) words old (refused_of_err (fit_row ns ps out_nodes out_pool) e (sym fit_is ∙ stop)).1)

    pub fit_done : asked fit short_output ≡ Ok tt → (fit_row ns ps out_nodes out_pool).number ≡ 0
    fit_done go = done_of_ok (fit_row ns ps out_nodes out_pool) (sym fit_is ∙ go)

    pub fit_answers : asked fit short_output ≡ Ok tt → (n p : ℕ) → n ≡ length (canonical_nodes ns ps) → p ≡ length (canonical_pool ns ps)
        → Ok (record { nodes = n; pool = p }) ≡ canonical_result (list_answer ns ps out_nodes out_pool)
    fit_answers go n p e f =
        let row : Refusal = fit_row ns ps out_nodes out_pool in
        sym (with_done row (record { nodes = n; pool = p }) (fit_done go)) ∙ ap canonical_result (canonical_done row n p (fit_done go) e f)

  -- ---- the call
  module _ (work out_nodes out_pool : List ℕ) where
    abbrev lent : Refusal
    lent = lent_row ns ps (length work)

    abbrev rest : Refusal
    rest = rest_row ns ps (length out_nodes) (length out_pool)

    row : (lent then rest) ≡ canonical_refusal ns ps (length work) (length out_nodes) (length out_pool)
    unfolding canonical_refusal
    row =
        then_joined (sizes ns ps) (room (work_for ns ps) (length work)) rest
        ∙ ap (λ (r : Refusal). sizes ns ps then room (work_for ns ps) (length work) then r) (then_joined (sound ns ps) (gates ns ps) (fit_row ns ps (length out_nodes) (length out_pool)))

    outcome : (r : Refusal) (c : Canonical) (left nodes pool : List ℕ) → r ≡ (lent then rest) → c ≡ canonical r ns ps → left ≡ work_after r work
        → nodes ≡ output_after (is_done r) (canonical_nodes ns ps) out_nodes → pool ≡ output_after (is_done r) (canonical_pool ns ps) out_pool
        → canonicalised c left nodes pool ≡ canonicalise ns ps work out_nodes out_pool
    unfolding canonicalise
    outcome r c left nodes pool is f g h i =
        let whole : r ≡ canonical_refusal ns ps (length work) (length out_nodes) (length out_pool) = is ∙ row in
        ap₂ (λ (x : Canonical) (w : List ℕ). canonicalised x w nodes pool) (f ∙ ap (λ (x : Refusal). canonical x ns ps) whole) (g ∙ ap (λ (x : Refusal). work_after x work) whole)
        ∙ ap₂ (λ (n p : List ℕ). canonicalised (canonical (canonical_refusal ns ps (length work) (length out_nodes) (length out_pool)) ns ps) (work_after (canonical_refusal ns ps (length work) (length out_nodes) (length out_pool)) work) n p)
        (h ∙ ap (λ (x : Refusal). output_after (is_done x) (canonical_nodes ns ps) out_nodes) whole)
        (i ∙ ap (λ (x : Refusal). output_after (is_done x) (canonical_pool ns ps) out_pool) whole)

    -- 1, 2 or 10 refuses
    pub refused_lent : lent.number ≢ 0 → canonicalised (refused_with lent) work out_nodes out_pool ≡ canonicalise ns ps work out_nodes out_pool
    refused_lent h =
        outcome lent (refused_with lent) work out_nodes out_pool (sym (then_stop lent rest h)) (canonical_refused lent h) (sym (lent_keeps ns ps work h))
        (sym (refused_output lent (canonical_nodes ns ps) out_nodes h)) (sym (refused_output lent (canonical_pool ns ps) out_pool h))

    -- the rest of the row answers
    pub answered : lent.number ≡ 0
        → canonicalised (canonical rest ns ps) (cleared work) (output_after (is_done rest) (canonical_nodes ns ps) out_nodes) (output_after (is_done rest) (canonical_pool ns ps) out_pool)
        ≡ canonicalise ns ps work out_nodes out_pool
    unfolding cleared
    answered h =
        outcome rest (canonical rest ns ps) (cleared work) (output_after (is_done rest) (canonical_nodes ns ps) out_nodes)
        (output_after (is_done rest) (canonical_pool ns ps) out_pool) (sym (then_go lent rest h)) refl (sym swept) refl refl
      where
        says : Says rest (3 ∷ 4 ∷ 5 ∷ 6 ∷ 7 ∷ 8 ∷ 14 ∷ 19 ∷ [])
        says = then_says (then_says (sound_says ns ps) (gates_says ns ps)) (require_says (fits_lists ns ps (length out_nodes) (length out_pool)) short_output)

        swept : work_after rest work ≡ cleared work
        swept = work_cleared rest work (never says 1 refl) (never says 2 refl) (never says 10 refl)

    -- ---- the same of what the code answers
    module _ (e : Refusal) (stop : refusals.answered lent ≡ Err e) where
      stopped : canonicalised (refused_with lent) work out_nodes out_pool ≡ canonicalise ns ps work out_nodes out_pool
      stopped = refused_lent (refused_of_err lent e stop).1

      pub lent_answer : Err e ≡ canonical_result (canonicalise ns ps work out_nodes out_pool).answer
      lent_answer =
          let refused = refused_of_err lent e stop in
          ap Err (sym refused.0) ∙ sym (with_refused lent (record { nodes = 0; pool = 0 }) refused.1) ∙ ap (λ (x : Canonicalised). canonical_result x.answer) stopped

      pub lent_work : work ≡ (canonicalise ns ps work out_nodes out_pool).work
      lent_work = ap (λ (x : Canonicalised). x.work) stopped

      pub lent_nodes : out_nodes ≡ (canonicalise ns ps work out_nodes out_pool).out_nodes
      lent_nodes = ap (λ (x : Canonicalised). x.out_nodes) stopped

      pub lent_pool : out_pool ≡ (canonicalise ns ps work out_nodes out_pool).out_pool
      lent_pool = ap (λ (x : Canonicalised). x.out_pool) stopped

    module _ (go : refusals.answered lent ≡ Ok tt) where
      rest_whole : canonicalised (rest_answer ns ps (length out_nodes) (length out_pool)) (cleared work) (rest_nodes ns ps out_nodes (length out_pool)) (rest_pool ns ps (length out_nodes) out_pool)
          ≡ canonicalise ns ps work out_nodes out_pool
      rest_whole = answered (done_of_ok lent go)

      pub rest_answers : canonical_result (rest_answer ns ps (length out_nodes) (length out_pool)) ≡ canonical_result (canonicalise ns ps work out_nodes out_pool).answer
      rest_answers = ap (λ (x : Canonicalised). canonical_result x.answer) rest_whole

      pub rest_works : cleared work ≡ (canonicalise ns ps work out_nodes out_pool).work
      rest_works = ap (λ (x : Canonicalised). x.work) rest_whole

      pub rest_node_words : rest_nodes ns ps out_nodes (length out_pool) ≡ (canonicalise ns ps work out_nodes out_pool).out_nodes
      rest_node_words = ap (λ (x : Canonicalised). x.out_nodes) rest_whole

      pub rest_pool_words : rest_pool ns ps (length out_nodes) out_pool ≡ (canonicalise ns ps work out_nodes out_pool).out_pool
      rest_pool_words = ap (λ (x : Canonicalised). x.out_pool) rest_whole

-- what the proof of the call rests on
pub ruleset call = (lent_answer, lent_work, lent_nodes, lent_pool, rest_answers, rest_works, rest_node_words, rest_pool_words, lent_room, cleared_alike)

-- ---- how many words are answered: no more than each output has
module _ (ns ps work out_nodes out_pool : List ℕ) (c : Canonical) (left nodes pool : List ℕ)
    (meets : canonicalised c left nodes pool ≡ canonicalise ns ps work out_nodes out_pool) where
  abbrev whole : Refusal
  whole = canonical_refusal ns ps (length work) (length out_nodes) (length out_pool)

  answer : c ≡ canonical whole ns ps
  unfolding canonicalise
  answer = ap (λ (o : Canonicalised). o.answer) meets

  all_fit : is_done whole ≡ true → fits_lists ns ps (length out_nodes) (length out_pool) ≡ true
  unfolding canonical_refusal
  all_fit done =
      let fit : Refusal = fit_row ns ps (length out_nodes) (length out_pool) in
      let one = then_rest (sizes ns ps) (room (work_for ns ps) (length work) then sound ns ps then gates ns ps then fit) done in
      let two = then_rest (room (work_for ns ps) (length work)) (sound ns ps then gates ns ps then fit) one in
      let three = then_rest (sound ns ps) (gates ns ps then fit) two in
      let four = then_rest (gates ns ps) fit three in
      row_fits ns ps (length out_nodes) (length out_pool) (eqb-true fit.number 0 four)

  counted : (b : Bool) → is_done whole ≡ b
      → (cond b (length (canonical_nodes ns ps)) 0 ≤ length out_nodes) × (cond b (length (canonical_pool ns ps)) 0 ≤ length out_pool)
  counted true done =
      let n : ℕ = length (canonical_nodes ns ps) in
      let p : ℕ = length (canonical_pool ns ps) in
      let a : Bool = leb n (length out_nodes) in
      let b : Bool = leb p (length out_pool) in
      let few : Bool = leb (node_count (canonical_nodes ns ps)) most_nodes in
      let both = and_left (a && b) few (and_left (a && b && few) (leb p most_pool) (all_fit done)) in
      (leb-true n (length out_nodes) (and_left a b both), leb-true p (length out_pool) (and_right a b both))
  counted false done = (omega arith, omega arith)

  pub answer_fits : (c.nodes ≤ length out_nodes) × (c.pool ≤ length out_pool)
  unfolding canonical
  answer_fits = rw answer (counted (is_done whole) refl)

-- the same of what the code answers
pub list_fits : (ns ps work out_nodes out_pool : List ℕ) (l : code.Canonical)
    → canonical_result (canonicalise ns ps work out_nodes out_pool).answer ≡ Ok l → (l.nodes ≤ length out_nodes) × (l.pool ≤ length out_pool)
list_fits ns ps work out_nodes out_pool l ok =
    let o = canonicalise ns ps work out_nodes out_pool in
    let fits = answer_fits ns ps work out_nodes out_pool o.answer o.work o.out_nodes o.out_pool refl in
    let told = (found_of_ok o.answer.refusal (record { nodes = o.answer.nodes; pool = o.answer.pool }) l ok).1 in
    subst (λ (x : code.Canonical). (x.nodes ≤ length out_nodes) × (x.pool ≤ length out_pool)) told fits
