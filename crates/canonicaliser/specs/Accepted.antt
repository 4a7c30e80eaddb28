-- A list that 3 to 8 and 14 let pass: what the passes find in the work space, and how many words the list takes.
use Rattle.std.specs.Prelude.{ℕ, ◌*◌, ◌≤◌, ◌≡◌, List, Bool, true, ◌&&◌, length, cond, not, ltb, leb, eqb, Result, Ok, Err, ⊤}
use Rattle.meaning.specs.Rules.Refusals.{answered, asked, numbered, is_done}
use Rattle.std.proofs.Math.Path.{refl, ap₂}
use Rattle.std.proofs.Common.{◌∙◌, sym, ap, arith, eqb-true, eq-eqb, leb-true}
use Rattle.meaning.specs.Rules.Limits.{words_per_node, work_per_node, most_nodes, most_pool}
use Rattle.meaning.specs.Rules.Trees.{node_count, kind_at}
use Rattle.meaning.specs.Rules.Evaluable.{sound}
use Rattle.meaning.specs.Rules.Canonical.{gates, gate_fault, canonical_nodes, canonical_pool}
use Rattle.meaning.specs.Rules.Calls.{fits_lists, canonical_result}
use Rattle.meaning.proofs.Laws.BoolLaws.{and_left, and_right}
use Rattle.meaning.proofs.Laws.RefusalLaws.{then_first, done_of_ok, refused_of_err}
use Rattle.meaning.proofs.Laws.NumberLaws.{then_go, then_stop}
use Rattle.verifier.specs.Left.{sound_work}
use Rattle.marks.specs.Marked.{Marked}
use Rattle.shapes.specs.Shapes.{Shaped, shape_at}
use Rattle.rows.specs.Rows.{Prepared}
use Rattle.pass.specs.Prepared.{sound_prepares}
use Rattle.listed.specs.Listing.{Listing}
use Rattle.list_output.specs.Canonical.{listing_words, listing_size}
use Rattle.list_output.specs.Words.{pool_size}
use Rattle.meaning.specs.declared.Refusal.{Refusal}
use Rattle.meaning.specs.Rules.Numbers.{short_output, wide_gate}
use Rattle.meaning.specs.Rules.Kinds.{kind_of, is_gate}
use Rattle.meaning.specs.Rules.Reach.{mark_of}
use Rattle.meaning.specs.Rules.Lent.{written, output_after}
use Rattle.canonicaliser.specs.Outcome.{accepted_row, fit_row, fit_words, list_answer, row_fits, row_stops, row_nodes, row_pool, list_answers, list_nodes_out, list_pool_out}
use Rattle.canonicaliser.specs.Outcome.{fit_stops, fit_keeps, fit_done, fit_answers}

module _ (ns ps work : List ℕ) (room : work_per_node * node_count ns ≤ length work) where
  -- past 8: what 14 is asked with
  pub ready : (sound ns ps).number ≡ 0 → Marked ns ps 0 (sound_work ns ps 0 work) × Shaped ns ps 0 (sound_work ns ps 0 work)
  ready done =
      let p = sound_prepares ns ps 0 work (omega (arith, room)) done in
      (record { laid = p.sound.0; room = p.room; marks = p.marks }, p.shapes)

  module _ (go : answered (sound ns ps) ≡ Ok tt) where
    pub marks_there : Marked ns ps 0 (sound_work ns ps 0 work)
    marks_there = (ready (done_of_ok (sound ns ps) go)).0

    pub shapes_there : Shaped ns ps 0 (sound_work ns ps 0 work)
    shapes_there = (ready (done_of_ok (sound ns ps) go)).1

    pub gates_answer : answered (gates ns ps) ≡ answered (accepted_row ns ps)
    gates_answer = ap answered (sym (then_go (sound ns ps) (gates ns ps) (done_of_ok (sound ns ps) go)))

  pub sound_stops : (e : Refusal) → answered (sound ns ps) ≡ Err e → Err e ≡ answered (accepted_row ns ps)
  sound_stops e stop =
      sym stop ∙ ap answered (sym (then_stop (sound ns ps) (gates ns ps) (refused_of_err (sound ns ps) e stop).1))

  -- past 14
  pub prepared : (accepted_row ns ps).number ≡ 0 → Prepared ns ps 0 (sound_work ns ps 0 work)
  prepared done =
      sound_prepares ns ps 0 work (omega (arith, room))
      (eqb-true (sound ns ps).number 0 (then_first (sound ns ps) (gates ns ps) (eq-eqb (accepted_row ns ps).number 0 done)))

  -- the same of what the code answers
  pub to_forms : answered (accepted_row ns ps) ≡ Ok tt → Prepared ns ps 0 (sound_work ns ps 0 work)
  to_forms go = prepared (done_of_ok (accepted_row ns ps) go)

-- 14 of one node, as the code asks it: by any word of the node's kind
pub gate_told : (ns ps : List ℕ) (i mark code : ℕ) (r : Result ⊤ ℕ) → mark ≡ mark_of ns ps i → code ≡ shape_at ns ps i
    → ((word : ℕ) → kind_of word ≡ kind_of (kind_at ns i) → r ≡ numbered (cond (ltb 0 mark && is_gate word && not (eqb code 1)) wide_gate 0))
    → r ≡ numbered (gate_fault ns ps i)
unfolding gate_fault shape_at
gate_told ns ps i mark code r e f told = told (kind_at ns i) refl ∙ ap₂ (λ (m x : ℕ). numbered (cond (ltb 0 m && is_gate (kind_at ns i) && not (eqb x 1)) wide_gate 0)) e f

pub ruleset past_8 = (marks_there, shapes_there, gates_answer, sound_stops)

pub ruleset past_10 = (row_stops, row_nodes, row_pool, list_answers, list_nodes_out, list_pool_out, to_forms)

-- ---- the list's size
module _ {ns ps work : List ℕ} {count : ℕ} (l : Listing ns ps work count) where
  pub node_number : node_count (canonical_nodes ns ps) ≡ count
  node_number = omega (arith, listing_words l)

  pub fits_told : (out_nodes out_pool entries : ℕ) → entries ≡ length (canonical_pool ns ps) → fit_words count entries out_nodes out_pool ≡ fits_lists ns ps out_nodes out_pool
  unfolding fit_words
  fits_told out_nodes out_pool entries e =
      rw (e, node_number, listing_words l)

-- ---- what fits
pub record Room (count entries out_nodes out_pool : ℕ) : Type 0 where
  pub nodes : count * words_per_node ≤ out_nodes
  pub pool : entries ≤ out_pool
  pub few : count ≤ most_nodes
  pub short : entries ≤ most_pool

fits_room : (count entries out_nodes out_pool : ℕ) → fit_words count entries out_nodes out_pool ≡ true → Room count entries out_nodes out_pool
unfolding fit_words
fits_room count entries out_nodes out_pool fits =
    let a = leb (count * words_per_node) out_nodes in
    let b = leb entries out_pool in
    let c = leb count most_nodes in
    let d = leb entries most_pool in
    let abc = and_left (a && b && c) d fits in
    let ab = and_left (a && b) c abc in
    record {
      nodes = leb-true (count * words_per_node) out_nodes (and_left a b ab);
      pool = leb-true entries out_pool (and_right a b ab);
      few = leb-true count most_nodes (and_right (a && b) c abc);
      short = leb-true entries most_pool (and_right (a && b && c) d fits);
    }

-- past 19
pub row_room : {ns ps work : List ℕ} {count : ℕ} → Listing ns ps work count → (out_nodes out_pool entries : ℕ) → entries ≡ length (canonical_pool ns ps)
    → (fit_row ns ps out_nodes out_pool).number ≡ 0 → Room count entries out_nodes out_pool
row_room {ns} {ps} {work} {count} l out_nodes out_pool entries e done =
    fits_room count entries out_nodes out_pool (fits_told l out_nodes out_pool entries e ∙ row_fits ns ps out_nodes out_pool done)

-- ---- the same of what the code answers: the pool's entries counted, and 19 asked by counts
module _ {ns ps work : List ℕ} {count : ℕ} (l : Listing ns ps work count) (out_nodes out_pool entries : ℕ) (fit : Bool)
    (sized : entries ≡ pool_size work count) (asks : fit ≡ fit_words count entries out_nodes out_pool) where
  size : entries ≡ length (canonical_pool ns ps)
  size = sized ∙ listing_size l

  same : fit ≡ fits_lists ns ps out_nodes out_pool
  same = asks ∙ fits_told l out_nodes out_pool entries size

  module _ (e : Refusal) (stop : asked fit short_output ≡ Err e) where
    pub put_stops : Err e ≡ canonical_result (list_answer ns ps out_nodes out_pool)
    put_stops = fit_stops ns ps out_nodes out_pool fit same e stop

    pub put_keeps : (words old : List ℕ) → old ≡ output_after (is_done (fit_row ns ps out_nodes out_pool)) words old
    put_keeps = fit_keeps ns ps out_nodes out_pool fit same e stop

  module _ (go : asked fit short_output ≡ Ok tt) where
    done : (fit_row ns ps out_nodes out_pool).number ≡ 0
    done = fit_done ns ps out_nodes out_pool fit same go

    pub put_room : Room count entries out_nodes out_pool
    put_room = row_room l out_nodes out_pool entries size done

    pub put_answers : Ok (record { nodes = count * words_per_node; pool = entries }) ≡ canonical_result (list_answer ns ps out_nodes out_pool)
    put_answers = fit_answers ns ps out_nodes out_pool fit same go (count * words_per_node) entries (sym (listing_words l)) size

    pub put_written : (words old : List ℕ) → written words old ≡ output_after (is_done (fit_row ns ps out_nodes out_pool)) words old
    put_written words old = sym (rw (eq-eqb (fit_row ns ps out_nodes out_pool).number 0 done))
