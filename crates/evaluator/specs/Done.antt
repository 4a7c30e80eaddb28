-- A call that nothing refuses: the list is prepared for the pass, the output has room, and after the pass the rows show every
-- pair.
use Rattle.std.specs.Prelude.{ℕ, ◌*◌, ◌-◌, ◌≤◌, ◌<◌, ◌≡◌, List, length, Ok}
use Rattle.std.proofs.Math.Path.{refl, ap}
use Rattle.std.proofs.Common.{arith, eqb-true, eq-eqb, sym, ◌∙◌}
use Rattle.meaning.specs.declared.Refusal.{Refusal}
use Rattle.meaning.specs.Rules.Limits.{work_per_node}
use Rattle.meaning.specs.Rules.Trees.{node_count, root_of}
use Rattle.meaning.specs.Rules.Assignments.{given}
use Rattle.meaning.specs.Rules.Evaluable.{sound}
use Rattle.meaning.specs.Rules.Lent.{written, output_after}
use Rattle.meaning.specs.Rules.Pairs.{pairs}
use Rattle.meaning.specs.Rules.Refusals.{is_done, answered, ◌then◌}
use Rattle.meaning.specs.Rules.Answers.{answer}
use Rattle.meaning.specs.Rules.Calls.{assigned, fits_pairs, evaluation_result}
use Rattle.meaning.proofs.Laws.RefusalLaws.{then_first, then_rest, done_of_ok, with_done}
use Rattle.meaning.proofs.Laws.ColumnLaws.{pairs_passed}
use Rattle.verifier.specs.Left.{sound_work}
use Rattle.rows.specs.Rows.{Prepared, Filled}
use Rattle.pass.specs.Prepared.{sound_prepares}
use Rattle.pass.specs.Written.{with_pairs, passed}
use Rattle.evaluator.specs.Outcome.{rest_row, rest_answer, rest_output, evaluation_done, row_answer, row_out}
use Rattle.evaluator.specs.Output.{row_pairs, rows_pairs}

module _ (ns ps bytes work out : List ℕ) (room : work_per_node * node_count ns ≤ length work) (done : (rest_row ns ps bytes (length out)).number ≡ 0) where
  -- ---- past 8 and 19
  listed : (sound ns ps).number ≡ 0
  listed =
      eqb-true (sound ns ps).number 0
      (then_first (sound ns ps) (assigned bytes then fits_pairs ns (length out)) (eq-eqb (rest_row ns ps bytes (length out)).number 0 done))

  pub output_room : 2 * node_count ns ≤ length out
  output_room =
      let later = then_rest (sound ns ps) (assigned bytes then fits_pairs ns (length out)) (eq-eqb (rest_row ns ps bytes (length out)).number 0 done) in
      let last = then_rest (assigned bytes) (fits_pairs ns (length out)) later in
      (pairs_passed ns (length out)).when.0 (eqb-true (fits_pairs ns (length out)).number 0 last)

  pub prepared : Prepared ns ps 0 (sound_work ns ps 0 work)
  prepared = sound_prepares ns ps 0 work (omega (arith, room)) listed

  -- ---- after the pass
  abbrev pub after_pass : List ℕ
  after_pass = with_pairs ns ps (given bytes) 0 (sound_work ns ps 0 work)

  pub filled : Filled ns ps (given bytes) 0 after_pass (node_count ns)
  filled = passed ns ps (given bytes) 0 (sound_work ns ps 0 work) prepared

  pub rows_room : work_per_node * node_count ns ≤ length after_pass
  rows_room = omega (arith, filled.ready.room)

  pub rooted : 0 < node_count ns
  rooted = prepared.sound.1.1.0

  pub all_written : written (row_pairs after_pass (node_count ns)) out ≡ output_after (is_done (rest_row ns ps bytes (length out))) (pairs ns ps bytes) out
  unfolding pairs
  all_written =
      let all = rows_pairs ns ps (given bytes) after_pass (node_count ns) filled (node_count ns) (omega arith) in
      rw (eq-eqb (rest_row ns ps bytes (length out)).number 0 done, all)

-- ---- the same past what the code answers
module _ (ns ps bytes work out : List ℕ) (room : work_per_node * node_count ns ≤ length work) (go : answered (rest_row ns ps bytes (length out)) ≡ Ok tt) where
  done : (rest_row ns ps bytes (length out)).number ≡ 0
  done = done_of_ok (rest_row ns ps bytes (length out)) go

  pub to_pass : Prepared ns ps 0 (sound_work ns ps 0 work)
  to_pass = prepared ns ps bytes work out room done

  pub rows_there : work_per_node * node_count ns ≤ length (with_pairs ns ps (given bytes) 0 (sound_work ns ps 0 work))
  rows_there = rows_room ns ps bytes work out room done

  pub pairs_there : 2 * node_count ns ≤ length out
  pairs_there = output_room ns ps bytes work out room done

  pub root_told : Ok (answer (given bytes) (root_of ns ps)) ≡ evaluation_result (rest_answer ns ps bytes out)
  root_told =
      let row : Refusal = rest_row ns ps bytes (length out) in
      sym (with_done row (answer (given bytes) (root_of ns ps)) done)
      ∙ ap evaluation_result (evaluation_done ns ps bytes row (answer (given bytes) (root_of ns ps)) done refl)

  pub pairs_written : written (row_pairs (with_pairs ns ps (given bytes) 0 (sound_work ns ps 0 work)) (node_count ns)) out ≡ rest_output ns ps bytes out
  pairs_written = all_written ns ps bytes work out room done

-- what the proof of such a call rests on
pub ruleset past_19 = (row_answer, row_out, to_pass, rows_there, pairs_there, root_told, pairs_written)
