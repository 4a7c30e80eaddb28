-- Two lists past number 8 in one work space: the second list's tests and both lists' classes leave the first list prepared.
use Rattle.std.specs.Prelude.{ℕ, ◌+◌, ◌*◌, ◌≤◌, ◌≡◌, List, length, Ok}
use Rattle.std.proofs.Common.{arith, sym, subst}
use Rattle.meaning.specs.Rules.Limits.{work_per_node}
use Rattle.meaning.specs.Rules.Trees.{node_count}
use Rattle.meaning.specs.Rules.Evaluable.{sound}
use Rattle.meaning.specs.Rules.Refusals.{answered}
use Rattle.meaning.proofs.Laws.RefusalLaws.{done_of_ok}
use Rattle.columns.specs.Columns.{mark_column, shape_column, class_column, with_column}
use Rattle.columns.specs.ColumnLaws.{with_length, with_other_column}
use Rattle.verifier.specs.Left.{sound_work}
use Rattle.verifier.specs.Held.{rows_before, sound_holds}
use Rattle.rows.specs.Rows.{Prepared, stays_prepared}
use Rattle.pass.specs.Prepared.{sound_prepares}
use Rattle.classes.specs.Classes.{class_at}
use Rattle.classes.specs.Ready.{Listed}
use Rattle.classes.specs.Both.{first_classes, both_classes}
use Rattle.trials.specs.Trial.{BothPrepared}

-- ---- prepared lists have their marks
pub listed : (ns ps : List ℕ) (base : ℕ) (work : List ℕ) → Prepared ns ps base work → Listed ns ps base work
listed ns ps base work p = record { sound = p.sound; room = p.room; marks = p.marks }

-- ---- classes leave them prepared
class_kept : (ns ps : List ℕ) (base : ℕ) (work : List ℕ) (at n : ℕ) (f : ℕ → ℕ) → Prepared ns ps base work
    → Prepared ns ps base (with_column class_column at n f work)
class_kept ns ps base work at n f p =
    stays_prepared ns ps base work (with_column class_column at n f work) p (with_length class_column at n f work)
    (λ i h. with_other_column class_column at n f work mark_column (base + i) (omega arith) (omega arith) (λ e. absurd (omega arith)))
    (λ i h. with_other_column class_column at n f work shape_column (base + i) (omega arith) (omega arith) (λ e. absurd (omega arith)))

pub classes_kept : (ns ps ms qs work : List ℕ) → BothPrepared ns ps ms qs work → BothPrepared ns ps ms qs (both_classes ns ps ms qs work)
unfolding both_classes
classes_kept ns ps ms qs work p = record { first = kept ns ps 0 p.first; second = kept ms qs (node_count ns) p.second }
  where
    kept : (xs ys : List ℕ) (base : ℕ) → Prepared xs ys base work → Prepared xs ys base (both_classes ns ps ms qs work)
    kept xs ys base q =
        class_kept xs ys base (first_classes ns ps work) (node_count ns) (node_count ms) (class_at ns ps ms qs)
        (class_kept xs ys base work 0 (node_count ns) (class_at ns ps ns ps) q)

-- ---- what the tree test asks of them, and what it leaves
module _ (ns ps ms qs work : List ℕ) (p : BothPrepared ns ps ms qs work) where
  pub first_listed : Listed ns ps 0 work
  first_listed = listed ns ps 0 work p.first

  pub second_listed : Listed ms qs (node_count ns) work
  second_listed = listed ms qs (node_count ns) work p.second

  pub still_prepared : (left : List ℕ) → left ≡ both_classes ns ps ms qs work → BothPrepared ns ps ms qs left
  still_prepared left e = subst (BothPrepared ns ps ms qs) (sym e) (classes_kept ns ps ms qs work p)

pub ruleset tree_test = (first_listed, second_listed, still_prepared)

-- ---- one list after the other past number 8
module _ (ns ps ms qs work : List ℕ) (room : work_per_node * (node_count ns + node_count ms) ≤ length work) (first : (sound ns ps).number ≡ 0) where
  -- the second list's rows are there still
  pub second_room : work_per_node * (node_count ns + node_count ms) ≤ length (sound_work ns ps 0 work)
  second_room = rw (sound_holds ns ps 0 work (omega (arith, room)) first).size room

  pub both_sound : (sound ms qs).number ≡ 0 → BothPrepared ns ps ms qs (sound_work ms qs (node_count ns) (sound_work ns ps 0 work))
  both_sound second = record {
    first = stays_prepared ns ps 0 (sound_work ns ps 0 work) (sound_work ms qs (node_count ns) (sound_work ns ps 0 work)) p (sound_holds ms qs (node_count ns) (sound_work ns ps 0 work) second_room second).size
        (λ i h. rows_before ms qs (node_count ns) (sound_work ns ps 0 work) mark_column (0 + i) (omega arith) (omega arith))
        (λ i h. rows_before ms qs (node_count ns) (sound_work ns ps 0 work) shape_column (0 + i) (omega arith) (omega arith));
    second = sound_prepares ms qs (node_count ns) (sound_work ns ps 0 work) second_room second;
  }
    where
      p : Prepared ns ps 0 (sound_work ns ps 0 work)
      p = sound_prepares ns ps 0 work (omega (arith, room)) first

-- ---- the same of what the code answers, list by list
module _ (ns ps ms qs work : List ℕ) (room : work_per_node * (node_count ns + node_count ms) ≤ length work) (first : answered (sound ns ps) ≡ Ok tt) where
  pub second_rows : work_per_node * (node_count ns + node_count ms) ≤ length (sound_work ns ps 0 work)
  second_rows = second_room ns ps ms qs work room (done_of_ok (sound ns ps) first)

  pub second_prepared : answered (sound ms qs) ≡ Ok tt → BothPrepared ns ps ms qs (sound_work ms qs (node_count ns) (sound_work ns ps 0 work))
  second_prepared second = both_sound ns ps ms qs work room (done_of_ok (sound ns ps) first) (done_of_ok (sound ms qs) second)

pub ruleset one_by_one = (second_rows, second_prepared)
