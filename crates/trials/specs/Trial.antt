-- One assignment tried on two lists in one work space, the second list's rows behind the first's.
use Rattle.std.specs.Prelude.{ℕ, List}
use Rattle.meaning.specs.Rules.Trees.{node_count, root_of}
use Rattle.meaning.specs.Rules.Answers.{Assignment, answer}
use Rattle.rows.specs.Rows.{Prepared}
use Rattle.pass.specs.Written.{with_pairs, pairs_beside}
use Rattle.trials.specs.declared.Roots.{Roots}

-- both roots' answers under an assignment
abbrev pub roots_under : List ℕ → List ℕ → List ℕ → List ℕ → Assignment → Roots
roots_under ns ps ms qs α = record { first = answer α (root_of ns ps); second = answer α (root_of ms qs) }

-- both lists accepted, with their marks and shapes
pub record BothPrepared (ns ps ms qs work : List ℕ) : Type 0 where
  pub first : Prepared ns ps 0 work
  pub second : Prepared ms qs (node_count ns) work

-- ---- both passes
module _ (ns ps ms qs : List ℕ) (α : Assignment) (work : List ℕ) where
  unfoldable pub first_work : List ℕ
  first_work = with_pairs ns ps α 0 work

  -- every word of the work space afterwards
  unfoldable pub tried_work : List ℕ
  tried_work = with_pairs ms qs α (node_count ns) first_work

  module _ (p : BothPrepared ns ps ms qs work) where
    pub second_prepared : Prepared ms qs (node_count ns) first_work
    unfolding first_work
    second_prepared = pairs_beside ns ps α 0 (node_count ns) work ms qs (node_count ns) p.second

    -- for the next assignment
    pub still_both : BothPrepared ns ps ms qs tried_work
    unfolding tried_work first_work
    still_both = record {
      first = pairs_beside ms qs α (node_count ns) (node_count ms) first_work ns ps 0 (pairs_beside ns ps α 0 (node_count ns) work ns ps 0 p.first);
      second = pairs_beside ms qs α (node_count ns) (node_count ms) first_work ms qs (node_count ns) second_prepared;
    }
