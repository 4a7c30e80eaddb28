-- One entry's words, case by case: a node that has a part of the pool and one that has a datum; a Program that stands
-- at no node and a form.
use Rattle.std.specs.Prelude.{ℕ, ◌+◌, ◌/◌, ◌%◌, ◌^◌, ◌≤◌, ◌<◌, ◌≡◌, ◌≢◌, List, [], ◌++◌}
use borrow.Author.Tests.{eq-eqb, ne_eqb, lt-ltb, le-ltb}
use Rattle.meaning.specs.Rules.Kinds.{variable_word}
use Rattle.meaning.specs.Rules.Trees.{node_of}
use Rattle.columns.specs.Columns.{cell, datum_column, count_column}
use Rattle.list_output.specs.Words.{entry_kind, program_count, child_count, entry_first, entry_count, entry_node, program_part, kids_part, entry_part}

module _ (work : List ℕ) (e : ℕ) where
  pub inner_node : (at kind count : ℕ) → kind ≡ entry_kind work e → count ≡ child_count work e → variable_word < kind
      → node_of kind at count ≡ entry_node work at e
  unfolding entry_first entry_count
  inner_node at kind count k c inner = rw (← k, lt-ltb variable_word kind inner, c)

  pub leaf_node : (at kind value : ℕ) → kind ≡ entry_kind work e → value ≡ cell work datum_column (e / 2) → kind ≤ variable_word
      → node_of kind (value % 2 ^ 32) (value / 2 ^ 32) ≡ entry_node work at e
  unfolding entry_first entry_count
  leaf_node at kind value k d leaf = rw (← k, le-ltb variable_word kind leaf, d)

  pub even_count : e % 2 ≢ 1 → child_count work e ≡ program_count work (e / 2) + cell work count_column (e / 2)
  unfolding child_count
  even_count h = rw (ne_eqb (e % 2) 1 h)

  module _ (ns ps : List ℕ) where
    pub odd_part : e % 2 ≡ 1 → entry_part ns ps work e ≡ []
    unfolding entry_part
    odd_part h = rw (eq-eqb (e % 2) 1 h)

    pub even_part : e % 2 ≢ 1 → entry_part ns ps work e ≡ program_part work (e / 2) ++ kids_part ns ps work (e / 2)
    unfolding entry_part
    even_part h = rw (ne_eqb (e % 2) 1 h)
