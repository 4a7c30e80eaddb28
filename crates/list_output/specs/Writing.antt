-- The words of one entry stored behind those of the entries before it, and what the slice holds once all are stored.
use Rattle.std.specs.Prelude.{ℕ, ◌+◌, ◌*◌, ◌≤◌, ◌≡◌, List, length}
use Rattle.std.proofs.Common.{sym, ap, ◌∙◌, zero-add}
use Rattle.std.proofs.lemmas.List.Edits.{sets}
use Rattle.meaning.specs.Rules.Limits.{words_per_node}
use Rattle.meaning.specs.Rules.Lent.{written}
use Rattle.listed.specs.Entries.{listed_at}
use Rattle.list_output.specs.Words.{entry_node, entry_part, pool_size, row_nodes, row_pool}
use Rattle.list_output.specs.Sizes.{nodes_none, nodes_next, nodes_size, pool_none, pool_next, pool_size_lem}
use Rattle.list_output.specs.Stores.{sets_behind, sets_written}

module _ (work out : List ℕ) where
  pub nodes_begin : out ≡ sets out 0 (row_nodes work 0)
  nodes_begin = ap (sets out 0) (sym (nodes_none work))

  pub nodes_more : (k : ℕ)
      → sets (sets out 0 (row_nodes work k)) (k * words_per_node) (entry_node work (pool_size work k) (listed_at work k)) ≡ sets out 0 (row_nodes work (k + 1))
  nodes_more k =
      sets_behind (row_nodes work k) (entry_node work (pool_size work k) (listed_at work k)) out 0 (k * words_per_node) (zero-add _ ∙ nodes_size work k)
      ∙ ap (sets out 0) (sym (nodes_next work k))

  pub nodes_end : (k : ℕ) → k * words_per_node ≤ length out → sets out 0 (row_nodes work k) ≡ written (row_nodes work k) out
  nodes_end k room = sets_written (row_nodes work k) out (rw (nodes_size work k) room)

  module _ (ns ps : List ℕ) where
    pub pool_begin : out ≡ sets out 0 (row_pool ns ps work 0)
    pool_begin = ap (sets out 0) (sym (pool_none work ns ps))

    pub pool_more : (k : ℕ)
        → sets (sets out 0 (row_pool ns ps work k)) (pool_size work k) (entry_part ns ps work (listed_at work k)) ≡ sets out 0 (row_pool ns ps work (k + 1))
    pool_more k =
        sets_behind (row_pool ns ps work k) (entry_part ns ps work (listed_at work k)) out 0 (pool_size work k) (zero-add _ ∙ pool_size_lem work ns ps k)
        ∙ ap (sets out 0) (sym (pool_next work ns ps k))
