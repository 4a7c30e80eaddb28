-- The words of a list of subtrees (meaning's Rules/Listing), with one subtree more at its end.
use Rattle.std.specs.Prelude.{ℕ, ◌+◌, ◌≡◌, List, [], ◌∷◌, ◌++◌, length}
use Rattle.std.proofs.Common.{sym, ap, ◌∙◌, append_assoc, append-nil, add-zero, arith, length-append}
use Rattle.meaning.specs.Rules.Trees.{Tree, children, trees}
use Rattle.meaning.specs.Rules.Listing.{child_numbers, node_at, node_words, pool_words}
use Rattle.meaning.proofs.Laws.ListingLaws.{numbers_length}

module _ (all : List Tree) (t : Tree) where
  pub pool_end : (ts : List Tree) → pool_words all (ts ++ (t ∷ [])) ≡ pool_words all ts ++ child_numbers all t
  pool_end [] = append-nil (child_numbers all t)
  pool_end (u ∷ ts) =
      ap (λ (ws : List ℕ). child_numbers all u ++ ws) (pool_end ts) ∙ sym (append_assoc (child_numbers all u) (pool_words all ts) (child_numbers all t))

  pub nodes_end : (at : ℕ) (ts : List Tree)
      → node_words at (ts ++ (t ∷ [])) ≡ node_words at ts ++ node_at (at + length (pool_words all ts)) t
  nodes_end at [] = append-nil (node_at at t) ∙ ap (λ (x : ℕ). node_at x t) (sym (add-zero at))
  nodes_end at (u ∷ ts) =
      let n = length (trees (children u)) in
      let e : at + n + length (pool_words all ts) ≡ at + length (pool_words all (u ∷ ts)) =
      omega (arith, length-append (child_numbers all u) (pool_words all ts), numbers_length all u) in
      ap (λ (ws : List ℕ). node_at at u ++ ws) (nodes_end (at + n) ts ∙ ap (λ (x : ℕ). node_words (at + n) ts ++ node_at x t) e)
      ∙ sym (append_assoc (node_at at u) (node_words (at + n) ts) (node_at (at + length (pool_words all (u ∷ ts))) t))
