-- The list of a Made tree passes every test, so that the canonical list is accepted again.
use Prim.Native.Nat.{ℕ, zero, suc, ◌+◌, ◌-◌, ◌/◌, ◌%◌, ◌^◌, ◌≤◌, ◌<◌}
use Rattle.std.specs.Prelude.{◌≡◌, Bool, ◌&&◌, ltb, leb}
use Rattle.std.proofs.Math.Path.{refl, ap, ap₂}
use Rattle.std.proofs.Common.{◌∙◌, arith}
use mathlib.Core.List.{List, []}
use Rattle.std.proofs.Math.Bool.{true, false, and-false}
use Rattle.std.proofs.Math.ListN.{length}
use Rattle.std.proofs.Math.Dec.{eqb}
use borrow.Author.Tests.{eqb-true, eq-eqb, ne_eqb, lt-ltb, le-ltb, le-leb, lt-leb}
use Rattle.meaning.specs.Rules.Limits.{variable_count, most_inputs, words_per_node}
use Rattle.meaning.specs.Rules.Kinds.{kind_of, may_have}
use Rattle.meaning.proofs.Laws.NumberLaws.{all_done}
use Rattle.meaning.proofs.Laws.BoolLaws.{and_both}
use Rattle.meaning.specs.Rules.Search.{lowest}
use Rattle.meaning.proofs.Laws.SearchLaws.{lowest_only}
use Rattle.meaning.specs.Rules.Trees.{Tree, kind_word, datum, children, trees, node_count, kind_at, first_at, count_at, tree_of, nth_tree}
use Rattle.meaning.specs.Rules.Refusals.{is_done, at_lowest}
use Rattle.meaning.specs.Rules.Layout.{first_fits, laid_out, layout_fault, layout}
use Rattle.meaning.specs.Rules.Reach.{mark_of, reachable}
use Rattle.meaning.specs.Rules.Verification.{verify_fault, verification, is_program}
use Rattle.meaning.specs.Rules.Evaluable.{shape_fault, evaluability}
use Rattle.meaning.specs.Rules.Separation.{outside, variables_below}
use Rattle.meaning.specs.Rules.Listing.{visit_all, subtrees, node_words, pool_words, listed_nodes, listed_pool, count_word, first_word}
use Rattle.meaning.proofs.Laws.NfLaws.{Made}
use Rattle.meaning.proofs.Laws.MadeLaws.{made_no_program}
use Rattle.meaning.proofs.Laws.ListingLaws.{Every, Ordered, Listable, start, part_fits, node_words_lem, listed_first, listed_count_word, listed_last, nth_new, one_more, listed_count, listed_kind, listed_below, listed_tree, listed_ordered, listed_every}
use Rattle.meaning.proofs.Laws.CleanLaws.{Clean, deep_made}

module _ (n : ℕ) (few : n ≤ most_inputs) (u : Tree) (made : Made (λ v. v < n) u) where
  D : ℕ → Type 0
  D v = v < n

  all : List Tree
  all = subtrees u

  clean : Every (Clean (λ v. v < n)) all
  unfolding all
  clean = listed_every (Clean (λ v. v < n)) u (deep_made (λ v. v < n) (λ v h. omega arith) made)

  listable : Every Listable all
  listable j l = (clean j l).listable

  ordered : Ordered all
  unfolding all
  ordered = listed_ordered u

  ns : List ℕ
  ns = node_words 0 all

  ps : List ℕ
  ps = pool_words all all

  size : node_count ns ≡ length all
  unfolding ns
  size = listed_count all ordered listable

  module _ (i : ℕ) (h : i < length all) where
    t : Tree
    t = nth_tree all i

    kind_is : kind_at ns i ≡ kind_word t
    unfolding ns t
    kind_is = listed_kind all ordered listable i h

    tree_is : tree_of ns ps i ≡ t
    unfolding ns ps t
    tree_is = listed_tree all ordered listable i h

    first_is : first_at ns i ≡ first_word (start 0 all i) t
    unfolding ns t
    first_is = listed_first all ordered listable i h

    count_is : count_at ns i ≡ count_word t
    unfolding ns t
    count_is = listed_count_word all ordered listable i h

    c : Clean (λ v. v < n) t
    unfolding t
    c = clean i h

    fits_pool : start 0 all i + length (trees (children t)) ≤ length ps
    unfolding ps t
    fits_pool = omega (arith, part_fits all 0 all i h)

    last_is : suc i ≡ node_count ns → t ≡ u
    unfolding t all
    last_is e =
        let before = visit_all (children u) [] in
        let count : length (subtrees u) ≡ suc (length before) = ap length (listed_last u) ∙ one_more u before in
        let at : i ≡ length before = omega (arith, size, count) in
        ap₂ nth_tree (listed_last u) at ∙ nth_new u before

    laid : laid_out ns ps i ≡ true
    laid = rw (kind_is, count_is, first_is) (go (kind_word t) refl)
      where
        go : (k : ℕ) → kind_word t ≡ k
            → (may_have (kind_of (kind_word t)) (count_word t)
            && first_fits (kind_word t) (first_word (start 0 all i) t) (count_word t) (length ps)) ≡ true
        go zero e =
            let small : datum t < 2 = c.constant e in
            rw e (and_both (eqb (datum t / 2 ^ 32) 0) (ltb (datum t % 2 ^ 32) 2) (eq-eqb (datum t / 2 ^ 32) 0 (omega arith)) (lt-ltb (datum t % 2 ^ 32) 2 (omega arith)))
        go (suc zero) e = rw e refl
        go (suc (suc zero)) e = absurd (c.no_dc e)
        go (suc (suc (suc zero))) e =
            let small : datum t < n = c.variable e in
            rw e (and_both (eqb (datum t / 2 ^ 32) 0) (ltb (datum t % 2 ^ 32) variable_count) (eq-eqb (datum t / 2 ^ 32) 0 (omega arith)) (lt-ltb (datum t % 2 ^ 32) variable_count (omega arith)))
        go (suc (suc (suc (suc k)))) e =
            let big : 3 < kind_word t = omega arith in
            rw (lt-ltb 3 (kind_word t) big, ne_eqb (kind_word t) 0 (λ q. omega arith), ne_eqb (kind_word t) 1 (λ q. omega arith), ne_eqb (kind_word t) 2 (λ q. omega arith), ne_eqb (kind_word t) 3 (λ q. omega arith))
            (and_both (may_have (kind_of (kind_word t)) (length (trees (children t)))) (leb (start 0 all i + length (trees (children t))) (length ps)) (c.arity big) (le-leb (start 0 all i + length (trees (children t))) (length ps) fits_pool))

    laid_fault : layout_fault ns ps i ≡ 0
    unfolding layout_fault ns ps
    laid_fault = rw (le-ltb 16 (kind_at ns i) (omega (arith, kind_is, c.known)), laid, listed_below all ordered listable i h) refl

    verify_fault_lem : verify_fault ns ps i ≡ 0
    unfolding verify_fault
    verify_fault_lem = rw (tree_is, c.right (mark_of ns ps i - 1), and-false (ltb 0 (mark_of ns ps i))) refl

    shape_fault_lem : shape_fault ns ps i ≡ 0
    unfolding shape_fault
    shape_fault_lem = rw (tree_is, c.fit, root_last (eqb (suc i) (node_count ns)) refl, and-false (reachable ns ps i)) refl
      where
        root_last : (b : Bool) → eqb (suc i) (node_count ns) ≡ b → (eqb (suc i) (node_count ns) && is_program t) ≡ false
        root_last true e = rw (e, last_is (eqb-true (suc i) (node_count ns) e)) (made_no_program (λ v. v < n) made)
        root_last false e = rw e

    inside : outside ns n i ≡ false
    inside = rw (kind_is, first_is) (go (kind_word t) refl (eqb (kind_word t) 3) refl)
      where
        go : (k : ℕ) → kind_word t ≡ k → (b : Bool) → eqb (kind_word t) 3 ≡ b
            → (eqb (kind_word t) 3 && leb n (first_word (start 0 all i) t)) ≡ false
        go k q false e = rw e
        go k q true e =
            let three : kind_word t ≡ 3 = eqb-true (kind_word t) 3 e in
            let small : datum t < n = c.variable three in
            rw three (lt-leb n (datum t % 2 ^ 32) (omega arith))

  -- ---- numbers 3 to 8 and the variables of 11, of the whole list
  at_all : (fault : ℕ → ℕ) → ((i : ℕ) → i < length all → fault i ≡ 0) → is_done (at_lowest (node_count ns) fault) ≡ true
  at_all fault h = all_done (node_count ns) fault (λ i l. h i (omega (arith, size)))

  pub listed_layout : is_done (layout (listed_nodes u) (listed_pool u)) ≡ true
  unfolding ns ps all listed_nodes listed_pool layout
  listed_layout = at_all (layout_fault ns ps) laid_fault

  pub listed_verification : is_done (verification (listed_nodes u) (listed_pool u)) ≡ true
  unfolding ns ps all listed_nodes listed_pool verification
  listed_verification = at_all (verify_fault ns ps) verify_fault_lem

  pub listed_evaluability : is_done (evaluability (listed_nodes u) (listed_pool u)) ≡ true
  unfolding ns ps all listed_nodes listed_pool evaluability
  listed_evaluability = at_all (shape_fault ns ps) shape_fault_lem

  pub listed_variables : variables_below (listed_nodes u) n ≡ true
  unfolding ns all listed_nodes variables_below
  listed_variables =
      eq-eqb (lowest (outside ns n) (node_count ns)) (node_count ns) (lowest_only (outside ns n) (node_count ns) (node_count ns) (record {
        after = omega arith;
        within = omega arith;
        passes = λ l. absurd (omega arith);
        before = λ j a b. inside j (omega (arith, size));
      }))

  pub listed_words : length (listed_nodes u) % words_per_node ≡ 0
  unfolding ns all listed_nodes
  listed_words = omega (arith, node_words_lem 0 all)

  pub listed_some : 0 < node_count (listed_nodes u)
  unfolding ns all listed_nodes
  listed_some =
      let before = visit_all (children u) [] in
      let count : length (subtrees u) ≡ suc (length before) = ap length (listed_last u) ∙ one_more u before in
      omega (arith, size, count)
