-- The canonical sentence of demand 3: the canonical list of an accepted list without DC, register or ARG below the root is
-- accepted again, and its root answers alike, so that it gets the same judgement.
use Rattle.std.specs.Prelude.{ℕ, ◌%◌, ◌^◌, ◌≤◌, ◌<◌, ◌≡◌, List, true, ◌&&◌, length, ltb}
use Rattle.std.proofs.Common.{sym, ap, ◌∙◌, arith}
use Rattle.std.proofs.Math.Bool.{Bool}
use Rattle.std.proofs.Math.Dec.{leb}
use borrow.Author.Tests.{le-leb, eq-eqb, ltb-true, lt-ltb}
use Rattle.meaning.proofs.Laws.SeparationLaws.{judged_done, judged_tree, alike_separation}
use Rattle.meaning.proofs.Laws.BoolLaws.{and_left, and_right, and_both}
use Rattle.meaning.specs.Rules.Limits.{most_inputs, most_nodes, most_pool, words_per_node}
use Rattle.meaning.specs.Rules.Trees.{Tree, node_count, kind_at, root_of}
use Rattle.meaning.specs.Rules.Answers.{Assignment, answer}
use Rattle.meaning.specs.Rules.Refusals.{is_done, ◌then◌, require}
use Rattle.meaning.specs.Rules.Assignments.{upto, Assigns}
use Rattle.meaning.specs.Rules.Layout.{sizes, work_for, layout, layout_fault}
use Rattle.meaning.specs.Rules.Verification.{verification, verify_fault}
use Rattle.meaning.specs.Rules.Evaluable.{evaluability, shape_fault, sound}
use Rattle.meaning.specs.Rules.Canonical.{gate_fault, canonical_nodes, canonical_pool, gates}
use Rattle.meaning.specs.Rules.Folding.{nf}
use Rattle.meaning.specs.Rules.Reach.{reachable, mark_of}
use Rattle.meaning.specs.Rules.Separation.{in_bounds, separate_tree}
use Rattle.meaning.specs.Rules.Calls.{separate_refusal, separation, canonical_refusal, fits_lists}
use Rattle.meaning.proofs.Laws.RefusalLaws.{then_first, then_rest, require_done, bounds_few, bounds_variables, marks_below, variable_below}
use Rattle.meaning.proofs.Laws.NfLaws.{Made, nf_answer}
use Rattle.meaning.specs.Rules.Kinds.{is_plain, kind_of}
use Rattle.meaning.proofs.Laws.RootLaws.{Accepted, root_made}
use Rattle.meaning.proofs.Laws.NumberLaws.{no_fault}
use Rattle.meaning.proofs.Laws.CleanLaws.{Clean, nf_made, deep_made, deep_map}
use Rattle.meaning.proofs.Laws.ListingLaws.{Listable, listed_root}
use Rattle.meaning.proofs.Laws.CanonicalLaws.{listed_layout, listed_verification, listed_evaluability, listed_variables, listed_words, listed_some}
use Rattle.meaning.proofs.Laws.AssignmentLaws.{number, in_upto}

module _ (ns ps : List ℕ) (n run work work₂ out_nodes out_pool work₃ : ℕ)
    (accepted : (separation ns ps n run work).refusal.number ≡ 0)
    (canonicalised : (canonical_refusal ns ps work₂ out_nodes out_pool).number ≡ 0)
    (plain : (i : ℕ) → i < node_count ns → reachable ns ps i ≡ true → is_plain (kind_of (kind_at ns i)) ≡ true)
    (room : work_for (canonical_nodes ns ps) (canonical_pool ns ps) ≤ work₃)
  where
    -- what the two calls' tests say of the list
    after_work : is_done (sound ns ps then require (in_bounds ns n run) 11) ≡ true
    unfolding separate_refusal
    after_work = then_rest (require (leb (work_for ns ps) work) 10) _ (then_rest (sizes ns ps) _ (judged_done ns ps n run work accepted))

    is_sound : is_done (sound ns ps) ≡ true
    is_sound = then_first (sound ns ps) (require (in_bounds ns n run) 11) after_work

    in_bounds_lem : in_bounds ns n run ≡ true
    in_bounds_lem = require_done (in_bounds ns n run) 10 (then_rest (sound ns ps) _ after_work)

    few : n ≤ most_inputs
    few = bounds_few ns n run in_bounds_lem

    canonical_done : is_done (canonical_refusal ns ps work₂ out_nodes out_pool) ≡ true
    canonical_done = eq-eqb _ 0 canonicalised

    after_sound : is_done (gates ns ps then require (fits_lists ns ps out_nodes out_pool) 19) ≡ true
    unfolding canonical_refusal
    after_sound =
        then_rest (sound ns ps) _ (then_rest (require (leb (work_for ns ps) work₂) 10) _ (then_rest (sizes ns ps) _ canonical_done))

    after_layout : is_done (verification ns ps then require (ltb 0 (node_count ns)) 7 then evaluability ns ps) ≡ true
    unfolding sound
    after_layout = then_rest (layout ns ps) _ is_sound

    after_verification : is_done (require (ltb 0 (node_count ns)) 7 then evaluability ns ps) ≡ true
    after_verification = then_rest (verification ns ps) _ after_layout

    all_laid : is_done (layout ns ps) ≡ true
    unfolding sound
    all_laid = then_first (layout ns ps) _ is_sound

    tests : Accepted ns ps (λ v. v < n)
    unfolding layout verification evaluability gates
    tests = record {
      laid = no_fault (node_count ns) (layout_fault ns ps) all_laid;
      verified = no_fault (node_count ns) (verify_fault ns ps) (then_first (verification ns ps) _ after_layout);
      shaped = no_fault (node_count ns) (shape_fault ns ps) (then_rest (require (ltb 0 (node_count ns)) 7) (evaluability ns ps) after_verification);
      gated = no_fault (node_count ns) (gate_fault ns ps) (then_first (gates ns ps) _ after_sound);
      bounded = variable_below ns n (bounds_variables ns n run in_bounds_lem);
      plain = λ i l m. plain i l (lt-ltb 0 (mark_of ns ps i) m);
    }

    made : Made (λ v. v < n) (root_of ns ps)
    made = root_made ns ps (λ v. v < n) tests (ltb-true 0 (node_count ns) (require_done (ltb 0 (node_count ns)) 6 (then_first (require (ltb 0 (node_count ns)) 7) (evaluability ns ps) after_verification)))

    -- the canonical list
    canon : Tree
    canon = nf (root_of ns ps)

    canon_made : Made (λ v. v < n) canon
    unfolding canon
    canon_made = nf_made (λ v. v < n) made

    out_fits : fits_lists ns ps out_nodes out_pool ≡ true
    out_fits = require_done (fits_lists ns ps out_nodes out_pool) 18 (then_rest (gates ns ps) _ after_sound)

    canon_sizes : is_done (sizes (canonical_nodes ns ps) (canonical_pool ns ps)) ≡ true
    unfolding sizes canonical_nodes canon
    canon_sizes =
        rw (
          eq-eqb (length (canonical_nodes ns ps) % words_per_node) 0 (listed_words n few canon canon_made),
          and_right (out_a && out_b) nodes_fit (and_left (out_a && out_b && nodes_fit) pool_fits out_fits),
          and_right (out_a && out_b && nodes_fit) pool_fits out_fits,
        )
      where
        out_a : Bool
        out_a = leb (length (canonical_nodes ns ps)) out_nodes

        out_b : Bool
        out_b = leb (length (canonical_pool ns ps)) out_pool

        nodes_fit : Bool
        nodes_fit = leb (node_count (canonical_nodes ns ps)) most_nodes

        pool_fits : Bool
        pool_fits = leb (length (canonical_pool ns ps)) most_pool

    canon_sound : is_done (sound (canonical_nodes ns ps) (canonical_pool ns ps)) ≡ true
    unfolding sound canonical_nodes canonical_pool canon
    canon_sound =
        rw (
          listed_layout n few canon canon_made,
          listed_verification n few canon canon_made,
          lt-ltb 0 (node_count (canonical_nodes ns ps)) (listed_some n few canon canon_made),
          listed_evaluability n few canon canon_made,
        )

    canon_bounds : in_bounds (canonical_nodes ns ps) n run ≡ true
    unfolding in_bounds canonical_nodes canon
    canon_bounds =
        and_both _ (ltb run (2 ^ n)) (and_both (leb n most_inputs) _ (le-leb n most_inputs few) (listed_variables n few canon canon_made))
        (lt-ltb run (2 ^ n) (marks_below ns n run in_bounds_lem))

    canon_accepted : is_done (separate_refusal (canonical_nodes ns ps) (canonical_pool ns ps) n run work₃) ≡ true
    unfolding separate_refusal
    canon_accepted =
        rw (canon_sizes, le-leb (work_for (canonical_nodes ns ps) (canonical_pool ns ps)) work₃ room, canon_sound, canon_bounds)

    canon_root : root_of (canonical_nodes ns ps) (canonical_pool ns ps) ≡ nf (root_of ns ps)
    unfolding canonical_nodes canonical_pool canon
    canon_root =
        listed_root canon (deep_map (Clean (λ v. v < n)) Listable (λ t c. c.listable) canon (deep_made (λ v. v < n) (λ v h. omega (arith, few)) canon_made))

    canon_alike : (α : Assignment) → Assigns (upto n) α → answer α (nf (root_of ns ps)) ≡ answer α (root_of ns ps)
    canon_alike α a = nf_answer (λ v. v < n) α (λ v h. a.on v (in_upto n v ∙ lt-ltb v n h)) made

    canon_is : separation (canonical_nodes ns ps) (canonical_pool ns ps) n run work₃ ≡ separate_tree (nf (root_of ns ps)) n run
    unfolding separation
    canon_is = rw canon_accepted (ap (λ (t : Tree). separate_tree t n run) canon_root)

    pub kept_judgement :
        separation (canonical_nodes ns ps) (canonical_pool ns ps) n run work₃ ≡ separation ns ps n run work
    kept_judgement =
        canon_is
        ∙ alike_separation (root_of ns ps) (nf (root_of ns ps)) n run (marks_below ns n run in_bounds_lem) canon_alike
        ∙ sym (judged_tree ns ps n run work accepted)
