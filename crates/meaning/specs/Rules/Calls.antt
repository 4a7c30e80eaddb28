-- The public calls over node lists: for each, the refusals in their order, and its whole outcome, that is its answer and
-- what every slice lent to be written holds afterwards. (The truth-table routines and the verdict lend nothing or one
-- slice: Rules/Tables, Rules/Verdict.)
-- "Order: 1 and 2 for each list, first list first; 10; then list by list 3, 4, 5 .., 6, 7, 8; then 11, 12, 16, 14, the
-- tree test, 9, 15, and always last 19."
use Rattle.std.specs.Prelude.{ℕ, ◌+◌, List, Bool, cond, ◌&&◌, length, leb, Result, Ok, Err}
use Rattle.meaning.specs.declared.Refusal.{Refusal}
use Rattle.meaning.specs.declared.Answer.{Answer}
use Rattle.meaning.specs.declared.Canonical as code
use Rattle.meaning.specs.Rules.Limits.{most_nodes, most_pool}
use Rattle.meaning.specs.Rules.Numbers.{bad_assignment, short_output}
use Rattle.meaning.specs.Rules.Trees.{node_count, root_of}
use Rattle.meaning.specs.Rules.Answers.{answer, blank}
use Rattle.meaning.specs.Rules.Lent.{output_after}
use Rattle.meaning.specs.Rules.Refusals.{◌then◌, require, done, is_done, answered_with, work_after}
use Rattle.meaning.specs.Rules.Layout.{sizes, work_for, room, layout}
use Rattle.meaning.specs.Rules.Verification.{verification}
use Rattle.meaning.specs.Rules.Evaluable.{sound}
use Rattle.meaning.specs.Rules.Assignments.{given, is_assignment}
use Rattle.meaning.specs.Rules.Pairs.{pair_words, pairs}
use Rattle.meaning.specs.Rules.Comparison.{Comparison, few_inputs, compare_trees, comparison_refused}
use Rattle.meaning.specs.Rules.Separation.{Separation, bounded, separate_tree, separation_refused}
use Rattle.meaning.specs.Rules.Canonical.{gates, canonical_nodes, canonical_pool}

-- ==== verify (000, `verify_expr`): "the verifier's own call ends at 6 and never answers 7 or 8"

unfoldable pub verify_refusal : List ℕ → List ℕ → ℕ → Refusal
verify_refusal ns ps work = sizes ns ps then room (work_for ns ps) work then layout ns ps then verification ns ps

pub record Verified : Type 0 where
  pub answer : Refusal
  pub work : List ℕ

abbrev pub verified : Refusal → List ℕ → Verified
verified r work = record { answer = r; work = work }

unfoldable pub verify : List ℕ → List ℕ → List ℕ → Verified
verify ns ps work = let r = verify_refusal ns ps (length work) in verified r (work_after r work)

-- ==== evaluate (000, `eval`)

-- 12: "an assignment slice over 256 bytes, or a byte above 2"
abbrev pub assigned : List ℕ → Refusal
assigned bytes = require (is_assignment bytes) bad_assignment

-- 19: "an output slice shorter than the answer"
abbrev pub fits_pairs : List ℕ → ℕ → Refusal
fits_pairs ns out = require (leb (pair_words ns) out) short_output

unfoldable pub evaluate_refusal : List ℕ → List ℕ → List ℕ → ℕ → ℕ → Refusal
evaluate_refusal ns ps bytes work out =
    sizes ns ps then room (work_for ns ps) work then sound ns ps then assigned bytes then fits_pairs ns out

-- what an evaluation answers, refused or not
pub record Evaluation : Type 0 where
  pub refusal : Refusal
  pub answer : Answer

pub record Evaluated : Type 0 where
  pub answer : Evaluation
  pub work : List ℕ
  pub out : List ℕ

abbrev pub evaluated : Evaluation → List ℕ → List ℕ → Evaluated
evaluated r work out = record { answer = r; work = work; out = out }

-- the root's answer; "other fields zero (.. an answer width 0 and value 0)"
unfoldable pub evaluation : Refusal → List ℕ → List ℕ → List ℕ → Evaluation
evaluation r ns ps bytes =
    let root = answer (given bytes) (root_of ns ps) in
    record { refusal = r; answer = cond (is_done r) root blank }

unfoldable pub evaluate : List ℕ → List ℕ → List ℕ → List ℕ → List ℕ → Evaluated
evaluate ns ps bytes work out =
    let r = evaluate_refusal ns ps bytes (length work) (length out) in
    evaluated (evaluation r ns ps bytes) (work_after r work) (output_after (is_done r) (pairs ns ps bytes) out)

-- how code answers it: the root's answer, or the refusal; and what such an answer is, whole
abbrev pub evaluation_result : Evaluation → Result Answer Refusal
evaluation_result e = answered_with e.refusal e.answer

abbrev pub evaluation_said : Result Answer Refusal → Evaluation
evaluation_said (Ok a) = record { refusal = done; answer = a }
evaluation_said (Err r) = record { refusal = r; answer = blank }

-- ==== compare (000, `func_equiv`)

unfoldable pub compare_refusal : List ℕ → List ℕ → List ℕ → List ℕ → ℕ → Refusal
compare_refusal ns ps ms qs work =
    sizes ns ps then sizes ms qs then room (work_for ns ps + work_for ms qs) work then
    sound ns ps then sound ms qs then few_inputs (root_of ns ps) (root_of ms qs)

pub record Compared : Type 0 where
  pub answer : Comparison
  pub work : List ℕ

abbrev pub compared : Comparison → List ℕ → Compared
compared c work = record { answer = c; work = work }

unfoldable pub comparison : List ℕ → List ℕ → List ℕ → List ℕ → ℕ → Comparison
comparison ns ps ms qs work =
    let r = compare_refusal ns ps ms qs work in
    let c = compare_trees (root_of ns ps) (root_of ms qs) in
    cond (is_done r) c (comparison_refused r)

unfoldable pub compare : List ℕ → List ℕ → List ℕ → List ℕ → List ℕ → Compared
compare ns ps ms qs work =
    compared (comparison ns ps ms qs (length work)) (work_after (compare_refusal ns ps ms qs (length work)) work)

-- ==== separate (added)

unfoldable pub separate_refusal : List ℕ → List ℕ → ℕ → ℕ → ℕ → Refusal
separate_refusal ns ps n run work =
    sizes ns ps then room (work_for ns ps) work then sound ns ps then bounded ns n run

pub record Judged : Type 0 where
  pub answer : Separation
  pub work : List ℕ

abbrev pub judged : Separation → List ℕ → Judged
judged s work = record { answer = s; work = work }

unfoldable pub separation : List ℕ → List ℕ → ℕ → ℕ → ℕ → Separation
separation ns ps n run work =
    let r = separate_refusal ns ps n run work in
    let s = separate_tree (root_of ns ps) n run in
    cond (is_done r) s (separation_refused r)

unfoldable pub separate : List ℕ → List ℕ → ℕ → ℕ → List ℕ → Judged
separate ns ps n run work =
    judged (separation ns ps n run (length work)) (work_after (separate_refusal ns ps n run (length work)) work)

-- ==== canonicalise (000, `canonicalize_expr`)

-- 19: "an output slice shorter than the answer, or a list answered above the limits"
abbrev pub fits_lists : List ℕ → List ℕ → ℕ → ℕ → Bool
fits_lists ns ps out_nodes out_pool =
    leb (length (canonical_nodes ns ps)) out_nodes && leb (length (canonical_pool ns ps)) out_pool
    && leb (node_count (canonical_nodes ns ps)) most_nodes && leb (length (canonical_pool ns ps)) most_pool

unfoldable pub canonical_refusal : List ℕ → List ℕ → ℕ → ℕ → ℕ → Refusal
canonical_refusal ns ps work out_nodes out_pool =
    sizes ns ps then room (work_for ns ps) work then sound ns ps then gates ns ps then
    require (fits_lists ns ps out_nodes out_pool) short_output

-- what the canonicaliser answers, refused or not
pub record Canonical : Type 0 where
  pub refusal : Refusal
  pub nodes : ℕ
  pub pool : ℕ

pub record Canonicalised : Type 0 where
  pub answer : Canonical
  pub work : List ℕ
  pub out_nodes : List ℕ
  pub out_pool : List ℕ

abbrev pub canonicalised : Canonical → List ℕ → List ℕ → List ℕ → Canonicalised
canonicalised c work out_nodes out_pool = record { answer = c; work = work; out_nodes = out_nodes; out_pool = out_pool }

-- how many words of each output slice the answer takes
unfoldable pub canonical : Refusal → List ℕ → List ℕ → Canonical
canonical r ns ps =
    let n = length (canonical_nodes ns ps) in
    let p = length (canonical_pool ns ps) in
    record { refusal = r; nodes = cond (is_done r) n 0; pool = cond (is_done r) p 0 }

unfoldable pub canonicalise : List ℕ → List ℕ → List ℕ → List ℕ → List ℕ → Canonicalised
canonicalise ns ps work out_nodes out_pool =
    let r = canonical_refusal ns ps (length work) (length out_nodes) (length out_pool) in
    canonicalised (canonical r ns ps) (work_after r work)
    (output_after (is_done r) (canonical_nodes ns ps) out_nodes) (output_after (is_done r) (canonical_pool ns ps) out_pool)

-- how code answers it: how many words of each slice, or the refusal; and what such an answer is, whole
abbrev pub canonical_result : Canonical → Result code.Canonical Refusal
canonical_result c = answered_with c.refusal (record { nodes = c.nodes; pool = c.pool })

abbrev pub canonical_said : Result code.Canonical Refusal → Canonical
canonical_said (Ok c) = record { refusal = done; nodes = c.nodes; pool = c.pool }
canonical_said (Err r) = record { refusal = r; nodes = 0; pool = 0 }
