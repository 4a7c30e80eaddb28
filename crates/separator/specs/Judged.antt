-- The judgement by the index that the search answers with: none at 2^n, else the two answers there.
use Rattle.std.specs.Prelude.{ℕ, ◌-◌, ◌^◌, ◌≤◌, ◌<◌, min, ◌≡◌, ◌≢◌, List, Bool, true, false, cond, length, get_or, take}
use Rattle.std.proofs.Math.Path.{refl}
use Rattle.std.proofs.Common.{sym, ap, ◌∙◌, arith, length-take-le, pow_mono}
use Rattle.std.specs.Int.Bits.{bit_and}
use borrow.Author.Tests.{eq-eqb, ne_eqb, eqb-true, eqb-false}
use Rattle.meaning.specs.declared.Answer.{Answer}
use Rattle.meaning.specs.Rules.Limits.{most_inputs, variable_count}
use Rattle.meaning.specs.Rules.Words.{bit_at, ones}
use Rattle.meaning.specs.Rules.Trees.{Tree, root_of}
use Rattle.meaning.specs.Rules.Answers.{Assignment, answer}
use Rattle.meaning.specs.Rules.Assignments.{upto, drive}
use Rattle.meaning.specs.Rules.Separation.{is_marked, run_cleared, crossing_index, separated, crossing_at, separate_tree}
use Rattle.meaning.proofs.Laws.WordLaws.{bit_lt}
use Rattle.meaning.proofs.Laws.AssignmentLaws.{upto_length}
use Rattle.inputs.specs.Inputs.{selected_below}
use Rattle.inputs.specs.Driving.{Drivable}
use Rattle.inputs.specs.Room.{undriven_bytes, undriven_length, fresh_undriven}
use Rattle.input_bits.specs.Seen.{IsMask}
use Rattle.crossings.specs.Driven.{cleared_is, without_bit}
use Rattle.crossings.specs.Lowest.{answer_at}
use Rattle.crossings.specs.Searching.{Searchable}

-- ---- the judgement
module _ (t : Tree) (n run : ℕ) where
  pub no_crossing : crossing_index t n run ≡ 2 ^ n → separated ≡ separate_tree t n run
  unfolding separate_tree
  no_crossing e = rw (eq-eqb (crossing_index t n run) (2 ^ n) e) refl

  -- i with its run bits cleared, in words of 64 bits
  module _ (marks : run < 2 ^ n) (few : n ≤ 64) (i : ℕ) where
    cleared_bit : (v : ℕ) → v < n → bit_at (bit_and i (ones 64 - run)) v ≡ cond (is_marked run v) 0 (bit_at i v)
    cleared_bit v h = without_bit i run v (omega (arith, marks, pow_mono few)) (omega arith) ∙ go (is_marked run v) refl
      where
        go : (b : Bool) → is_marked run v ≡ b → min (bit_at i v) (1 - bit_at run v) ≡ cond b 0 (bit_at i v)
        go true e = omega (arith, eqb-true (bit_at run v) 1 e)
        go false e = omega (arith, eqb-false (bit_at run v) 1 e, bit_lt run v, bit_lt i v)

    pub cleared_answer : answer_at t n (bit_and i (ones 64 - run)) ≡ answer (run_cleared run (drive (upto n) i)) t
    cleared_answer = ap (λ (α : Assignment). answer α t) (sym (cleared_is n run marks i (bit_and i (ones 64 - run)) cleared_bit))

    pub crossing : i ≡ crossing_index t n run → i ≢ 2 ^ n → (x y : Answer) → x ≡ answer_at t n i → y ≡ answer_at t n (bit_and i (ones 64 - run))
        → crossing_at i x y ≡ separate_tree t n run
    unfolding separate_tree
    crossing e below x y f g = rw (f, g, cleared_answer, ← e, ne_eqb i (2 ^ n) below) refl

-- ---- what the search is given
module _ (ns ps vs : List ℕ) (n inputs run : ℕ) (size : n ≤ length vs) (named : take n vs ≡ upto n) where
  pub named_length : length (take n vs) ≡ n
  named_length = length-take-le n vs size

  pub searchable : n < 64 → inputs < 2 ^ n → IsMask (root_of ns ps) inputs → run < 2 ^ n → Searchable ns ps (take n vs) inputs run
  searchable few small mask marks = record {
    numbered = named ∙ ap upto (sym named_length);
    few = rw named_length few;
    inputs_small = rw named_length small;
    is_mask = mask;
    marks_small = rw named_length marks;
  }

  pub drivable : n ≤ most_inputs → (bytes : List ℕ) → bytes ≡ undriven_bytes variable_count → Drivable (take n vs) bytes
  drivable few bytes e = record {
    few = rw named_length few;
    within = λ j h.
        let below : get_or (upto n) j 0 < n = selected_below (λ v. true) n j (omega (arith, h, named_length, upto_length n)) in
        let size : length bytes ≡ variable_count = ap length e ∙ undriven_length variable_count in
        omega (arith, ap (λ (xs : List ℕ). get_or xs j 0) named, below, size, few);
    others = rw e (fresh_undriven (take n vs) variable_count);
  }
