-- The path from the root to where the walk is, and what is still to be seen along it: at each node of the path, from the
-- last up to the root, the children that are left and then the node itself.
use Prim.Native.Nat.{ℕ, zero, suc, ◌+◌, ◌≤◌, ◌<◌}
use Rattle.std.specs.Prelude.{◌≡◌, List, Bool, true, false, cond, length, get_or, drop, eqb}
use Rattle.std.proofs.Math.Path.{refl}
use Rattle.std.proofs.Common.{sym, ap, ◌∙◌, arith, zero-add, add-one, drop_of_length-le, drop-cons}
use Rattle.meaning.specs.Rules.Kinds.{lut_word}
use Rattle.meaning.specs.Rules.Trees.{Tree, Forest, forest}
use Rattle.meaning.specs.Rules.Listing.{keep, visit, visit_all}
use Rattle.meaning.proofs.Laws.ListingLaws.{Has, Ordered}
use Rattle.columns.specs.Columns.{cell, kind_column, datum_column, count_column, stack_column, next_column}
use Rattle.form_rows.specs.From.{from_length, from_at}
use Rattle.form_rows.specs.Forms.{nf_at, made, program_of, kid_at, kids_in, FormAt}
use Rattle.listed.specs.Keeping.{visit_there, visit_again}

-- the nodes at and behind child i of the form in row h
abbrev pub kids_from : List ℕ → List ℕ → List ℕ → ℕ → ℕ → Forest
kids_from ns ps forms h i = forest (nf_at ns ps) (drop i (kids_in ns ps forms h))

-- what is seen once the children from i on and then the node itself are visited
abbrev pub finished : List ℕ → List ℕ → List ℕ → ℕ → ℕ → List Tree → List Tree
finished ns ps forms h i seen = keep (nf_at ns ps h) (visit_all (kids_from ns ps forms h i) seen)

-- what is seen at the end, from what is seen now, along a path of `depth` nodes
unfoldable pub rest : List ℕ → List ℕ → List ℕ → List ℕ → ℕ → List Tree → List Tree
rest ns ps forms work zero seen = seen
rest ns ps forms work (suc d) seen =
    rest ns ps forms work d (finished ns ps forms (cell work stack_column d) (cell work next_column d) seen)

-- a Lut's Program comes before its operands
unfoldable pub with_program : List ℕ → ℕ → List Tree → List Tree
with_program forms h seen = cond (eqb (cell forms kind_column h) lut_word) (keep (program_of (cell forms datum_column h)) seen) seen

module _ (ns ps forms : List ℕ) where
  -- it depends on the path alone
  pub rest_same : (work left : List ℕ) (depth : ℕ) → ((d : ℕ) → d < depth → cell left stack_column d ≡ cell work stack_column d)
      → ((d : ℕ) → d < depth → cell left next_column d ≡ cell work next_column d)
      → (seen : List Tree) → rest ns ps forms left depth seen ≡ rest ns ps forms work depth seen
  unfolding rest
  rest_same work left zero a b seen = refl
  rest_same work left (suc d) a b seen =
      rw (a d (omega arith), b d (omega arith))
      (rest_same work left d (λ e h. a e (omega arith)) (λ e h. b e (omega arith)) (finished ns ps forms (cell work stack_column d) (cell work next_column d) seen))

  pub rest_last : (work : List ℕ) (d : ℕ) (seen : List Tree)
      → rest ns ps forms work (suc d) seen ≡ rest ns ps forms work d (finished ns ps forms (cell work stack_column d) (cell work next_column d) seen)
  unfolding rest
  rest_last work d seen = refl

  -- ---- at a node of the path
  module _ (h i : ℕ) (more : i < cell forms count_column h) where
    abbrev kid : Tree
    kid = nf_at ns ps (kid_at ns ps forms h i)

    next_kid : (seen : List Tree) → visit_all (kids_from ns ps forms h i) seen ≡ visit_all (kids_from ns ps forms h (suc i)) (visit kid seen)
    next_kid seen =
        let all : List ℕ = kids_in ns ps forms h in
        let there : i < length all = rw (from_length (kid_at ns ps forms h) 0 (cell forms count_column h)) more in
        let is : get_or all i 0 ≡ kid_at ns ps forms h i = from_at (kid_at ns ps forms h) 0 (cell forms count_column h) i more ∙ ap (kid_at ns ps forms h) (zero-add i) in
        rw (drop-cons all i 0 there, is)

    -- a child that is seen is passed over
    pub kid_passed : (seen : List Tree) → Ordered seen → Has seen kid → finished ns ps forms h i seen ≡ finished ns ps forms h (i + 1) seen
    kid_passed seen o there =
        let passed : visit_all (kids_from ns ps forms h i) seen ≡ visit_all (kids_from ns ps forms h (i + 1)) seen =
        next_kid seen ∙ rw (visit_there kid seen o there, add-one i) in
        ap (keep (nf_at ns ps h)) passed

    -- one that is not may be visited first
    pub kid_first : (seen : List Tree) → Ordered seen → finished ns ps forms h i seen ≡ finished ns ps forms h i (visit kid seen)
    kid_first seen o =
        let again : visit_all (kids_from ns ps forms h i) (visit kid seen) ≡ visit_all (kids_from ns ps forms h (suc i)) (visit kid seen) =
        next_kid (visit kid seen) ∙ rw (visit_again kid seen o) in
        ap (keep (nf_at ns ps h)) (next_kid seen ∙ sym again)

  -- with no child left, the node itself is
  pub kids_done : (h i : ℕ) (seen : List Tree) → cell forms count_column h ≤ i → finished ns ps forms h i seen ≡ keep (nf_at ns ps h) seen
  kids_done h i seen l =
      let none_left : length (kids_in ns ps forms h) ≤ i = rw (from_length (kid_at ns ps forms h) 0 (cell forms count_column h)) l in
      rw (drop_of_length-le (kids_in ns ps forms h) none_left)

  -- visiting a node: its Lut's Program, its children, itself
  pub visit_form : (h : ℕ) → FormAt ns ps forms h → (seen : List Tree)
      → visit (nf_at ns ps h) seen ≡ finished ns ps forms h 0 (with_program forms h seen)
  unfolding with_program made
  visit_form h f seen =
      rw f.tree (go (eqb (cell forms kind_column h) lut_word) refl)
    where
      k : ℕ
      k = cell forms kind_column h

      d : ℕ
      d = cell forms datum_column h

      cs : Forest
      cs = forest (nf_at ns ps) (kids_in ns ps forms h)

      go : (b : Bool) → eqb k lut_word ≡ b → visit (made k d cs) seen ≡ keep (made k d cs) (visit_all cs (cond b (keep (program_of d) seen) seen))
      go true e = rw e
      go false e = rw e
