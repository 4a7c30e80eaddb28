-- What both evaluators do at a node, the plain one and the pass: the arms of a kind, a Lut's loop over its operands and a Bus's
-- over its members. Where a node's operands are read, their answers are those at their places in `answers_at`.
use Rattle.std.specs.Prelude.{ℕ, ◌+◌, ◌*◌, ◌^◌, ◌≤◌, ◌<◌, ◌≡◌, refl, List, [], ◌∷◌, cond, length, get_or, eqb}
use Rattle.std.proofs.Common.{sym, ap, ◌∙◌, arith, lt-ltb}
use Rattle.meaning.specs.declared.Failure.{Failure}
use Rattle.meaning.specs.declared.Answer.{Answer}
use Rattle.meaning.specs.declared.Answer.TheVariants.{Value, Failed}
use Rattle.meaning.specs.declared.kinds.Kind.{Kind}
use Rattle.meaning.specs.declared.kinds.Kind.TheVariants.{Mux, Lut, Bus}
use Rattle.meaning.specs.Rules.Kinds.{kind_of, lut_word}
use Rattle.meaning.specs.Rules.Trees.{kind_at, count_at, datum_at, children_at, tree_of}
use Rattle.meaning.specs.Rules.Answers.{answer, step, nth, blank, value_of, row_bit, bus_of, mux_of}
use Rattle.meaning.specs.Rules.Assignments.{given}
use Rattle.meaning.specs.Claims.Column.{Sound}
use Rattle.operators.specs.Folds.{RowTo, row_start, row_more, row_fails, row_done, row_lt, BusTo, bus_start, bus_more, bus_done}
use Rattle.operators.specs.Widths.{Held, held_more, held_lt}
use Rattle.accepted.specs.Nodes.{Logic, answers_at, answer_is, children_length, only_word}
use Rattle.accepted.specs.Operands.{Operand, fixed, bus_size, answers_size, lut_operand, bus_member, lut_children, lut_program, mux_failed, mux_arm, arm_lt}

-- ---- how far a loop has come
module _ (ns ps bytes : List ℕ) (n count : ℕ) where
  -- the operands of a Lut from place 1 up to i; the program is at place 0
  pub record LutTo (i row : ℕ) : Type 0 where
    pub from : 0 < i
    pub inside : i ≤ count
    pub all : count ≡ length (children_at ns ps n)
    pub gathered : RowTo (answers_at ns ps (given bytes) n) i row

  -- the members of a Bus up to i
  pub record MembersTo (i : ℕ) (bus : Answer) : Type 0 where
    pub inside : i ≤ count
    pub all : count ≡ length (children_at ns ps n)
    pub gathered : BusTo (answers_at ns ps (given bytes) n) i bus

module _ {ns ps : List ℕ} {n : ℕ} (s : Sound ns ps) (g : Logic ns ps n) (bytes : List ℕ) where
  -- what a node's kind makes of its operands' answers is the node's own
  pub answered : (κ : Kind) (x : Answer) → kind_of (kind_at ns n) ≡ κ
      → x ≡ step (given bytes) κ (datum_at ns n) (answers_at ns ps (given bytes) n) → x ≡ answer (given bytes) (tree_of ns ps n)
  answered κ x k e = e ∙ sym (answer_is ns ps s n g.inside (given bytes) κ k)

  all_children : (count : ℕ) → 3 < kind_at ns n → count ≡ count_at ns n → count ≡ length (children_at ns ps n)
  all_children count h e = e ∙ sym (children_length ns ps s n g.inside h)

  -- ---- Mux: the selector's failure, or the arm that it chooses
  module _ (k : kind_of (kind_at ns n) ≡ Mux) where
    pub mux_selector : Operand ns ps n 0
    mux_selector = fixed ns ps s n g.inside Mux 3 0 k (λ c. refl) refl (omega arith)

    pub mux_takes : (v a : ℕ) → a ≡ cond (eqb v 0) 2 1 → Operand ns ps n a
    mux_takes v a e = let l = arm_lt v a e in fixed ns ps s n g.inside Mux 3 a k (λ c. refl) (lt-ltb a 3 l) l

    pub mux_fails : (x : Answer) (f : Failure) → x ≡ nth (answers_at ns ps (given bytes) n) 0 → x ≡ Failed f → x ≡ answer (given bytes) (tree_of ns ps n)
    mux_fails x f e is =
        let xs = answers_at ns ps (given bytes) n in
        answered Mux x k (mux_failed x (nth xs 1) (nth xs 2) f is ∙ ap (λ (y : Answer). mux_of y (nth xs 1) (nth xs 2)) e)

    pub mux_chooses : (x y : Answer) (w v a : ℕ) → x ≡ nth (answers_at ns ps (given bytes) n) 0 → x ≡ Value w v → a ≡ cond (eqb v 0) 2 1
        → y ≡ nth (answers_at ns ps (given bytes) n) a → y ≡ answer (given bytes) (tree_of ns ps n)
    mux_chooses x y w v a e is arm read =
        let xs = answers_at ns ps (given bytes) n in
        answered Mux y k (read ∙ ap (nth xs) arm ∙ mux_arm xs x w v is ∙ ap (λ (z : Answer). mux_of z (nth xs 1) (nth xs 2)) e)

  -- ---- Lut: operand by operand, then a row of its program
  module _ (k : kind_of (kind_at ns n) ≡ Lut) where
    lut : kind_at ns n ≡ lut_word
    lut = only_word (kind_at ns n) Lut k (omega arith)

    pub lut_starts : (count : ℕ) → count ≡ count_at ns n → LutTo ns ps bytes n count 1 0
    lut_starts count e =
        let all = all_children count (omega (arith, lut)) e in
        record {
          from = omega arith;
          inside = omega (arith, all, (lut_children ns ps s n g lut).some);
          all = all;
          gathered = row_start (answers_at ns ps (given bytes) n);
        }

    module _ (count i row : ℕ) (to : LutTo ns ps bytes n count i row) where
      -- the row so far is a place in a word
      pub row_small : row < 64
      row_small =
          row_lt (answers_at ns ps (given bytes) n) i row
          (omega (arith, to.inside, to.all, (lut_children ns ps s n g lut).few)) to.gathered

      pub lut_done : (x : Answer) (p : ℕ) → count ≤ i → p ≡ datum_at ns (get_or (children_at ns ps n) 0 0) → x ≡ row_bit p (Value 0 row)
          → x ≡ answer (given bytes) (tree_of ns ps n)
      lut_done x p h program e =
          let xs = answers_at ns ps (given bytes) n in
          answered Lut x k
          (row_done xs (value_of (nth xs 0)) i row x (rw (answers_size ns ps s n (given bytes)) (omega (arith, to.all))) to.gathered
          (rw (lut_program ns ps s n g (given bytes) lut, ← program) e))

      -- operand i is read
      module _ (x : Answer) (below : i < count) (read : x ≡ nth (answers_at ns ps (given bytes) n) i) where
        there : i < length (answers_at ns ps (given bytes) n)
        there = rw (answers_size ns ps s n (given bytes)) (omega (arith, to.all))

        bit : Held 1 x
        bit = rw read (lut_operand ns ps s n g (given bytes) i k to.from (omega (arith, to.all)))

        pub lut_fails : (f : Failure) → x ≡ Failed f → x ≡ answer (given bytes) (tree_of ns ps n)
        lut_fails f is =
            let xs = answers_at ns ps (given bytes) n in
            answered Lut x k (row_fails xs (value_of (nth xs 0)) i row x f there to.gathered read is)

        pub row_fits : (w v : ℕ) → x ≡ Value w v → row * 2 + v < 2 ^ 64
        row_fits w v is = omega (arith, row_small, held_lt 1 w v x bit is)

        pub lut_more : (w v : ℕ) → x ≡ Value w v → LutTo ns ps bytes n count (i + 1) (row * 2 + v)
        lut_more w v is = record {
          from = omega arith;
          inside = omega arith;
          all = to.all;
          gathered = row_more (answers_at ns ps (given bytes) n) i row w v x (omega (arith, to.from)) there to.gathered read bit is;
        }

  -- ---- Bus: member by member
  module _ (k : kind_of (kind_at ns n) ≡ Bus) where
    pub bus_starts : (count : ℕ) → count ≡ count_at ns n → MembersTo ns ps bytes n count 0 blank
    bus_starts count e = record {
      inside = omega arith;
      all = all_children count (omega (arith, only_word (kind_at ns n) Bus k (omega arith))) e;
      gathered = bus_start (answers_at ns ps (given bytes) n);
    }

    module _ (count i : ℕ) (bus : Answer) (to : MembersTo ns ps bytes n count i bus) where
      pub bus_ends : count ≤ i → bus ≡ answer (given bytes) (tree_of ns ps n)
      bus_ends h =
          answered Bus bus k
          (bus_done (answers_at ns ps (given bytes) n) i bus (rw (answers_size ns ps s n (given bytes)) (omega (arith, to.all))) to.gathered)

      -- a word has room for one member more
      pub bus_narrow : i < count → Held 63 bus
      bus_narrow h = held_more i 63 bus (omega (arith, to.all, bus_size ns ps s n g.inside k)) to.gathered.narrow

      -- member i is read
      module _ (x : Answer) (below : i < count) (read : x ≡ nth (answers_at ns ps (given bytes) n) i) where
        pub member_bit : Held 1 x
        member_bit = rw read (bus_member ns ps s n g (given bytes) i k (omega (arith, to.all)))

        pub members_more : (next : Answer) → next ≡ bus_of bus (x ∷ []) → MembersTo ns ps bytes n count (i + 1) next
        members_more next e = record {
          inside = omega arith;
          all = to.all;
          gathered =
              bus_more (answers_at ns ps (given bytes) n) i bus next x (rw (answers_size ns ps s n (given bytes)) (omega (arith, to.all)))
              to.gathered read member_bit e;
        }
