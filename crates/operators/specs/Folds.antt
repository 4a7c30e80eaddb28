-- A loop over a Lut's operands, and one over a Bus's members, as the code goes: what has been gathered up to place i, what one
-- turn adds, what a failure ends and what the end says. The answers of all children are xs; a Lut's first is its program's.
use Rattle.std.specs.Prelude.{ℕ, suc, ◌+◌, ◌-◌, ◌*◌, ◌^◌, ◌≤◌, ◌<◌, ◌≡◌, refl, List, [], ◌∷◌, length, drop}
use Rattle.std.proofs.Common.{sym, ap, subst, ◌∙◌, lt_of_lt_of_le, add-one, arith, drop_of_length-le, drop-cons, pow_mono}
use Rattle.meaning.specs.declared.Failure.{Failure}
use Rattle.meaning.specs.declared.Answer.{Answer}
use Rattle.meaning.specs.declared.Answer.TheVariants.{Value, Failed}
use Rattle.meaning.specs.Rules.Answers.{blank, nth, operands, row_bit, lut_of, bus_of}
use Rattle.operators.specs.Widths.{Held, held_more, held_lt, double_lt, bus_held, bus_cons}

module _ (xs : List Answer) where
  -- ---- Lut: the operands from place 1 up to i are values, and `row` is their bits
  pub record RowTo (i row : ℕ) : Type 0 where
    pub narrow : row < 2 ^ (i - 1)
    pub rest : operands (Value (i - 1) row) (drop i xs) ≡ operands blank (drop 1 xs)

  pub row_start : RowTo 1 0
  row_start = record { narrow = omega arith; rest = refl }

  pub row_more : (i row w v : ℕ) (x : Answer) → 1 ≤ i → i < length xs → RowTo i row → x ≡ nth xs i → Held 1 x → x ≡ Value w v
      → RowTo (i + 1) (row * 2 + v)
  row_more i row w v x from h g e bit is =
      let here : nth xs i ≡ Value w v = sym e ∙ is in
      let next : suc (i - 1) ≡ i + 1 - 1 = omega arith in
      record {
        narrow = subst (λ (k : ℕ). row * 2 + v < 2 ^ k) next (double_lt (i - 1) row v g.narrow (held_lt 1 w v x bit is));
        rest =
            ap (λ (k : ℕ). operands (Value k (row * 2 + v)) (drop (i + 1) xs)) (sym next)
            ∙ rw (add-one i) (ap (λ (y : Answer). operands (Value (i - 1) row) (y ∷ drop (suc i) xs)) (sym here))
            ∙ ap (operands (Value (i - 1) row)) (sym (drop-cons xs i blank h)) ∙ g.rest;
      }

  -- "the first failing operand in order" ends it
  pub row_fails : (p i row : ℕ) (x : Answer) (f : Failure) → i < length xs → RowTo i row → x ≡ nth xs i → x ≡ Failed f
      → x ≡ lut_of p (drop 1 xs)
  row_fails p i row x f h g e is =
      let here : nth xs i ≡ Failed f = sym e ∙ is in
      let met : operands (Value (i - 1) row) (drop i xs) ≡ Failed f =
      ap (operands (Value (i - 1) row)) (drop-cons xs i blank h) ∙ ap (λ (y : Answer). operands (Value (i - 1) row) (y ∷ drop (suc i) xs)) here in
      is ∙ ap (row_bit p) (sym met ∙ g.rest)

  pub row_done : (p i row : ℕ) (r : Answer) → length xs ≤ i → RowTo i row → r ≡ row_bit p (Value 0 row) → r ≡ lut_of p (drop 1 xs)
  row_done p i row r h g e =
      e ∙ ap (row_bit p) (ap (operands (Value (i - 1) row)) (sym (drop_of_length-le xs h)) ∙ g.rest)

  -- a row of at most six operands is a place in a word
  pub row_lt : (i row : ℕ) → i ≤ 7 → RowTo i row → row < 64
  row_lt i row h g = let few : i - 1 ≤ 6 = omega arith in lt_of_lt_of_le g.narrow (pow_mono few)

  -- ---- Bus: `bus` is what the members up to i make
  pub record BusTo (i : ℕ) (bus : Answer) : Type 0 where
    pub narrow : Held i bus
    pub rest : bus_of bus (drop i xs) ≡ bus_of blank xs

  pub bus_start : BusTo 0 blank
  bus_start = record { narrow = (omega arith, omega arith); rest = refl }

  pub bus_more : (i : ℕ) (bus bus' x : Answer) → i < length xs → BusTo i bus → x ≡ nth xs i → Held 1 x → bus' ≡ bus_of bus (x ∷ [])
      → BusTo (i + 1) bus'
  bus_more i bus bus' x h g e bit q = record {
    narrow = held_more (suc i) (i + 1) bus' (omega arith) (rw q (bus_held i bus x g.narrow bit));
    rest =
        ap (λ (a : Answer). bus_of a (drop (i + 1) xs)) (q ∙ ap (λ (y : Answer). bus_of bus (y ∷ [])) e)
        ∙ rw (add-one i) (sym (bus_cons bus (nth xs i) (drop (suc i) xs))) ∙ ap (bus_of bus) (sym (drop-cons xs i blank h)) ∙ g.rest;
  }

  pub bus_done : (i : ℕ) (bus : Answer) → length xs ≤ i → BusTo i bus → bus ≡ bus_of blank xs
  bus_done i bus h g = sym (nil bus) ∙ ap (bus_of bus) (sym (drop_of_length-le xs h)) ∙ g.rest
    where
      nil : (r : Answer) → bus_of r [] ≡ r
      nil (Value w r) = refl
      nil (Failed f) = refl
