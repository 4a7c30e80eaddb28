-- Truth tables, "shown once over k": the row of a table is what it was made from, and dropping an operand keeps the rows left.
use Rattle.std.specs.Prelude.{ℕ, zero, suc, ◌+◌, ◌-◌, ◌*◌, ◌%◌, ◌^◌, ◌<◌, ◌≡◌, refl, List, ◌∷◌, ◌++◌, [], length, get_or, take, drop, true, eqb}
use Rattle.std.proofs.Common.{sym, ap, ◌∙◌, length-drop, add-mul, mul_assoc, pow-suc, add_comm, mul_comm, mod-eq_of_lt, arith, eqb-true}
use Rattle.std.proofs.Math.Seq.{split_at}
use Rattle.std.proofs.Math.Decide.{dec_lt}
use Rattle.std.proofs.Math.Pow.{high, low}
use Rattle.std.proofs.Math.Arith.{digits_lt}
use Rattle.meaning.proofs.Laws.WordLaws.{bit_low, bit_lt}
use Rattle.meaning.proofs.Laws.BoolLaws.{not_is_false}
use Rattle.meaning.specs.Rules.Words.{bit_at}
use Rattle.meaning.specs.Rules.Search.{lowest}
use Rattle.meaning.proofs.Laws.SearchLaws.{lowest_is}
use Rattle.meaning.specs.Rules.Tables.{table, insert_bit, cofactor, pair_differs, ignores, row_from, but_one}

-- a table of bits over n rows is below 2 ^ n
pub table_lt : (f : ℕ → ℕ) → ((i : ℕ) → f i < 2) → (n : ℕ) → table f n < 2 ^ n
table_lt f h zero = omega arith
table_lt f h (suc n) = rw (pow-suc 2 n, mul_comm (2 ^ n) 2, add_comm (table f n) (f n * 2 ^ n)) (digits_lt (h n) (table_lt f h n))

-- row i of the table made from f is f i
pub table_row : (f : ℕ → ℕ) → ((i : ℕ) → f i < 2) → (n i : ℕ) → i < n → bit_at (table f n) i ≡ f i
table_row f h zero i k = absurd (omega arith)
table_row f h (suc n) i k = rw (add_comm (table f n) (f n * 2 ^ n)) (go (dec_lt i n) (table_row f h n i))
  where
    go : Dec (i < n) → (i < n → bit_at (table f n) i ≡ f i) → bit_at (f n * 2 ^ n + table f n) i ≡ f i
    go (yes l) ih = bit_low (f n) (table f n) n i (table_lt f h n) l ∙ ih l
    go (no l) ih =
        let e : i ≡ n = omega arith in
        rw e (ap (λ (x : ℕ). x % 2) (high (f n) n (table_lt f h n)) ∙ mod-eq_of_lt (h n))

-- ---- rows as lists of bits, the first the most significant

pub data AreBits : List ℕ → Type 0 where
  nil : AreBits []
  bit : {b : ℕ} {bs : List ℕ} → b < 2 → AreBits bs → AreBits (b ∷ bs)

pub bits_take : (j : ℕ) {bs : List ℕ} → AreBits bs → AreBits (take j bs)
bits_take zero h = nil
bits_take (suc j) nil = nil
bits_take (suc j) (bit b h) = bit b (bits_take j h)

pub bits_drop : (j : ℕ) {bs : List ℕ} → AreBits bs → AreBits (drop j bs)
bits_drop zero h = h
bits_drop (suc j) nil = nil
bits_drop (suc j) (bit b h) = bits_drop j h

pub bits_append : {bs cs : List ℕ} → AreBits bs → AreBits cs → AreBits (bs ++ cs)
bits_append nil k = k
bits_append (bit b h) k = bit b (bits_append h k)

pub bits_at : {bs : List ℕ} (j : ℕ) → AreBits bs → get_or bs j 0 < 2
bits_at j nil = omega arith
bits_at zero (bit b h) = b
bits_at (suc j) (bit b h) = bits_at j h

shifted : (r b q : ℕ) → (r * 2 + b) * 2 ^ q ≡ r * 2 ^ suc q + b * 2 ^ q
shifted r b q =
    add-mul (r * 2) b (2 ^ q)
    ∙ ap (λ (x : ℕ). x + b * 2 ^ q) (mul_assoc r 2 (2 ^ q) ∙ ap (λ (x : ℕ). r * x) (mul_comm 2 (2 ^ q) ∙ sym (pow-suc 2 q)))

row_from_lem : (r : ℕ) (bs : List ℕ) → row_from r bs ≡ r * 2 ^ length bs + row_from 0 bs
row_from_lem r [] = omega arith
row_from_lem r (b ∷ bs) =
    omega (arith, row_from_lem (r * 2 + b) bs, row_from_lem (0 * 2 + b) bs, shifted r b (length bs), shifted 0 b (length bs))

pub row_lt : {bs : List ℕ} → AreBits bs → row_from 0 bs < 2 ^ length bs
row_lt nil = omega arith
row_lt (bit {b = b} {bs = bs} h k) =
    rw (row_from_lem (0 * 2 + b) bs, pow-suc 2 (length bs), mul_comm (2 ^ length bs) 2) (digits_lt (omega arith) (row_lt k))

row_append : (r : ℕ) (bs cs : List ℕ) → row_from r (bs ++ cs) ≡ row_from (row_from r bs) cs
row_append r [] cs = refl
row_append r (b ∷ bs) cs = row_append (r * 2 + b) bs cs

-- the row that the bits but one are
row_split : (xs : List ℕ) (b : ℕ) {ys : List ℕ} → AreBits ys → row_from 0 (xs ++ b ∷ ys) ≡ insert_bit (length ys) b (row_from 0 (xs ++ ys))
row_split xs b {ys} h =
    row_append 0 xs (b ∷ ys) ∙ row_from_lem (X * 2 + b) ys
    ∙ sym (rw (row_append 0 xs ys, row_from_lem X ys, high X (length ys) (row_lt h), low X (length ys) (row_lt h)) refl)
  where
    X : ℕ
    X = row_from 0 xs

-- "the program keeps the rows left in order": a row is the row of the bits but one, with that bit put in
pub row_insert : (bs : List ℕ) (j : ℕ) → AreBits bs → j < length bs
    → row_from 0 bs ≡ insert_bit (length bs - suc j) (get_or bs j 0) (row_from 0 (but_one j bs))
row_insert bs j h k =
    ap (row_from 0) (split_at bs j 0 k)
    ∙ row_split (take j bs) (get_or bs j 0) (bits_drop (suc j) h)
    ∙ ap (λ (q : ℕ). insert_bit q (get_or bs j 0) (row_from 0 (but_one j bs))) (length-drop (suc j) bs)

-- row i of the cofactor
pub cofactor_row : (p k q b i : ℕ) → i < 2 ^ k → bit_at (cofactor p k q b) i ≡ bit_at p (insert_bit q b i)
unfolding cofactor
cofactor_row p k q b i h = table_row (λ i. bit_at p (insert_bit q b i)) (λ i. bit_lt p (insert_bit q b i)) (2 ^ k) i h

pub cofactor_lt : (p k q b : ℕ) → cofactor p k q b < 2 ^ (2 ^ k)
unfolding cofactor
cofactor_lt p k q b = table_lt (λ i. bit_at p (insert_bit q b i)) (λ i. bit_lt p (insert_bit q b i)) (2 ^ k)

-- an operand that is ignored: both its values pick the same row bit
pub ignores_row : (p k q b i : ℕ) → ignores p k q ≡ true → b < 2 → i < 2 ^ k → bit_at p (insert_bit q b i) ≡ bit_at p (insert_bit q 0 i)
unfolding ignores
ignores_row p k q b i h hb hi = go b hb
  where
    none : lowest (pair_differs p q) (2 ^ k) ≡ 2 ^ k
    none = eqb-true (lowest (pair_differs p q) (2 ^ k)) (2 ^ k) h

    alike : bit_at p (insert_bit q 0 i) ≡ bit_at p (insert_bit q 1 i)
    alike =
        eqb-true _ _ (not_is_false (eqb (bit_at p (insert_bit q 0 i)) (bit_at p (insert_bit q 1 i)))
        ((lowest_is (pair_differs p q) (2 ^ k)).before i (omega arith) (omega (arith, none))))

    go : (b : ℕ) → b < 2 → bit_at p (insert_bit q b i) ≡ bit_at p (insert_bit q 0 i)
    go zero hb = refl
    go (suc zero) hb = sym alike
    go (suc (suc b)) hb = absurd (omega arith)
