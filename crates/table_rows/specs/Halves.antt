-- Two ways to say one thing: the high and the low half of a program's rows are what is left of it when its most
-- significant operand is tied to 1 and to 0 (document 01, "the high or low half"; "the program keeps the rows left in
-- order"). Shown once over k.
use Rattle.std.specs.Prelude.{ℕ, suc, ◌+◌, ◌*◌, ◌/◌, ◌%◌, ◌^◌, ◌<◌, ◌≡◌}
use Rattle.std.proofs.Common.{sym, ap, ◌∙◌, pow-suc, mod-lt, mod-eq_of_lt, arith, pow_pos, shr_lt}
use Rattle.std.proofs.Math.Nat.{div-eq_of_lt}
use Rattle.bits.specs.Bit.{bit_ext, bit_shr}
use Rattle.meaning.proofs.Laws.TableLaws.{cofactor_row, cofactor_lt}
use Rattle.meaning.proofs.Laws.WordLaws.{bit_mod}
use Rattle.meaning.specs.Rules.Tables.{insert_bit, cofactor, high_half, low_half}
use Rattle.meaning.specs.Rules.Words.{bit_at}

-- row j of the rows left, where the most significant of k + 1 operands is b
top_row : (k b j : ℕ) → j < 2 ^ k → insert_bit k b j ≡ b * 2 ^ k + j
top_row k b j h =
    let none : j / 2 ^ k ≡ 0 = div-eq_of_lt h in
    let all : j % 2 ^ k ≡ j = mod-eq_of_lt h in
    rw (none, all) (ap (λ (x : ℕ). x * 2 ^ k + j) (omega arith))

pub high_half_is : (p k : ℕ) → p < 2 ^ (2 ^ suc k) → high_half p k ≡ cofactor p k k 1
high_half_is p k h = bit_ext (2 ^ k) (high_half p k) (cofactor p k k 1) small (cofactor_lt p k k 1) each
  where
    rows : 2 ^ suc k ≡ 2 ^ k + 2 ^ k
    rows = omega (arith, pow-suc 2 k)

    small : high_half p k < 2 ^ (2 ^ k)
    small = shr_lt (2 ^ k) (2 ^ k) (rw (← rows) h)

    each : (j : ℕ) → j < 2 ^ k → bit_at (high_half p k) j ≡ bit_at (cofactor p k k 1) j
    each j l =
        let top : insert_bit k 1 j ≡ 2 ^ k + j = top_row k 1 j l ∙ omega arith in
        bit_shr p (2 ^ k) j ∙ ap (bit_at p) (sym top) ∙ sym (cofactor_row p k k 1 j l)

pub low_half_is : (p k : ℕ) → low_half p k ≡ cofactor p k k 0
low_half_is p k = bit_ext (2 ^ k) (low_half p k) (cofactor p k k 0) (mod-lt p (pow_pos (2 ^ k))) (cofactor_lt p k k 0) each
  where
    each : (j : ℕ) → j < 2 ^ k → bit_at (low_half p k) j ≡ bit_at (cofactor p k k 0) j
    each j l =
        let low : insert_bit k 0 j ≡ j = top_row k 0 j l ∙ omega arith in
        bit_mod p (2 ^ k) j l ∙ ap (bit_at p) (sym low) ∙ sym (cofactor_row p k k 0 j l)
