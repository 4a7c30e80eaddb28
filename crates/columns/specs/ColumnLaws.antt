-- What is read from a column that was written, what stays, and what a store in it makes of it.
use Prim.Native.Nat.{ℕ, zero, suc, ◌+◌, ◌*◌, ◌≤◌, ◌<◌}
use Rattle.std.specs.Prelude.{◌≡◌, ◌≢◌, cond, length, get_or, replicate, eqb}
use Rattle.std.proofs.Math.Path.{refl, sym, ap, ap₂, subst}
use Rattle.std.proofs.Common.{◌∙◌, add-one, arith, get_or-set_same, eq-eqb, ne_eqb}
use mathlib.Core.List.{List}
use Rattle.std.proofs.Math.Decide.{ℕ_discrete}
use Rattle.std.proofs.Math.ListN.{set, length-set}
use Rattle.std.proofs.Math.Seq.{get_or-set_other, set-set, set_comm}
use Rattle.meaning.specs.Rules.Limits.{work_per_node}
use Rattle.meaning.specs.Rules.Lent.{cleared}
use Rattle.columns.specs.Columns.{place, cell, Column, with_column}

-- clearing depends on the length alone: what was written before does not matter
pub cleared_alike : (v w : List ℕ) → length v ≡ length w → cleared v ≡ cleared w
unfolding cleared
cleared_alike v w e = ap (λ (n : ℕ). replicate n 0) e

module _ (q base : ℕ) where
  -- one row more
  pub with_next : (n : ℕ) (f : ℕ → ℕ) (work : List ℕ) → with_column q base (n + 1) f work ≡ set (with_column q base n f work) (place q (base + n)) (f n)
  unfolding with_column
  with_next n f work = rw (add-one n)

  pub with_none : (f : ℕ → ℕ) (work : List ℕ) → with_column q base 0 f work ≡ work
  unfolding with_column
  with_none f work = refl

  pub with_length : (n : ℕ) (f : ℕ → ℕ) (work : List ℕ) → length (with_column q base n f work) ≡ length work
  unfolding with_column
  with_length zero f work = refl
  with_length (suc n) f work = length-set (with_column q base n f work) (place q (base + n)) (f n) ∙ with_length n f work

  -- what stands nowhere in those rows of the column is not touched
  pub with_elsewhere : (n : ℕ) (f : ℕ → ℕ) (work : List ℕ) (k : ℕ) → ((i : ℕ) → i < n → k ≢ place q (base + i))
      → get_or (with_column q base n f work) k 0 ≡ get_or work k 0
  unfolding with_column
  with_elsewhere zero f work k apart = refl
  with_elsewhere (suc n) f work k apart =
      get_or-set_other (with_column q base n f work) (place q (base + n)) k (f n) 0 (apart n (omega arith))
      ∙ with_elsewhere n f work k (λ i l. apart i (omega arith))

  -- another column is not touched, nor is a row before or after those written
  pub with_other_column : (n : ℕ) (f : ℕ → ℕ) (work : List ℕ) (p j : ℕ) → q < work_per_node → p < work_per_node → p ≢ q
      → cell (with_column q base n f work) p j ≡ cell work p j
  with_other_column n f work p j hq hp ne = with_elsewhere n f work (place p j) (λ i l e. ne (omega arith))

  pub with_row_before : (n : ℕ) (f : ℕ → ℕ) (work : List ℕ) (p j : ℕ) → q < work_per_node → p < work_per_node → j < base
      → cell (with_column q base n f work) p j ≡ cell work p j
  with_row_before n f work p j hq hp h = with_elsewhere n f work (place p j) (λ i l e. absurd (omega arith))

  pub with_row_after : (n : ℕ) (f : ℕ → ℕ) (work : List ℕ) (p j : ℕ) → q < work_per_node → p < work_per_node → base + n ≤ j
      → cell (with_column q base n f work) p j ≡ cell work p j
  with_row_after n f work p j hq hp h = with_elsewhere n f work (place p j) (λ i l e. absurd (omega arith))

  -- what was written is read
  pub with_column_lem : (n : ℕ) (f : ℕ → ℕ) (work : List ℕ) → q < work_per_node → work_per_node * (base + n) ≤ length work
      → Column (with_column q base n f work) q base n f
  unfolding with_column
  with_column_lem zero f work hq room i h = absurd (omega arith)
  with_column_lem (suc n) f work hq room i h = elim (ℕ_discrete i n) [
    | yes e ↦
        subst (λ (x : ℕ). cell (set (with_column q base n f work) (place q (base + n)) (f n)) q (base + x) ≡ f x) (sym e)
        (get_or-set_same (with_column q base n f work) (place q (base + n)) (f n) 0 (rw (with_length n f work) (omega arith)))
    | no e ↦
        get_or-set_other (with_column q base n f work) (place q (base + n)) (place q (base + i)) (f n) 0 (λ p. e (omega arith))
        ∙ with_column_lem n f work hq (omega arith) i (omega arith)
  ]

  -- two functions that agree write the same
  pub with_same : (n : ℕ) (f g : ℕ → ℕ) (work : List ℕ) → ((i : ℕ) → i < n → f i ≡ g i)
      → with_column q base n f work ≡ with_column q base n g work
  unfolding with_column
  with_same zero f g work e = refl
  with_same (suc n) f g work e =
      ap₂ (λ (w : List ℕ) (v : ℕ). set w (place q (base + n)) v) (with_same n f g work (λ i l. e i (omega arith))) (e n (omega arith))

  -- a store in a column that was written is a column written with that one word changed
  abbrev pub changed : (ℕ → ℕ) → ℕ → ℕ → ℕ → ℕ
  changed f i v j = cond (eqb j i) v (f j)

  pub with_stored : (n : ℕ) (f : ℕ → ℕ) (work : List ℕ) (i v : ℕ) → i < n
      → set (with_column q base n f work) (place q (base + i)) v ≡ with_column q base n (changed f i v) work
  unfolding with_column
  with_stored zero f work i v h = absurd (omega arith)
  with_stored (suc n) f work i v h = elim (ℕ_discrete i n) [
    | yes e ↦
        ap (λ (x : ℕ). set (set (with_column q base n f work) (place q (base + n)) (f n)) (place q (base + x)) v) e
        ∙ set-set (with_column q base n f work) (place q (base + n)) (f n) v
        ∙ ap₂ (λ (w : List ℕ) (x : ℕ). set w (place q (base + n)) x)
        (with_same n f (changed f i v) work (λ j l. sym (other j (omega arith)))) (sym (here n (sym e)))
    | no e ↦
        set_comm (with_column q base n f work) (place q (base + n)) (place q (base + i)) (f n) v (λ p. e (omega arith))
        ∙ ap₂ (λ (w : List ℕ) (x : ℕ). set w (place q (base + n)) x) (with_stored n f work i v (omega arith)) (sym (other n (λ p. e (sym p))))
  ]
    where
      here : (j : ℕ) → j ≡ i → changed f i v j ≡ v
      here j e = rw (eq-eqb j i e)

      other : (j : ℕ) → j ≢ i → changed f i v j ≡ f j
      other j e = rw (ne_eqb j i e)

  -- a store elsewhere may come before or after
  pub with_beside : (n : ℕ) (f : ℕ → ℕ) (work : List ℕ) (k v : ℕ) → ((i : ℕ) → i < n → k ≢ place q (base + i))
      → with_column q base n f (set work k v) ≡ set (with_column q base n f work) k v
  unfolding with_column
  with_beside zero f work k v apart = refl
  with_beside (suc n) f work k v apart =
      ap (λ (w : List ℕ). set w (place q (base + n)) (f n)) (with_beside n f work k v (λ i l. apart i (omega arith)))
      ∙ set_comm (with_column q base n f work) k (place q (base + n)) v (f n) (apart n (omega arith))

  -- a column written twice holds what was written last
  pub with_again : (n : ℕ) (f g : ℕ → ℕ) (work : List ℕ) → with_column q base n f (with_column q base n g work) ≡ with_column q base n f work
  unfolding with_column
  with_again zero f g work = refl
  with_again (suc n) f g work =
      ap (λ (w : List ℕ). set w (place q (base + n)) (f n))
      (with_beside n f (with_column q base n g work) (place q (base + n)) (g n) (λ i l e. absurd (omega arith)))
      ∙ set-set (with_column q base n f (with_column q base n g work)) (place q (base + n)) (g n) (f n)
      ∙ ap (λ (w : List ℕ). set w (place q (base + n)) (f n)) (with_again n f g work)
