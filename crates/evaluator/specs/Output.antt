-- The pairs of the rows, written one after another into an output slice.
use Rattle.std.specs.Prelude.{ℕ, zero, suc, ◌+◌, ◌*◌, ◌≤◌, ◌<◌, ◌≡◌, refl, List, [], ◌∷◌, ◌++◌, length, get_or, drop, set}
use Rattle.std.proofs.Common.{sym, ap, ◌∙◌, append_assoc, zero-add, add-one, arith, length-append, drop-cons}
use Rattle.std.proofs.Math.Numerals.{add-two}
use Rattle.std.proofs.lemmas.List.{set_at}
use Rattle.std.proofs.Math.Seq.{append_snoc}
use Rattle.meaning.specs.Rules.Answers.{Assignment}
use Rattle.meaning.specs.Rules.Pairs.{state_at, value_at, pairs_to}
use Rattle.meaning.specs.Rules.Lent.{written}
use Rattle.columns.specs.Columns.{cell, state_column, value_column}
use Rattle.rows.specs.Rows.{Filled}

-- the states and values of the first m rows
abbrev pub row_pairs : List ℕ → ℕ → List ℕ
row_pairs work zero = []
row_pairs work (suc i) = row_pairs work i ++ (cell work state_column i ∷ cell work value_column i ∷ [])

pub rows_length : (work : List ℕ) (m : ℕ) → length (row_pairs work m) ≡ 2 * m
rows_length work zero = refl
rows_length work (suc m) =
    length-append (row_pairs work m) (cell work state_column m ∷ cell work value_column m ∷ []) ∙ omega (arith, rows_length work m)

-- two stores at the end of p, in what was w
two_stores : (p w : List ℕ) (n s v : ℕ) → length p ≡ n → n + 1 < length w
    → set (set (p ++ drop n w) n s) (n + 1) v ≡ p ++ s ∷ v ∷ drop (n + 2) w
two_stores p w n s v e h =
    let d : drop n w ≡ get_or w n 0 ∷ get_or w (suc n) 0 ∷ drop (suc (suc n)) w =
    drop-cons w n 0 (omega arith) ∙ ap (λ (l : List ℕ). get_or w n 0 ∷ l) (drop-cons w (suc n) 0 (omega arith)) in
    let f : length (p ++ (s ∷ [])) ≡ n + 1 = length-append p (s ∷ []) ∙ ap (λ (x : ℕ). x + 1) e in
    rw (
      d,
      set_at p (get_or w n 0) (get_or w (suc n) 0 ∷ drop (suc (suc n)) w) s n e,
      ← append_snoc p s (get_or w (suc n) 0 ∷ drop (suc (suc n)) w),
      set_at (p ++ (s ∷ [])) (get_or w (suc n) 0) (drop (suc (suc n)) w) v (n + 1) f,
      append_snoc,
      add-two n,
    )

-- the pair of row m, stored behind those below it
pub rows_next : (work out : List ℕ) (m state value : ℕ) → state ≡ cell work state_column m → value ≡ cell work value_column m → 2 * m + 1 < length out
    → set (set (row_pairs work m ++ drop (2 * m) out) (2 * m) state) (2 * m + 1) value ≡ row_pairs work (m + 1) ++ drop (2 * (m + 1)) out
rows_next work out m state value a b h =
    let e : 2 * (m + 1) ≡ 2 * m + 2 = omega arith in
    rw (a, b)
    (two_stores (row_pairs work m) out (2 * m) (cell work state_column m) (cell work value_column m) (rows_length work m) h
    ∙ rw (e, add-one m) (sym (append_assoc (row_pairs work m) (cell work state_column m ∷ cell work value_column m ∷ []) (drop (2 * m + 2) out))))

pub rows_written : (work out : List ℕ) (m : ℕ) → row_pairs work m ++ drop (2 * m) out ≡ written (row_pairs work m) out
rows_written work out m = rw (rows_length work m)

-- once the pass has filled them, they are the pairs of an evaluation
pub rows_pairs : (ns ps : List ℕ) (α : Assignment) (work : List ℕ) (n : ℕ) → Filled ns ps α 0 work n → (m : ℕ) → m ≤ n
    → row_pairs work m ≡ pairs_to ns ps α m
rows_pairs ns ps α work n f zero l = refl
rows_pairs ns ps α work n f (suc m) l =
    let below = rows_pairs ns ps α work n f m (omega arith) in
    let state : cell work state_column m ≡ state_at ns ps α m = ap (cell work state_column) (sym (zero-add m)) ∙ f.states m (omega arith) in
    let value : cell work value_column m ≡ value_at ns ps α m = ap (cell work value_column) (sym (zero-add m)) ∙ f.values m (omega arith) in
    rw (below, state, value)
