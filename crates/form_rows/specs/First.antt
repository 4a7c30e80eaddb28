-- The first number below n that passes a test, as a search over a range answers it: `lowest` by an Option.
use Rattle.std.specs.Prelude.{ℕ, ◌≤◌, ◌<◌, ◌≡◌, Bool, true, false, Option, Some, None, MatchOption, unwrap_or, length, eqb}
use Rattle.std.specs.Bool.{MatchBool}
use Rattle.std.specs.List.{AllWithin, HoldsAt, range_with_len}
use Rattle.std.proofs.Common.{sym, arith, zero-add}
use Rattle.std.proofs.lemmas.List.FromFn.{length-range_with_len, get_or-range_with_len}
use borrow.Author.Tests.{eq-eqb, ne_eqb}
use Rattle.meaning.specs.Rules.Search.{lowest}
use Rattle.meaning.proofs.Laws.BoolLaws.{true_false}
use Rattle.meaning.proofs.Laws.SearchLaws.{lowest_is, lowest_here, lowest_none}

abbrev pub IsFirst : (ℕ → Bool) → ℕ → Option ℕ → Type 0
IsFirst p n r = MatchOption r ((j : ℕ) → j < n → p j ≡ false) (λ i. (i < n) × (p i ≡ true) × ((j : ℕ) → j < i → p j ≡ false))

-- what `find` says of the range from 0
pub first_in_range : (p : ℕ → Bool) (n : ℕ) (r : Option ℕ)
    → MatchOption r ((k : ℕ) → 0 ≤ k → k < n → p k ≡ false) (λ i. (0 ≤ i) × (i < n) × (p i ≡ true) × ((k : ℕ) → 0 ≤ k → k < i → p k ≡ false))
    → IsFirst p n r
first_in_range p n None h = λ j l. h j (omega arith) l
first_in_range p n (Some i) h = (h.1, h.2, λ j l. h.3 j (omega arith) l)

-- the number, or n where there is none
pub lowest_or_all : (p : ℕ → Bool) (n : ℕ) (r : Option ℕ) → IsFirst p n r → unwrap_or r n ≡ lowest p n
lowest_or_all p n None h = sym (lowest_none p n h)
lowest_or_all p n (Some i) h = sym (lowest_here p n i h.0 h.2 h.1)

pub lowest_in_range : (p : ℕ → Bool) (n : ℕ) (r : Option ℕ)
    → MatchOption r ((k : ℕ) → 0 ≤ k → k < n → p k ≡ false) (λ i. (0 ≤ i) × (i < n) × (p i ≡ true) × ((k : ℕ) → 0 ≤ k → k < i → p k ≡ false))
    → unwrap_or r n ≡ lowest p n
lowest_in_range p n r h = lowest_or_all p n r (first_in_range p n r h)

-- what `all` says of it: none differs exactly if all pass
pub none_in_range : (p : ℕ → Bool) (n : ℕ) (r : Bool)
    → MatchBool r (AllWithin (λ j. p j ≡ false) (range_with_len 0 n) 0 (length (range_with_len 0 n)))
    ((k : ℕ) × (k < length (range_with_len 0 n)) × HoldsAt (λ j. p j ≡ true) (range_with_len 0 n) k)
    → r ≡ eqb (lowest p n) n
none_in_range p n true h =
    sym (eq-eqb (lowest p n) n (lowest_none p n (λ j l. rw (get_or-range_with_len 0 n j 0 l, zero-add j) at (h j 0 (omega arith) (omega (arith, length-range_with_len 0 n))))))
none_in_range p n false h =
    let small : h.0 < n = omega (arith, length-range_with_len 0 n, h.1) in
    let here : p h.0 ≡ true = rw (get_or-range_with_len 0 n h.0 0 small, zero-add h.0) at (h.2 0) in
    let found = lowest_is p n in
    sym (ne_eqb (lowest p n) n (λ e. true_false here (found.before h.0 (omega arith) (omega arith))))
