-- The definition of a word is the one that is meant: what a run of digits is worth, each of the three answers at the
-- texts that it is for, examples, and that reading gets on.
use Rattle.std.specs.Prelude.{ℕ, suc, ◌+◌, ◌-◌, ◌*◌, ◌≤◌, ◌<◌, ◌≡◌, refl, Bool, true, false, cond, List, [], ◌∷◌, ◌++◌, map, length, drop, Some, None, Result, Ok, Err}
use Rattle.std.proofs.Common.{sym, ap, ◌∙◌, arith, length-drop, ne_eqb}
use Rattle.std.proofs.Math.Seq.{drop-append_seam}
use Rattle.decimals.specs.declared.Word.{Word}
use Rattle.decimals.specs.declared.Bad.{Bad}
use Rattle.decimals.specs.Words.{word_of, bad_at, Reading, found, is_blank, is_digit, with_digit, largest, extends, number, word, next_word}
use Rattle.decimals.specs.Laws.{digit_is, extends_fits}

-- ---- the value of a run of digits

-- digits written behind v, the first the most significant
unfoldable pub behind : ℕ → List ℕ → ℕ
behind v [] = v
behind v (d ∷ ds) = behind (with_digit v d) ds

abbrev pub value_of : List ℕ → ℕ
value_of ds = behind 0 ds

behind_more : (v : ℕ) (ds : List ℕ) (d : ℕ) → behind v (ds ++ d ∷ []) ≡ behind v ds * 10 + (d - 48)
unfolding behind
behind_more v [] d = refl
behind_more v (e ∷ ds) d = behind_more (with_digit v e) ds d

-- one digit more makes the value ten times as large, and adds the digit
pub value_more : (ds : List ℕ) (d : ℕ) → value_of (ds ++ d ∷ []) ≡ value_of ds * 10 + (d - 48)
value_more ds d = behind_more 0 ds d

behind_grows : (v : ℕ) (ds : List ℕ) → v ≤ behind v ds
unfolding behind
behind_grows v [] = omega arith
behind_grows v (d ∷ ds) = omega (arith, behind_grows (with_digit v d) ds)

-- ---- the three answers

-- each byte passes
abbrev pub All : (ℕ → Bool) → List ℕ → Type 0
All p [] = Unit
All p (b ∷ bs) = (p b ≡ true) × All p bs

-- the text ends here, or goes on with a blank
abbrev pub Stops : List ℕ → Type 0
Stops [] = Unit
Stops (b ∷ rest) = is_blank b ≡ true

digit_not_blank : (b : ℕ) → is_digit b ≡ true → is_blank b ≡ false
unfolding is_blank
digit_not_blank b h =
    let d = digit_is b h in
    rw (ne_eqb b 32 (λ e. omega arith), ne_eqb b 9 (λ e. omega arith), ne_eqb b 13 (λ e. omega arith), ne_eqb b 10 (λ e. omega arith))

blanks_passed : (i : ℕ) (bs rest : List ℕ) → All is_blank bs → word i (bs ++ rest) ≡ word (i + length bs) rest
unfolding word
blanks_passed i [] rest h = ap (λ (k : ℕ). word k rest) (omega arith)
blanks_passed i (b ∷ bs) rest h =
    rw h.0 (blanks_passed (suc i) bs rest h.1 ∙ ap (λ (k : ℕ). word k rest) (omega arith))

digits_read : (v i : ℕ) (ds rest : List ℕ) → All is_digit ds → behind v ds ≤ largest
    → number v i (ds ++ rest) ≡ number (behind v ds) (i + length ds) rest
unfolding number behind
digits_read v i [] rest h s = ap (λ (k : ℕ). number v k rest) (omega arith)
digits_read v i (d ∷ ds) rest h s =
    let e : extends v d ≡ true = extends_fits v d h.0 (omega (arith, behind_grows (with_digit v d) ds)) in
    rw (digit_not_blank d h.0, e)
    (digits_read (with_digit v d) (suc i) ds rest h.1 s ∙ ap (λ (k : ℕ). number (behind (with_digit v d) ds) k rest) (omega arith))

number_starts : (i b : ℕ) (rest : List ℕ) → is_blank b ≡ false → word i (b ∷ rest) ≡ found (number 0 i (b ∷ rest))
unfolding word
number_starts i b rest h = rw h

number_stops : (v i : ℕ) (rest : List ℕ) → Stops rest → number v i rest ≡ Ok (word_of v i)
unfolding number
number_stops v i [] h = refl
number_stops v i (b ∷ rest) h = rw h

number_breaks : (v i b : ℕ) (rest : List ℕ) → is_blank b ≡ false → extends v b ≡ false → number v i (b ∷ rest) ≡ bad_at i
unfolding number
number_breaks v i b rest h e = rw (h, e)

from_here : (before rest : List ℕ) → next_word (before ++ rest) (length before) ≡ word (length before) rest
unfolding next_word
from_here before rest = ap (word (length before)) (drop-append_seam before rest)

-- blanks, then digits up to a blank or the end, worth no more than the largest: their value, and where they end
pub value_is : (before blanks : List ℕ) (d : ℕ) (ds rest : List ℕ)
    → All is_blank blanks → All is_digit (d ∷ ds) → value_of (d ∷ ds) ≤ largest → Stops rest
    → next_word (before ++ (blanks ++ (d ∷ ds ++ rest))) (length before)
    ≡ Ok (Some (word_of (value_of (d ∷ ds)) (length before + length blanks + length (d ∷ ds))))
value_is before blanks d ds rest hb hd s e =
    from_here before (blanks ++ (d ∷ ds ++ rest))
    ∙ blanks_passed (length before) blanks (d ∷ ds ++ rest) hb
    ∙ number_starts (length before + length blanks) d (ds ++ rest) (digit_not_blank d hd.0)
    ∙ ap found
    (digits_read 0 (length before + length blanks) (d ∷ ds) rest hd s
    ∙ number_stops (value_of (d ∷ ds)) (length before + length blanks + length (d ∷ ds)) rest e)

-- nothing but blanks
pub end_is : (before blanks : List ℕ) → All is_blank blanks → next_word (before ++ (blanks ++ [])) (length before) ≡ Ok None
unfolding word
end_is before blanks hb = from_here before (blanks ++ []) ∙ blanks_passed (length before) blanks [] hb

-- blanks, then digits, perhaps none, then a byte that is no blank and cannot follow: its offset
pub bad_is : (before blanks ds : List ℕ) (b : ℕ) (rest : List ℕ)
    → All is_blank blanks → All is_digit ds → value_of ds ≤ largest → is_blank b ≡ false → extends (value_of ds) b ≡ false
    → next_word (before ++ (blanks ++ (ds ++ b ∷ rest))) (length before) ≡ bad_at (length before + length blanks + length ds)
bad_is before blanks ds b rest hb hd s n e =
    from_here before (blanks ++ (ds ++ b ∷ rest))
    ∙ blanks_passed (length before) blanks (ds ++ b ∷ rest) hb
    ∙ starts ds hd
    ∙ ap found
    (digits_read 0 (length before + length blanks) ds (b ∷ rest) hd s
    ∙ number_breaks (value_of ds) (length before + length blanks + length ds) b rest n e)
  where
    starts : (ds : List ℕ) → All is_digit ds
        → word (length before + length blanks) (ds ++ b ∷ rest) ≡ found (number 0 (length before + length blanks) (ds ++ b ∷ rest))
    starts [] h = number_starts (length before + length blanks) b rest n
    starts (d ∷ ds) h = number_starts (length before + length blanks) d (ds ++ b ∷ rest) (digit_not_blank d h.0)

-- ---- no second answer meets the contract
pub next_word_only : (text : List ℕ) (at : ℕ) {r r' : Reading} → r ≡ next_word text at → r' ≡ next_word text at → r ≡ r'
next_word_only text at p q = p ∙ sym q

-- ---- reading gets on

-- a number that is read ends past where reading began, and within the text
pub record Ahead (at next end : ℕ) : Type 0 where
  pub past : at < next
  pub within : next ≤ end

next_of : Result (Word ℕ) Bad → ℕ
next_of (Ok w) = w.next
next_of (Err e) = 0

-- two words that are the same end in the same place
pub ends : {v i w n : ℕ} → ◌≡◌ {A = Result (Word ℕ) Bad} (Ok (word_of v i)) (Ok (word_of w n)) → i ≡ n
unfolding next_of
ends h = ap next_of h

number_first : (v i b : ℕ) (rest : List ℕ) (w n : ℕ) → is_blank b ≡ false
    → ((u : ℕ) → number u (suc i) rest ≡ Ok (word_of w n) → (suc i ≤ n) × (n ≤ suc i + length rest))
    → number v i (b ∷ rest) ≡ Ok (word_of w n) → (suc i ≤ n) × (n ≤ suc i + length rest)
unfolding number
number_first v i b rest w n nb later h = go (extends v b) (rw nb at h)
  where
    go : (x : Bool) → cond x (number (with_digit v b) (suc i) rest) (bad_at i) ≡ Ok (word_of w n) → (suc i ≤ n) × (n ≤ suc i + length rest)
    go true e = later (with_digit v b) e
    go false e = absurd cc

number_ahead : (v i : ℕ) (rest : List ℕ) (w n : ℕ) → number v i rest ≡ Ok (word_of w n) → (i ≤ n) × (n ≤ i + length rest)
unfolding number
number_ahead v i [] w n h = let e = ends h in (omega arith, omega arith)
number_ahead v i (b ∷ rest) w n h = go (is_blank b) refl (λ u. number_ahead u (suc i) rest w n)
  where
    go : (x : Bool) → is_blank b ≡ x → ((u : ℕ) → number u (suc i) rest ≡ Ok (word_of w n) → (suc i ≤ n) × (n ≤ suc i + length rest))
        → (i ≤ n) × (n ≤ i + length (b ∷ rest))
    go true e later = let f = ends (sym (number_stops v i (b ∷ rest) e) ∙ h) in (omega arith, omega arith)
    go false e later = let m = number_first v i b rest w n e later h in (omega arith, omega arith)

unfound : (r : Result (Word ℕ) Bad) (w : Word ℕ) → found r ≡ Ok (Some w) → r ≡ Ok w
unfound (Ok x) w h = cc
unfound (Err e) w h = cc

word_ahead : (i : ℕ) (rest : List ℕ) (w n : ℕ) → word i rest ≡ Ok (Some (word_of w n)) → (i < n) × (n ≤ i + length rest)
unfolding word
word_ahead i [] w n h = absurd cc
word_ahead i (b ∷ rest) w n h = go (is_blank b) refl (word_ahead (suc i) rest w n)
  where
    go : (x : Bool) → is_blank b ≡ x → (word (suc i) rest ≡ Ok (Some (word_of w n)) → (suc i < n) × (n ≤ suc i + length rest))
        → (i < n) × (n ≤ i + length (b ∷ rest))
    go true e later = let m = later (rw e at h) in (omega arith, omega arith)
    go false e later =
        let m = number_first 0 i b rest w n e (λ u. number_ahead u (suc i) rest w n) (unfound _ _ (sym (number_starts i b rest e) ∙ h)) in
        (omega arith, omega arith)

pub value_ahead : (text : List ℕ) (at v next : ℕ) → next_word text at ≡ Ok (Some (word_of v next)) → Ahead at next (length text)
unfolding next_word
value_ahead text at v next h =
    let m = word_ahead at (drop at text) v next h in
    let l = length-drop at text in
    record { past = omega arith; within = omega arith }

-- ---- examples

pub record Example : Type 0 where
  pub text : List ℕ
  pub at : ℕ
  pub answer : Reading

abbrev eg : List ℕ → ℕ → Reading → Example
eg text at answer = record { text = text; at = at; answer = answer }

-- the digits of 2^64 - 1 but the last, 1844674407370955161
abbrev all_but_last : List ℕ
all_but_last = 49 ∷ 56 ∷ 52 ∷ 52 ∷ 54 ∷ 55 ∷ 52 ∷ 52 ∷ 48 ∷ 55 ∷ 51 ∷ 55 ∷ 48 ∷ 57 ∷ 53 ∷ 53 ∷ 49 ∷ 54 ∷ 49 ∷ []

unfoldable pub examples : List Example
examples =
    eg [] 0 (Ok None)  -- the empty text
    ∷ eg (32 ∷ 9 ∷ 13 ∷ 10 ∷ []) 0 (Ok None)  -- each of the blanks
    ∷ eg (55 ∷ []) 3 (Ok None)  -- from past the end of "7"
    ∷ eg (55 ∷ []) 0 (Ok (Some (word_of 7 1)))  -- "7", ended by the text
    ∷ eg (10 ∷ 48 ∷ 48 ∷ 55 ∷ 10 ∷ []) 0 (Ok (Some (word_of 7 4)))  -- "007" on a line of its own
    ∷ eg (49 ∷ 50 ∷ 32 ∷ 51 ∷ 52 ∷ []) 2 (Ok (Some (word_of 34 5)))  -- the second word of "12 34"
    ∷ eg (49 ∷ 50 ∷ 32 ∷ 51 ∷ 52 ∷ []) 1 (Ok (Some (word_of 2 2)))  -- from inside the first
    ∷ eg (45 ∷ 49 ∷ []) 0 (bad_at 0)  -- "-1"
    ∷ eg (32 ∷ 49 ∷ 50 ∷ 97 ∷ []) 0 (bad_at 3)  -- " 12a"
    ∷ eg (all_but_last ++ (53 ∷ [])) 0 (Ok (Some (word_of 18446744073709551615 20)))
    ∷ eg (all_but_last ++ (54 ∷ [])) 0 (bad_at 19)  -- 2^64
    ∷ []

pub examples_hold : map (λ e. next_word e.text e.at) examples ≡ map (λ e. e.answer) examples
unfolding examples next_word word number is_blank is_digit extends
examples_hold = refl
