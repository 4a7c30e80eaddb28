-- The rules of a Lut's and an Arg's children case by case, and a test of children that is two.
use Rattle.std.specs.Prelude.{ℕ, ◌^◌, ◌<◌, ◌≡◌, refl, List, [], ◌∷◌, Bool, true, false, not, ◌&&◌, ◌||◌, length, get_or, ltb, leb, eqb}
use Rattle.std.proofs.Common.{ap, ◌∙◌, arith}
use Rattle.meaning.specs.Rules.Limits.{most_operands}
use Rattle.meaning.specs.Rules.Kinds.{program_word}
use Rattle.meaning.specs.Rules.Trees.{Tree, kind_at, datum_at}
use Rattle.meaning.specs.Rules.Refusals.{some}
use Rattle.meaning.specs.Rules.Verification.{lut_wrong, arg_wrong}
use Rattle.faults.specs.Leaves.{leaves}

or_swap : (a b c d : Bool) → ((a || b) || (c || d)) ≡ ((a || c) || (b || d))
or_swap true b c d = refl
or_swap false true true d = refl
or_swap false true false d = refl
or_swap false false c d = refl

pub some_or : (p q : Tree → Bool) (ts : List Tree) → some (λ t. p t || q t) ts ≡ (some p ts || some q ts)
some_or p q [] = refl
some_or p q (t ∷ ts) = ap (λ (b : Bool). (p t || q t) || b) (some_or p q ts) ∙ or_swap (p t) (q t) (some p ts) (some q ts)

-- ---- a Lut without children
pub lut_none : (ns ks : List ℕ) → length ks ≡ 0 → lut_wrong (leaves ns ks) ≡ true
lut_none ns [] h = refl
lut_none ns (k ∷ ks) h = absurd (omega arith)

-- a Lut whose first child is no Program, whatever its words are
pub lut_other : (ns ks : List ℕ) → 0 < length ks → eqb (kind_at ns (get_or ks 0 0)) program_word ≡ false → lut_wrong (leaves ns ks) ≡ true
lut_other ns [] h e = absurd (omega arith)
lut_other ns (k ∷ ks) h e =
    rw e (go (ltb most_operands (length (leaves ns ks))) (ltb (length (leaves ns ks)) most_operands && leb (2 ^ (2 ^ length (leaves ns ks))) (datum_at ns k)))
  where
    go : (a b : Bool) → (a || true || b) ≡ true
    go true b = refl
    go false b = refl

-- ---- an Arg's
pub arg_words : (ns : List ℕ) (depth : ℕ) (ks : List ℕ) → 0 < length ks
    → arg_wrong depth (leaves ns ks) ≡ (not (eqb (kind_at ns (get_or ks 0 0)) program_word) || leb depth (datum_at ns (get_or ks 0 0)))
arg_words ns depth [] h = absurd (omega arith)
arg_words ns depth (k ∷ ks) h = refl

pub arg_none : (ns : List ℕ) (depth : ℕ) (ks : List ℕ) → length ks ≡ 0 → arg_wrong depth (leaves ns ks) ≡ true
arg_none ns depth [] h = refl
arg_none ns depth (k ∷ ks) h = absurd (omega arith)
