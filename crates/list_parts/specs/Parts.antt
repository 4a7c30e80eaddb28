-- A list found in a text, or nothing; and whether the text ends. What is there is said by list_texts' Counted.
use Rattle.std.specs.Prelude.{ℕ, ◌≡◌, List, Bool, false, length, Option, Some, None, Result, Ok, Err}
use Rattle.std.proofs.Common.{sym, ◌∙◌}
use Rattle.list_texts.specs.declared.ListAt.{ListAt}
use Rattle.list_texts.specs.declared.NoList.{NoList}
use Rattle.list_texts.specs.Counted.{Rest, list_at, filled_part, filled_pool, Starts}

abbrev pub found : Result ListAt NoList → Option ListAt
found (Ok list) = Some list
found (Err e) = None

abbrev pub is_blank : Rest → Bool
is_blank (Ok b) = b
is_blank (Err e) = false

-- a list that is found stands at the start of the places, and can be lent from there
abbrev pub Held : List ℕ → List ℕ → Option ListAt → Type 0
Held nodes pool (Some list) = Starts list.words nodes × Starts list.entries pool
Held nodes pool None = Unit

-- no second outcome meets the contract of `find_list`, the lent places included
abbrev pub Says : List ℕ → ℕ → List ℕ → List ℕ → Option ListAt → List ℕ → List ℕ → Type 0
Says text at nodes pool r nodes' pool' =
    (r ≡ found (list_at text at (length nodes) (length pool))) × (nodes' ≡ filled_part text at nodes)
    × (pool' ≡ filled_pool text at (length nodes) pool)

pub find_list_only : (text : List ℕ) (at : ℕ) (nodes pool : List ℕ) {r₁ r₂ : Option ListAt} {nodes₁ nodes₂ pool₁ pool₂ : List ℕ}
    → Says text at nodes pool r₁ nodes₁ pool₁ → Says text at nodes pool r₂ nodes₂ pool₂
    → (r₁ ≡ r₂) × (nodes₁ ≡ nodes₂) × (pool₁ ≡ pool₂)
find_list_only text at nodes pool p q = (p.0 ∙ sym q.0, p.1 ∙ sym q.1, p.2 ∙ sym q.2)
