-- What a lent slice holds after a call (document 01, under the table of numbers).
use Rattle.std.specs.Prelude.{ℕ, List, ◌++◌, Bool, cond, length, drop, replicate}

-- "output past the answer is unchanged"
abbrev pub written : List ℕ → List ℕ → List ℕ
written answer old = answer ++ drop (length answer) old

-- a refused call "changes nothing lent but work space"
abbrev pub output_after : Bool → List ℕ → List ℕ → List ℕ
output_after done answer old = cond done (written answer old) old

-- "all zeros after the call": the whole of it, however long
unfoldable pub cleared : List ℕ → List ℕ
cleared work = replicate (length work) 0
