-- "Numbers a call answers with": a name for each. 0 is done; 15 to 18 are kept free. What each number means exactly is
-- defined where the comment says, and claimed in Claims/Numbers.
use Rattle.std.specs.Prelude.{ℕ}

abbrev pub done_number : ℕ
done_number = 0

-- node words are not a multiple of three: Rules/Layout, `sizes`
abbrev pub not_aligned : ℕ
not_aligned = 1

-- a list exceeds its limit: Rules/Layout, `sizes`
abbrev pub over_limit : ℕ
over_limit = 2

-- a kind above 16: Rules/Layout, `layout_fault`
abbrev pub unknown_kind : ℕ
unknown_kind = 3

-- a field or child count breaks the layout, or a part runs past the pool: Rules/Layout, `laid_out`
abbrev pub bad_layout : ℕ
bad_layout = 4

-- a child is not numbered below its node: Rules/Layout, `children_below`
abbrev pub bad_child : ℕ
bad_child = 5

-- verification fails: Rules/Verification, `wrong`
abbrev pub not_verified : ℕ
not_verified = 6

-- empty list, where a root is needed: Rules/Evaluable, `rooted`
abbrev pub no_root : ℕ
no_root = 7

-- verified but not evaluable: Rules/Evaluable, `fits`
abbrev pub not_evaluable : ℕ
not_evaluable = 8

-- over 30 variables below the first root, trees unequal: Rules/Comparison, `few_inputs`
abbrev pub many_inputs : ℕ
many_inputs = 9

-- work space too short: Rules/Layout, `room`
abbrev pub little_work : ℕ
little_work = 10

-- n above 30, a variable at n or above anywhere, or a mark at bit n or above: Rules/Separation, `in_bounds`
abbrev pub out_of_bounds : ℕ
out_of_bounds = 11

-- an assignment slice over 256 bytes, or a byte above 2: Rules/Assignments, `is_assignment`
abbrev pub bad_assignment : ℕ
bad_assignment = 12

-- a truth-table argument outside its range: Rules/Tables, `inRange`
abbrev pub bad_table : ℕ
bad_table = 13

-- canonicaliser: a reachable gate that isn't a bit: Rules/Canonical, `gate_fault`
abbrev pub wide_gate : ℕ
wide_gate = 14

-- an output slice shorter than the answer, or a list answered above the limits: Rules/Calls, `fits_pairs`, `fits_lists`;
-- Rules/Verdict, `display`
abbrev pub short_output : ℕ
short_output = 19
