-- Terms as they are drawn, the calls on them, and what a call says: the words of the example tables (Claims/Examples,
-- Claims/Cases).
use Rattle.std.specs.Prelude.{ℕ, ◌≡◌, List, map, Bool, cond, eqb}
use Rattle.meaning.specs.declared.Answer.{Answer}
use Rattle.meaning.specs.declared.Check.{Check}
use Rattle.meaning.specs.declared.Judgement.{Judgement}
use Rattle.meaning.specs.declared.Refusal.{Refusal}
use Rattle.meaning.specs.Rules.Kinds.{const_word, program_word, dont_care_word, variable_word, bus_word, cycle_word}
use Rattle.meaning.specs.Rules.Trees.{Tree, node, none, ◌◂◌, root_of, forest_of}
use Rattle.meaning.specs.Rules.Answers.{answer}
use Rattle.meaning.specs.Rules.Assignments.{given}
use Rattle.meaning.specs.Rules.Tables.{TableAnswer, says}
use Rattle.meaning.specs.Rules.Listing.{listed_nodes, listed_pool}
use Rattle.meaning.specs.Rules.Canonical.{canonical_nodes, canonical_pool}
use Rattle.meaning.specs.Rules.Calls.{verify_refusal, evaluate_refusal, comparison, separation, canonical_refusal}

-- ---- terms, as document 01 writes them: And(v0, v1), Mux(true, v0, v1), ..
abbrev pub false : Tree
false = node const_word 0 none

abbrev pub true : Tree
true = node const_word 1 none

abbrev pub dc : Tree
dc = node dont_care_word 0 none

abbrev pub var : ℕ → Tree
var n = node variable_word n none

abbrev pub v0 : Tree
v0 = var 0

abbrev pub v1 : Tree
v1 = var 1

abbrev pub v2 : Tree
v2 = var 2

abbrev pub program : ℕ → Tree
program p = node program_word p none

abbrev pub nor : Tree → Tree → Tree
nor x y = node 4 0 (x ◂ y ◂ none)

abbrev pub mux : Tree → Tree → Tree → Tree
mux s x y = node 5 0 (s ◂ x ◂ y ◂ none)

abbrev pub and : Tree → Tree → Tree
and x y = node 6 0 (x ◂ y ◂ none)

abbrev pub xor : Tree → Tree → Tree
xor x y = node 7 0 (x ◂ y ◂ none)

abbrev pub inv : Tree → Tree
inv x = node 8 0 (x ◂ none)

abbrev pub bus : List Tree → Tree
bus ts = node bus_word 0 (forest_of ts)

-- a register of kind 11 to 14 over one operand in every place
abbrev pub reg : ℕ → Tree → Tree
reg k x = node k 0 (x ◂ x ◂ x ◂ x ◂ none)

abbrev pub arg : ℕ → Tree
arg i = node 15 0 (program i ◂ none)

abbrev pub cycle : Tree → Tree
cycle x = node cycle_word 0 (x ◂ none)

-- ---- what a call says
pub data Said : Type 0 where
  answers : Answer → Said
  verdict : Check → ℕ → Said
  judgement : Judgement → ℕ → Said
  list : List ℕ → List ℕ → Said
  table : TableAnswer → Said
  refused : ℕ → ℕ → Said
  words : List ℕ → Said
  test : Bool → Said

-- a refusal, or what is said where there is none
abbrev pub unless : Refusal → Said → Said
unless r said = cond (eqb r.number 0) said (refused r.number r.node)

abbrev pub done : Said
done = refused 0 0

-- a truth-table routine's answers: a program (or a bit), "high then low", a program less an operand, None, number 13
abbrev pub gives : ℕ → Said
gives p = table (says p 0)

abbrev pub pair : ℕ → ℕ → Said
pair h l = table (says h l)

abbrev pub smaller : ℕ → Said
smaller p = table (says 1 p)

abbrev pub none_left : Said
none_left = table (says 0 0)

abbrev pub number_13 : Said
number_13 = table (record { number = 13; first = 0; second = 0 })

-- a line of a table: what the definitions compute, and what the document says
pub record Line : Type 0 where
  pub computed : Said
  pub document : Said

infix 40 ◌is◌
abbrev pub ◌is◌ : Said → Said → Line
a is b = record { computed = a; document = b }

-- ---- the calls, on terms, with work space and output enough for the small lists of the tables
abbrev pub plenty : ℕ
plenty = 2000

unfoldable pub verifying : Tree → Said
verifying t =
    let r = verify_refusal (listed_nodes t) (listed_pool t) plenty in
    refused r.number r.node

-- the root's answer under bytes
unfoldable pub evaluating : Tree → List ℕ → Said
evaluating t bytes =
    let r = evaluate_refusal (listed_nodes t) (listed_pool t) bytes plenty plenty in
    let a = answer (given bytes) (root_of (listed_nodes t) (listed_pool t)) in
    unless r (answers a)

unfoldable pub comparing : Tree → Tree → Said
comparing t u =
    let c = comparison (listed_nodes t) (listed_pool t) (listed_nodes u) (listed_pool u) plenty in
    unless c.refusal (verdict c.verdict c.index)

unfoldable pub separating : Tree → ℕ → ℕ → Said
separating t n run =
    let s = separation (listed_nodes t) (listed_pool t) n run plenty in
    unless s.refusal (judgement s.judgement s.index)

unfoldable pub canonicalising : Tree → Said
canonicalising t =
    let r = canonical_refusal (listed_nodes t) (listed_pool t) plenty plenty plenty in
    unless r (list (canonical_nodes (listed_nodes t) (listed_pool t)) (canonical_pool (listed_nodes t) (listed_pool t)))

-- every line of a table computes to what the document says
abbrev pub Agree : List Line → Type 0
Agree ls = map (λ (l : Line). l.computed) ls ≡ map (λ (l : Line). l.document) ls

-- a refusal's number and node
abbrev pub numbered : Refusal → Said
numbered r = refused r.number r.node

-- the largest u64 and u32
abbrev pub all_ones : ℕ
all_ones = 18446744073709551615

abbrev pub half : ℕ
half = 4294967295
