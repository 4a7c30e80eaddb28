-- The entries of column LISTED, two to a row, and the trees that they are.
use Rattle.std.specs.Prelude.{ℕ, ◌+◌, ◌*◌, ◌/◌, ◌%◌, ◌≤◌, ◌<◌, ◌≡◌, List, cond, length, get_or, eqb}
use Rattle.std.proofs.Common.{arith}
use Rattle.meaning.specs.Rules.Limits.{work_per_node}
use Rattle.meaning.specs.Rules.Trees.{Tree, node_count, nth_tree}
use Rattle.meaning.specs.Rules.Listing.{number_in}
use Rattle.columns.specs.Columns.{place, cell, datum_column, count_column, number_column, listed_column}
use Rattle.form_rows.specs.Forms.{nf_at, program_of, kid_at, Home, Formed}
use Rattle.form_rows.specs.Same.{SameForms}

-- where entry k stands, and the entry
abbrev pub listed_place : ℕ → ℕ
listed_place k = place (listed_column + k % 2) (k / 2)

unfoldable pub listed_at : List ℕ → ℕ → ℕ
listed_at work k = get_or work (listed_place k) 0

-- entry e: the normal form of node e / 2, or, where e is odd, the Program of the Lut that it is
unfoldable pub entry_tree : List ℕ → List ℕ → List ℕ → ℕ → Tree
entry_tree ns ps forms e = cond (eqb (e % 2) 1) (program_of (cell forms datum_column (e / 2))) (nf_at ns ps (e / 2))

-- what a search reads is there
pub record Readable (work : List ℕ) (count : ℕ) : Type 0 where
  pub entry : (k : ℕ) → k < count → work_per_node * (k / 2) + work_per_node ≤ length work
  pub row : (k : ℕ) → k < count → work_per_node * (listed_at work k / 2) + work_per_node ≤ length work

pub record Listable (ns ps work : List ℕ) (count : ℕ) : Type 0 where
  pub formed : Formed ns ps work (node_count ns)
  pub within : count ≤ 2 * node_count ns
  pub homes : (k : ℕ) → k < count → Home ns ps work (listed_at work k / 2)

pub listable_reads : {ns ps work : List ℕ} {count : ℕ} → Listable ns ps work count → Readable work count
listable_reads l = record {
  entry = λ k h. omega (arith, l.formed.room, l.within);
  row = λ k h. omega (arith, l.formed.room, (l.homes k h).inside);
}

-- node h's number is that of its normal form among those seen
pub record Numbered (ns ps work : List ℕ) (seen : List Tree) (h : ℕ) : Type 0 where
  pub number : cell work number_column h ≡ number_in seen (nf_at ns ps h) + 2
  pub there : number_in seen (nf_at ns ps h) < length seen

-- all children of the form in row h have their numbers
abbrev pub KidsNumbered : List ℕ → List ℕ → List ℕ → List ℕ → List Tree → ℕ → Type 0
KidsNumbered ns ps forms work seen h = (j : ℕ) → j < cell forms count_column h → Numbered ns ps work seen (kid_at ns ps forms h j)

-- the first `count` entries are the trees seen; `forms` is the work space as the forms were written in it
pub record Entries (ns ps forms work : List ℕ) (seen : List Tree) (count : ℕ) : Type 0 where
  pub formed : Formed ns ps forms (node_count ns)
  pub same : SameForms forms work
  pub size : length work ≡ length forms
  pub within : count ≤ 2 * node_count ns
  pub seen_size : length seen ≡ count
  pub homes : (k : ℕ) → k < count → Home ns ps forms (listed_at work k / 2)
  pub trees : (k : ℕ) → k < count → nth_tree seen k ≡ entry_tree ns ps forms (listed_at work k)
  pub kids : (k : ℕ) → k < count → listed_at work k % 2 ≡ 0 → KidsNumbered ns ps forms work seen (listed_at work k / 2)
