-- The list is complete: the entries are the subtrees of the root's normal form, in their order, and every child of an
-- entry has its number in it (document 01, "Canonical list").
use Rattle.std.specs.Prelude.{ℕ, ◌/◌, ◌%◌, ◌<◌, ◌≡◌, List, length}
use Rattle.meaning.specs.Rules.Kinds.{lut_word}
use Rattle.meaning.specs.Rules.Trees.{Tree, root_of}
use Rattle.meaning.specs.Rules.Folding.{nf}
use Rattle.meaning.specs.Rules.Listing.{subtrees, number_in}
use Rattle.columns.specs.Columns.{cell, kind_column, datum_column, program_column}
use Rattle.form_rows.specs.Forms.{program_of}
use Rattle.listed.specs.Entries.{listed_at, Entries}

-- the Program of the Lut in row h has its number
pub record ProgramAt (forms work : List ℕ) (seen : List Tree) (h : ℕ) : Type 0 where
  pub number : cell work program_column h ≡ number_in seen (program_of (cell forms datum_column h))
  pub there : number_in seen (program_of (cell forms datum_column h)) < length seen

-- the subtrees of the canonical list
unfoldable pub listing : List ℕ → List ℕ → List Tree
listing ns ps = subtrees (nf (root_of ns ps))

pub record Listing (ns ps work : List ℕ) (count : ℕ) : Type 0 where
  pub entries : Entries ns ps work work (listing ns ps) count
  pub programs : (k : ℕ) → k < count → listed_at work k % 2 ≡ 0 → cell work kind_column (listed_at work k / 2) ≡ lut_word
      → ProgramAt work work (listing ns ps) (listed_at work k / 2)
