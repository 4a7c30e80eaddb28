-- The state of the walk, but for what is left to be seen: the entries, the numbers that nodes have, and the path.
use Rattle.std.specs.Prelude.{ℕ, ◌+◌, ◌/◌, ◌%◌, ◌≤◌, ◌<◌, ◌≡◌, ◌≢◌, List}
use Rattle.std.proofs.Common.{sym, ap, subst, ◌∙◌, arith}
use Rattle.meaning.specs.Rules.Kinds.{lut_word}
use Rattle.meaning.specs.Rules.Trees.{Tree, node_count}
use Rattle.meaning.proofs.Laws.ListingLaws.{Ordered}
use Rattle.columns.specs.Columns.{cell, kind_column, datum_column, count_column, number_column, program_column, stack_column, next_column}
use Rattle.form_rows.specs.Forms.{nf_at, program_of, kid_at, Home}
use Rattle.listed.specs.Keeping.{Grows, number_stays, still_there}
use Rattle.listed.specs.Entries.{listed_at, Numbered, KidsNumbered, Entries}
use Rattle.listed.specs.Listing.{ProgramAt}

-- a node that has its number: so have its children, and the Program of the Lut that it is
pub record NumberAt (ns ps forms work : List ℕ) (seen : List Tree) (h : ℕ) : Type 0 where
  pub own : Numbered ns ps work seen h
  pub kids : KidsNumbered ns ps forms work seen h
  pub program : cell forms kind_column h ≡ lut_word → ProgramAt forms work seen h

-- a node of the path: the children before the next have their numbers, and so has the Program
pub record Frame (ns ps forms work : List ℕ) (seen : List Tree) (d : ℕ) : Type 0 where
  pub home : Home ns ps forms (cell work stack_column d)
  pub met : cell work number_column (cell work stack_column d) ≡ 1
  pub next : cell work next_column d ≤ cell forms count_column (cell work stack_column d)
  pub done : (j : ℕ) → j < cell work next_column d → 2 ≤ cell work number_column (kid_at ns ps forms (cell work stack_column d) j)
  pub program : cell forms kind_column (cell work stack_column d) ≡ lut_word → ProgramAt forms work seen (cell work stack_column d)

pub record Table (ns ps forms work : List ℕ) (seen : List Tree) (depth count : ℕ) : Type 0 where
  pub entries : Entries ns ps forms work seen count
  pub ordered : Ordered seen
  -- the node of an entry that is a form has its number
  pub finished : (k : ℕ) → k < count → listed_at work k % 2 ≡ 0 → 2 ≤ cell work number_column (listed_at work k / 2)
  pub numbers : (h : ℕ) → Home ns ps forms h → 2 ≤ cell work number_column h → NumberAt ns ps forms work seen h
  pub frames : (d : ℕ) → d < depth → Frame ns ps forms work seen d
  -- the path goes down
  pub falls : (d e : ℕ) → d < e → e < depth → cell work stack_column e < cell work stack_column d
  pub deep : (d : ℕ) → d < depth → cell work stack_column d + d < node_count ns
  -- a node that is met and has no number is on it
  pub opened : (h : ℕ) → Home ns ps forms h → cell work number_column h ≡ 1 → (d : ℕ) × (d < depth) × (cell work stack_column d ≡ h)

-- nodes that differ in their numbers are two
pub unlike : (work : List ℕ) (c h : ℕ) → cell work number_column h < cell work number_column c → c ≢ h
unlike work c h l e = below (subst (λ (x : ℕ). cell work number_column h < cell work number_column x) e l)
  where
    below : {n : ℕ} → n < n → ⊥
    below l = omega arith

-- ---- it stays so when more is seen and other cells are written
module _ (ns ps forms work left : List ℕ) {seen more : List Tree} (g : Grows seen more)
    (kept : (c : ℕ) → 2 ≤ cell work number_column c → cell left number_column c ≡ cell work number_column c) where
  pub numbered_stays : (h : ℕ) → Numbered ns ps work seen h → Numbered ns ps left more h
  numbered_stays h n =
      let t : Tree = nf_at ns ps h in
      record {
        number = kept h (omega (arith, n.number)) ∙ n.number ∙ ap (λ (x : ℕ). x + 2) (sym (number_stays g t n.there));
        there = still_there g t n.there;
      }

  pub program_stays : (h : ℕ) → cell left program_column h ≡ cell work program_column h → ProgramAt forms work seen h → ProgramAt forms left more h
  program_stays h e p =
      let t : Tree = program_of (cell forms datum_column h) in
      record { number = e ∙ p.number ∙ sym (number_stays g t p.there); there = still_there g t p.there }

  pub number_stays_at : (h : ℕ) → cell left program_column h ≡ cell work program_column h → NumberAt ns ps forms work seen h → NumberAt ns ps forms left more h
  number_stays_at h e n = record {
    own = numbered_stays h n.own;
    kids = λ j l. numbered_stays (kid_at ns ps forms h j) (n.kids j l);
    program = λ q. program_stays h e (n.program q);
  }

  pub frame_stays : (d : ℕ) → cell left stack_column d ≡ cell work stack_column d → cell left next_column d ≡ cell work next_column d
      → cell left number_column (cell work stack_column d) ≡ cell work number_column (cell work stack_column d)
      → cell left program_column (cell work stack_column d) ≡ cell work program_column (cell work stack_column d)
      → Frame ns ps forms work seen d → Frame ns ps forms left more d
  frame_stays d s n o p f = record {
    home = rw s f.home;
    met = rw s (o ∙ f.met);
    next = rw (s, n) f.next;
    done = λ j l. rw s (subst (λ (x : ℕ). 2 ≤ x) (sym (kept (kid_at ns ps forms (cell work stack_column d) j) (f.done j (rw n at l)))) (f.done j (rw n at l)));
    program = λ q. rw s (program_stays (cell work stack_column d) p (f.program (rw s at q)));
  }
