-- What a comparison says, as a word: its verdict, or 4 where it refuses.
use Rattle.std.specs.Prelude.{ℕ, ◌≡◌, ◌≤◌, List, length, cond, eqb, Result, Ok, Err, IfOk}
use Rattle.std.proofs.Common.{ap, sym, arith, eq-eqb, ne_eqb}
use Rattle.meaning.specs.declared.Refusal.{Refusal}
use Rattle.meaning.specs.declared.Comparison as code
use Rattle.meaning.specs.declared.Canonical as canonical
use Rattle.meaning.specs.Rules.Calls.{canonical_result, canonicalise}
use Rattle.canonicaliser.specs.Outcome.{list_fits}
use Rattle.meaning.specs.Rules.Refusals.{answered_with}
use Rattle.meaning.proofs.Laws.RefusalLaws.{found_of_ok, refused_of_any}
use Rattle.meaning.specs.Rules.Comparison.{Comparison, found, comparison_result}
use Rattle.meaning.specs.Rules.Verdict.{check_number}

abbrev pub said : Comparison → ℕ
said c = cond (eqb c.refusal.number 0) (check_number c.verdict) 4

-- ---- the same of what the code answers
module _ (c : Comparison) where
  pub verdict_said : (f : code.Comparison) → comparison_result c ≡ Ok f → check_number f.verdict ≡ said c
  verdict_said f ok =
      let told = found_of_ok c.refusal (found c) f ok in
      rw (eq-eqb c.refusal.number 0 told.0, sym told.1)

  pub refusal_said : (r : Refusal) → comparison_result c ≡ Err r → 4 ≡ said c
  refusal_said r stop = rw (ne_eqb c.refusal.number 0 (refused_of_any c.refusal (found c) r stop).1)

-- ---- a list that the canonicaliser answers stands at the start of what was lent for it
abbrev pub Stands : Result canonical.Canonical Refusal → List ℕ → List ℕ → Type 0
Stands r out_nodes out_pool = IfOk r (λ l. (l.nodes ≤ length out_nodes) × (l.pool ≤ length out_pool))

pub stands : (ns ps work a b : List ℕ) (r : Result canonical.Canonical Refusal) → r ≡ canonical_result (canonicalise ns ps work a b).answer
    → (out_nodes out_pool : List ℕ) → length out_nodes ≡ length a → length out_pool ≡ length b → Stands r out_nodes out_pool
stands ns ps work a b (Ok l) e out_nodes out_pool m n =
    let fits = list_fits ns ps work a b l (sym e) in
    (omega (arith, fits.0, m), omega (arith, fits.1, n))
stands ns ps work a b (Err r) e out_nodes out_pool m n = tt
