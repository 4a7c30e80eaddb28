-- The last sentence of demand 3, of answers that meet the contracts of the calls: "If no don't-care, register or ARG node
-- is the root or lies below it and the canonicaliser accepts the list, its canonical list, lent work space enough for
-- its own size, gets the same judgement and assignment."
use Rattle.std.specs.Prelude.{ℕ, ◌≤◌, ◌<◌, ◌≡◌, refl, List, ◌++◌, true, length, take, drop, Result, Ok}
use Rattle.std.proofs.Common.{sym, ap, ap₂, ◌∙◌, take_at}
use borrow.Author.Tests.{eq-eqb}
use Rattle.meaning.specs.declared.Refusal.{Refusal}
use Rattle.meaning.specs.declared.Separation as of_separation
use Rattle.meaning.specs.declared.Canonical as of_canonical
use Rattle.meaning.specs.Rules.Refusals.{done}
use Rattle.meaning.specs.Rules.Separation.{Separation, separation_result}
use Rattle.meaning.specs.Rules.Calls.{Canonical, canonical_result, canonical_said}
use Rattle.meaning.specs.Rules.Kinds.{kind_of, is_plain}
use Rattle.meaning.specs.Rules.Trees.{node_count, kind_at}
use Rattle.meaning.specs.Rules.Layout.{work_for}
use Rattle.meaning.specs.Rules.Reach.{reachable}
use Rattle.meaning.specs.Rules.Canonical.{canonical_nodes, canonical_pool}
use Rattle.meaning.specs.Rules.Calls.{Judged, judged, separate, Canonicalised, canonicalised, canonical_refusal, canonical, canonicalise}
use Rattle.meaning.proofs.Claims.Demands.{demand_3_canonical, found_3_canonical}
use Rattle.meaning.proofs.Laws.ResultLaws.{canonical_back}

-- ---- of the rules' answers, with the refusals in them

-- the canonicaliser's answer c, which is no refusal, and what it left of the work space and in its outputs
module _ (ns ps work out_nodes out_pool : List ℕ) (c : Canonical) (left nodes pool : List ℕ)
    (meets : canonicalised c left nodes pool ≡ canonicalise ns ps work out_nodes out_pool) (accepted : c.refusal.number ≡ 0) where
  abbrev whole : Canonicalised
  whole = canonicalise ns ps work out_nodes out_pool

  answered : c ≡ whole.answer
  answered = ap (λ (o : Canonicalised). o.answer) meets

  accepts : whole.answer.refusal.number ≡ 0
  accepts = ap (λ (x : Canonical). x.refusal.number) (sym answered) ∙ accepted

  -- what it answers are the lengths of the list, and the list stands at the start of the outputs
  record Stands : Type 0 where
    pub node_words_lem : whole.answer.nodes ≡ length (canonical_nodes ns ps)
    pub pool_words : whole.answer.pool ≡ length (canonical_pool ns ps)
    pub nodes_are : whole.out_nodes ≡ canonical_nodes ns ps ++ drop (length (canonical_nodes ns ps)) out_nodes
    pub pool_is : whole.out_pool ≡ canonical_pool ns ps ++ drop (length (canonical_pool ns ps)) out_pool

  stands : Stands
  unfolding canonicalise canonical
  stands =
      let done = eq-eqb (canonical_refusal ns ps (length work) (length out_nodes) (length out_pool)).number 0 accepts in
      record { node_words_lem = rw done; pool_words = rw done; nodes_are = rw done; pool_is = rw done }

  -- the canonical list, as a caller reads it: so many words of each output
  pub list_nodes : take c.nodes nodes ≡ canonical_nodes ns ps
  list_nodes =
      ap₂ take (ap (λ (x : Canonical). x.nodes) answered ∙ stands.node_words_lem) (ap (λ (o : Canonicalised). o.out_nodes) meets ∙ stands.nodes_are)
      ∙ take_at (canonical_nodes ns ps) (drop (length (canonical_nodes ns ps)) out_nodes) (length (canonical_nodes ns ps)) refl

  pub list_pool : take c.pool pool ≡ canonical_pool ns ps
  list_pool =
      ap₂ take (ap (λ (x : Canonical). x.pool) answered ∙ stands.pool_words) (ap (λ (o : Canonicalised). o.out_pool) meets ∙ stands.pool_is)
      ∙ take_at (canonical_pool ns ps) (drop (length (canonical_pool ns ps)) out_pool) (length (canonical_pool ns ps)) refl

  -- two separations that meet their contract, s of the given list and t of the canonical one: all of the answer is the same
  pub same_separation : ((i : ℕ) → i < node_count ns → reachable ns ps i ≡ true → is_plain (kind_of (kind_at ns i)) ≡ true)
      → (n run : ℕ) (space space' : List ℕ) (s : Separation) → judged s space' ≡ separate ns ps n run space → s.refusal.number ≡ 0
      → (own own' : List ℕ) (t : Separation) → judged t own' ≡ separate (take c.nodes nodes) (take c.pool pool) n run own
      → work_for (take c.nodes nodes) (take c.pool pool) ≤ length own
      → t ≡ s
  same_separation plain n run space space' s of_given done own own' t of_list room =
      let first : s ≡ (separate ns ps n run space).answer = ap (λ (o : Judged). o.answer) of_given in
      let second : t ≡ (separate (canonical_nodes ns ps) (canonical_pool ns ps) n run own).answer =
      ap (λ (o : Judged). o.answer) (rw (list_nodes, list_pool) at of_list) in
      let enough : work_for (canonical_nodes ns ps) (canonical_pool ns ps) ≤ length own = rw (list_nodes, list_pool) at room in
      second
      ∙ demand_3_canonical ns ps n run space work out_nodes out_pool own (ap (λ (x : Separation). x.refusal.number) (sym first) ∙ done) accepts plain enough
      ∙ sym first

  pub same_judgement : ((i : ℕ) → i < node_count ns → reachable ns ps i ≡ true → is_plain (kind_of (kind_at ns i)) ≡ true)
      → (n run : ℕ) (space space' : List ℕ) (s : Separation) → judged s space' ≡ separate ns ps n run space → s.refusal.number ≡ 0
      → (own own' : List ℕ) (t : Separation) → judged t own' ≡ separate (take c.nodes nodes) (take c.pool pool) n run own
      → work_for (take c.nodes nodes) (take c.pool pool) ≤ length own
      → (t.judgement ≡ s.judgement) × (t.index ≡ s.index)
  same_judgement plain n run space space' s of_given done own own' t of_list room =
      let same = same_separation plain n run space space' s of_given done own own' t of_list room in
      (ap (λ (x : Separation). x.judgement) same, ap (λ (x : Separation). x.index) same)

-- ---- of what the calls hand back

-- the canonicaliser's answer r, an Ok, and what it left in its outputs, by the clauses of its contract
module _ (ns ps work out_nodes out_pool : List ℕ) (r : Result of_canonical.Canonical Refusal) (nodes pool : List ℕ)
    (value : r ≡ canonical_result (canonicalise ns ps work out_nodes out_pool).answer)
    (nodes_after : nodes ≡ (canonicalise ns ps work out_nodes out_pool).out_nodes)
    (pool_after : pool ≡ (canonicalise ns ps work out_nodes out_pool).out_pool)
    (found : of_canonical.Canonical) (ok : r ≡ Ok found) where
  handed : Ok found ≡ canonical_result (canonicalise ns ps work out_nodes out_pool).answer
  handed = sym ok ∙ value

  abbrev left : List ℕ
  left = (canonicalise ns ps work out_nodes out_pool).work

  -- its fields, as they are called, are the rules'
  whole_canonical : canonicalised (record { refusal = done; nodes = found.nodes; pool = found.pool }) left nodes pool
      ≡ canonicalise ns ps work out_nodes out_pool
  whole_canonical = rw (nodes_after, pool_after)
      (ap (λ (c : Canonical). canonicalised c left (canonicalise ns ps work out_nodes out_pool).out_nodes (canonicalise ns ps work out_nodes out_pool).out_pool)
      (ap canonical_said handed ∙ canonical_back ns ps work out_nodes out_pool))

  pub found_nodes : take found.nodes nodes ≡ canonical_nodes ns ps
  found_nodes = list_nodes ns ps work out_nodes out_pool _ left nodes pool whole_canonical refl

  pub found_pool : take found.pool pool ≡ canonical_pool ns ps
  found_pool = list_pool ns ps work out_nodes out_pool _ left nodes pool whole_canonical refl

  -- `separate` of the given list answered an Ok: of the canonical one it answers the same
  pub found_separation : ((i : ℕ) → i < node_count ns → reachable ns ps i ≡ true → is_plain (kind_of (kind_at ns i)) ≡ true)
      → (n run : ℕ) (space : List ℕ) (s : of_separation.Separation) → Ok s ≡ separation_result (separate ns ps n run space).answer
      → (own : List ℕ) (t : Result of_separation.Separation Refusal)
      → t ≡ separation_result (separate (take found.nodes nodes) (take found.pool pool) n run own).answer
      → work_for (take found.nodes nodes) (take found.pool pool) ≤ length own
      → t ≡ Ok s
  found_separation plain n run space s of_given own t of_list room =
      rw (found_nodes, found_pool) at of_list
      ∙ found_3_canonical ns ps n run space work out_nodes out_pool own s found of_given handed plain (rw (found_nodes, found_pool) at room)

  -- so its judgement and its assignment are the same
  pub found_judgement : ((i : ℕ) → i < node_count ns → reachable ns ps i ≡ true → is_plain (kind_of (kind_at ns i)) ≡ true)
      → (n run : ℕ) (space : List ℕ) (s : of_separation.Separation) → Ok s ≡ separation_result (separate ns ps n run space).answer
      → (own : List ℕ) (t : of_separation.Separation)
      → Ok t ≡ separation_result (separate (take found.nodes nodes) (take found.pool pool) n run own).answer
      → work_for (take found.nodes nodes) (take found.pool pool) ≤ length own
      → (t.judgement ≡ s.judgement) × (t.index ≡ s.index)
  found_judgement plain n run space s of_given own t of_list room =
      let same : t ≡ s = cc (found_separation plain n run space s of_given own (Ok t) of_list room) in
      (ap (λ (x : of_separation.Separation). x.judgement) same, ap (λ (x : of_separation.Separation). x.index) same)
