-- `input_bit` meets its contract: the bit of a variable that is reached, and it is below n.
use Rattle.std.proofs.Common.{rules, ℕ, List, ◌<◌, ◌≡◌, ◌^◌, sym, ap, subst, ◌∙◌, arith, zero-add}
use lib.Pow.{pow-lt}
use denote.Enum.Bare.{same_true}
use Rattle.meaning.specs.contracts.kinds.Kind.{the_type}
use Rattle.meaning.specs.declared.kinds.Kind.{Kind}
use Rattle.meaning.specs.declared.kinds.Kind.TheVariants.{Var}
use Rattle.meaning.specs.Rules.Kinds.{kind_of, variable_word}
use Rattle.meaning.specs.Rules.Trees.{kind_at, first_at}
use Rattle.meaning.specs.Rules.Reach.{mark_of}
use Rattle.meaning.proofs.Laws.KindLaws.{kind_word}
use Rattle.meaning.proofs.Laws.RefusalLaws.{variable_below}
use Rattle.columns.specs.Columns.{cell, mark_column}
use Rattle.input_bits.specs.Seen.{reached}
use Rattle.input_bits.proofs.input_bit.Goals as goal

-- the kind word of a variable
is_variable : (k : ℕ) (κ : Kind) → κ ≡ kind_of k → κ ≡ Var → k ≡ variable_word
is_variable k κ told e =
    let is : kind_of k ≡ Var = sym told ∙ e in
    rw is at (kind_word k (rw is (omega arith)))

pub power_of_two-requires : goal.power_of_two-requires
power_of_two-requires c =
    let kind = is_variable (kind_at c.args.nodes.now c.args.i) c.kind_of.result c.kind_of.ensures (same_true the_type (search rules) c.kind_of.result Var (sym c.eq.ensures ∙ c.if-eq.true)) in
    omega (arith, variable_below c.args.nodes.now c.args.n c.requires.n_value c.args.i c.requires.i_bound kind, c.first_of.ensures.0, c.requires.n_le_most_inputs)

pub returns-then-get-gt0 : goal.returns-then-get-gt0
returns-then-get-gt0 c =
    let ns : List ℕ = c.args.nodes.now in
    let i : ℕ = c.args.i in
    let kind = is_variable (kind_at ns i) c.kind_of.result c.kind_of.ensures (same_true the_type (search rules) c.kind_of.result Var (sym c.eq.ensures ∙ c.if-eq.true)) in
    let there : cell c.args.work.now mark_column i ≡ mark_of ns c.args.pool.now i = subst (λ (k : ℕ). cell c.args.work.now mark_column k ≡ mark_of ns c.args.pool.now i) (zero-add i) (c.requires.prepared.marks i c.requires.i_bound) in
    let power : c.power_of_two.result ≡ 2 ^ first_at ns i = c.power_of_two.ensures ∙ ap (λ (f : ℕ). 2 ^ f) c.first_of.ensures.0 in
    let marked : 0 < mark_of ns c.args.pool.now i = omega (arith, c.get.ensures, there, c.if-get-gt0.true) in
    record {
      upper_bound = subst (λ (x : ℕ). x < 2 ^ c.args.n) (sym power) (pow-lt (variable_below ns c.args.n c.requires.n_value i c.requires.i_bound kind));
      bit_of = reached ns c.args.pool.now i c.power_of_two.result kind marked power;
    }
