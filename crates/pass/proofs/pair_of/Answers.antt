-- `pair_of` meets its contract: by mark and kind: no answer, or the answer's words.
use Rattle.std.proofs.Common.{◌<◌, sym, ap, ◌∙◌, inl, rules, arith}
use denote.Enum.Bare.{same_true, same_false}
use Rattle.meaning.specs.contracts.kinds.Kind.{the_type}
use Rattle.meaning.specs.declared.kinds.Kind.TheVariants.{Program}
use Rattle.meaning.specs.Rules.Kinds.{kind_of}
use Rattle.meaning.specs.Rules.Trees.{kind_at}
use Rattle.meaning.specs.Rules.Reach.{mark_of}
use Rattle.meaning.specs.Rules.Assignments.{given}
use Rattle.meaning.specs.Rules.Answers.{state_of, value_of}
use Rattle.meaning.proofs.Claims.Pairs.{pair_none}
use Rattle.answer_words.specs.declared.Words.{Words}
use Rattle.accepted.specs.Nodes.{Logic, only_word}
use Rattle.rows.specs.Rows.{pair_logic, pair_unreached}
use Rattle.pass.proofs.pair_of.Goals as goal
use Rattle.pass.proofs.pair_of.Goals.{then-get-eq0-via-then-get-eq0, then-get-eq0-via-else-get-eq0+then-eq}

pub returns-then-get-eq0 : goal.returns-then-get-eq0
returns-then-get-eq0 c =
    elim c.then-get-eq0.branch [
      | then-get-eq0-via-then-get-eq0 w ↦
          let p = pair_unreached c.args.nodes.now c.args.pool.now (given c.args.bytes.now) c.args.n (sym (c.requires.filled.ready.marks c.args.n c.requires.n_bound) ∙ sym c.get.ensures ∙ w.if-get-eq0.true) in
          record { state_value = sym p.0; value_value = sym p.1 }
      | then-get-eq0-via-else-get-eq0+then-eq w ↦
          let kind = same_true the_type (search rules) w.kind_of.result Program (sym w.eq.ensures ∙ w.if-eq.true) in
          let p = pair_none c.args.nodes.now c.args.pool.now (given c.args.bytes.now) c.args.n (inl (only_word (kind_at c.args.nodes.now c.args.n) Program (sym w.kind_of.ensures ∙ kind) (omega arith))) in
          record { state_value = sym p.0; value_value = sym p.1 }
    ]

pub returns : goal.returns
returns c =
    let marked : 0 < mark_of c.args.nodes.now c.args.pool.now c.args.n = omega (arith, c.requires.filled.ready.marks c.args.n c.requires.n_bound, c.get.ensures, c.if-get-eq0.false) in
    let logic : Logic c.args.nodes.now c.args.pool.now c.args.n = record {
      inside = c.requires.n_bound;
      marked = marked;
      no_program = λ e. same_false the_type c.kind_of.result Program (sym c.eq.ensures ∙ c.if-eq.false) (c.kind_of.ensures ∙ ap kind_of e);
    } in
    let p = pair_logic c.args.nodes.now c.args.pool.now (given c.args.bytes.now) c.args.n logic in
    record {
      state_value = ap (λ (w : Words). w.state) c.words_of-shown.ensures ∙ ap state_of c.answer_of.ensures ∙ sym p.0;
      value_value = ap (λ (w : Words). w.value) c.words_of-shown.ensures ∙ ap value_of c.answer_of.ensures ∙ sym p.1;
    }
