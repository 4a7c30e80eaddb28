-- A row that is read and stored word by word, a node whose form stands in another's row, and the pass as it begins.
use Prim.Native.Nat.{ℕ, ◌+◌, ◌*◌, ◌≤◌, ◌<◌}
use Rattle.std.specs.Prelude.{◌≡◌, get_or, take, set}
use Rattle.std.proofs.Math.Path.{refl, sym, ap, subst}
use Rattle.std.proofs.Common.{◌∙◌, arith, zero-add, length-take-le, length-set, get_or-set_same, get_or-set_other, get_or-take, ext_get_or}
use mathlib.Core.List.{List}
use Rattle.std.proofs.Math.Decide.{ℕ_discrete}
use Rattle.std.proofs.Math.ListN.{length}
use Rattle.std.proofs.lemmas.List.{length-map}
use Rattle.meaning.specs.Rules.Limits.{work_per_node, most_operands}
use Rattle.meaning.specs.Rules.Trees.{node_count}
use Rattle.meaning.specs.Rules.Reach.{mark_of}
use Rattle.columns.specs.Columns.{place, cell, home_column, kind_column, datum_column, count_column, operand_column, number_column}
use Rattle.rows.specs.Rows.{Prepared}
use Rattle.form_rows.specs.Forms.{nf_at, Home}
use Rattle.forms.specs.Turns.{Turn, Passed, Done, other, Beside, beside_set, beside_then}
use Rattle.forms.specs.Operands.{Read, Kid, homes_of, map_at}
use Rattle.forms.specs.Stores.{RowAt, Placed}

-- ---- the homes of the children, read one by one
pub read_next : (work cs ys : List ℕ) (n v : ℕ) → Read work cs ys n → n < length ys → v ≡ cell work home_column (get_or cs n 0)
    → Read work cs (set ys n v) (n + 1)
read_next work cs ys n v r inside is m h = elim (ℕ_discrete m n) [
  | yes e ↦ rw e (get_or-set_same ys n v 0 inside ∙ is)
  | no e ↦ get_or-set_other ys n m v 0 e ∙ r m (omega arith)
]

pub read_all : (work cs ys : List ℕ) → Read work cs ys (length cs) → length cs ≤ length ys → take (length cs) ys ≡ homes_of work cs
read_all work cs ys r room =
    let size : length (take (length cs) ys) ≡ length cs = length-take-le (length cs) ys room in
    ext_get_or 0 (take (length cs) ys) (homes_of work cs) (size ∙ sym (length-map cs (cell work home_column)))
    (λ j h.
    let small : j < length cs = omega (arith, size) in
    get_or-take (length cs) ys j 0 small ∙ r j small ∙ sym (map_at (cell work home_column) cs j small))

-- ---- a row stored word by word, and its operands
pub row_stored : (work : List ℕ) (i home kind datum count : ℕ) → work_per_node * i + work_per_node ≤ length work
    → RowAt work (set (set (set (set work (place home_column i) home) (place kind_column i) kind) (place datum_column i) datum) (place count_column i) count) i home kind datum count
row_stored work i home kind datum count room = record {
  beside = beside_then (beside_then (beside_then (beside_set work i home_column home (omega arith) (omega arith)) (beside_set a i kind_column kind (omega arith) (omega arith)))
      (beside_set b i datum_column datum (omega arith) (omega arith))) (beside_set c i count_column count (omega arith) (omega arith));
  home = get_or-set_other c (place count_column i) (place home_column i) count 0 (λ e. absurd (omega arith))
      ∙ get_or-set_other b (place datum_column i) (place home_column i) datum 0 (λ e. absurd (omega arith))
      ∙ get_or-set_other a (place kind_column i) (place home_column i) kind 0 (λ e. absurd (omega arith))
      ∙ get_or-set_same work (place home_column i) home 0 (omega arith);
  kind = get_or-set_other c (place count_column i) (place kind_column i) count 0 (λ e. absurd (omega arith))
      ∙ get_or-set_other b (place datum_column i) (place kind_column i) datum 0 (λ e. absurd (omega arith))
      ∙ get_or-set_same a (place kind_column i) kind 0 (omega (arith, size_a));
  datum = get_or-set_other c (place count_column i) (place datum_column i) count 0 (λ e. absurd (omega arith))
      ∙ get_or-set_same b (place datum_column i) datum 0 (omega (arith, size_a, size_b));
  count = get_or-set_same c (place count_column i) count 0 (omega (arith, size_a, size_b, size_c));
}
  where
    a : List ℕ
    a = set work (place home_column i) home

    b : List ℕ
    b = set a (place kind_column i) kind

    c : List ℕ
    c = set b (place datum_column i) datum

    size_a : length a ≡ length work
    size_a = length-set work (place home_column i) home

    size_b : length b ≡ length a
    size_b = length-set a (place kind_column i) kind

    size_c : length c ≡ length b
    size_c = length-set b (place datum_column i) datum

pub placed_next : {before after : List ℕ} {i : ℕ} {xs : List ℕ} {n : ℕ} → Placed before after i xs n → n < most_operands
    → work_per_node * i + work_per_node ≤ length before → Placed before (set after (place (operand_column + n) i) (get_or xs n 0)) i xs (n + 1)
placed_next {before} {after} {i} {xs} {n} p few room = record {
  size = length-set after (place (operand_column + n) i) (get_or xs n 0) ∙ p.size;
  same = λ q j h apart.
      get_or-set_other after (place (operand_column + n) i) (place q j) (get_or xs n 0) 0 (λ e. absurd (apart (omega arith) (omega arith) (omega arith)))
      ∙ p.same q j h apart;
  stored = λ j h. elim (ℕ_discrete j n) [
    | yes e ↦ rw e (get_or-set_same after (place (operand_column + n) i) (get_or xs n 0) 0 (omega (arith, p.size)))
    | no e ↦
        get_or-set_other after (place (operand_column + n) i) (place (operand_column + j) i) (get_or xs n 0) 0 (λ k. e (omega arith))
        ∙ p.stored j (omega arith)
  ];
}

-- ---- a node whose form stands in another's row
module _ {ns ps before after : List ℕ} {i : ℕ} (t : Turn ns ps before i) (marked : 0 < mark_of ns ps i) where
  kid_after : (x : ℕ) → Beside before after i → Kid ns ps before i x → Kid ns ps after i x
  kid_after x b k = (
    k.0,
    record {
      inside = k.1.inside;
      marked = k.1.marked;
      own = b.same home_column x (omega arith) (λ e. absurd (omega (arith, k.0))) ∙ k.1.own;
    },
  )

  pub other_done : (h : ℕ) → Beside before after i → cell after home_column i ≡ h → Kid ns ps before i h → nf_at ns ps i ≡ nf_at ns ps h → Done ns ps after i
  other_done h b is k e =
      let home = kid_after h b k in
      other (omega (arith, is, k.0)) (record {
        below = omega (arith, is, k.0);
        home = subst (λ (x : ℕ). Home ns ps after x) (sym is) home.1;
        same = e ∙ ap (nf_at ns ps) (sym is);
      })

-- ---- nothing is touched yet
pub beside_own : (work : List ℕ) (i : ℕ) → Beside work work i
beside_own work i = record { size = refl; same = λ q j hq apart. refl }

pub passed_none : {ns ps work : List ℕ} → Prepared ns ps 0 work → Passed ns ps work 0
passed_none {ns} {ps} {work} p = record {
  formed = record {
    sound = p.sound;
    room = rw (zero-add (node_count ns)) at p.room;
    within = omega arith;
    homes = λ i l. absurd (omega arith);
    forms = λ h l. absurd (omega arith);
  };
  marks = λ j l. rw (zero-add j) at (p.marks j l);
  numbers = λ j l. absurd (omega arith);
}
