-- Reading back what was listed gives the tree (document 01, "Canonical list": the list of a tree).
use Prim.Native.Nat.{ℕ, zero, suc, ◌+◌, ◌-◌, ◌*◌, ◌^◌, ◌≤◌, ◌<◌}
use Rattle.std.specs.Prelude.{◌≡◌, ◌≢◌, Bool, true, false, cond, get_or, take, drop, ltb, eqb}
use Rattle.std.proofs.Math.Path.{refl, sym}
use Rattle.std.proofs.Common.{ap, ap₂, subst, ◌∙◌, arith, mod-eq_of_lt, add-zero, length-append, length-take, drop_at, get_or-take, get_or-append-add}
use mathlib.Core.List.{List, ◌∷◌, ◌++◌, map, append_assoc, []}
use Rattle.std.proofs.Math.Decide.{dec_lt}
use Rattle.std.proofs.Math.ListN.{length, get_or-append}
use Rattle.std.proofs.lemmas.List.{length-map, take-append-le, get_or_at}
use Rattle.std.proofs.Math.Seq.{take_at}
use borrow.Author.Tests.{eqb-false, lt-ltb, le-ltb}
use Rattle.meaning.proofs.Laws.BoolLaws.{true_false, and_both}
use Rattle.meaning.proofs.Laws.SearchLaws.{IsLowest, lowest_is}
use Rattle.meaning.specs.Rules.Limits.{words_per_node}
use Rattle.meaning.specs.Rules.Kinds.{program_word, has_children}
use Rattle.meaning.specs.Rules.Trees.{Tree, Forest, node, none, ◌◂◌, same, kind_word, datum, children, trees, forest, stump, node_count, kind_at, datum_at, children_at, tree_of, root_of, count_at, first_at, nth_tree}
use Rattle.meaning.proofs.Laws.TreeLaws.{same_eq, same_refl, tree_at}
use Rattle.meaning.specs.Rules.Refusals.{some, every}
use Rattle.meaning.specs.Rules.Listing.{keep, visit, visit_all, subtrees, number_in, child_numbers, node_at, node_words, pool_words, listed_nodes, listed_pool, count_word, first_word}

-- ---- the words of node i
pub node_words_lem : (at : ℕ) (ts : List Tree) → length (node_words at ts) ≡ length ts * words_per_node
node_words_lem at [] = refl
node_words_lem at (t ∷ ts) = omega (arith, node_words_lem (at + length (trees (children t))) ts)

-- where the part of node i starts
pub start : ℕ → List Tree → ℕ → ℕ
start at [] i = at
start at (t ∷ ts) zero = at
start at (t ∷ ts) (suc i) = start (at + length (trees (children t))) ts i

-- word w of node i, once over the word
pub word_at : (at : ℕ) (ts : List Tree) (i w : ℕ) → i < length ts → w < words_per_node
    → get_or (node_words at ts) (i * words_per_node + w) 0 ≡ get_or (node_at (start at ts i) (nth_tree ts i)) w 0
unfolding start
word_at at [] i w h l = absurd (omega arith)
word_at at (t ∷ ts) zero w h l =
    let e : 0 * words_per_node + w ≡ w = omega arith in
    rw e (get_or-append (node_at at t) (node_words (at + length (trees (children t))) ts) 0 w l)
word_at at (t ∷ ts) (suc i) w h l =
    let rest = node_words (at + length (trees (children t))) ts in
    let e : suc i * words_per_node + w ≡ length (node_at at t) + (i * words_per_node + w) = omega arith in
    rw e (get_or-append-add (node_at at t) rest (i * words_per_node + w) 0) ∙ word_at (at + length (trees (children t))) ts i w (omega arith) l

-- ---- the pool's part of node i
pub numbers_length : (all : List Tree) (t : Tree) → length (child_numbers all t) ≡ length (trees (children t))
numbers_length all t = length-map (trees (children t)) (number_in all)

pool_part : (all : List Tree) (at : ℕ) (ts : List Tree) (i : ℕ) → i < length ts → (old : List ℕ) → length old ≡ at
    → take (length (trees (children (nth_tree ts i)))) (drop (start at ts i) (old ++ pool_words all ts)) ≡ child_numbers all (nth_tree ts i)
unfolding start
pool_part all at [] i h old e = absurd (omega arith)
pool_part all at (t ∷ ts) zero h old e =
    rw (drop_at old (child_numbers all t ++ pool_words all ts) at e) (take_at (child_numbers all t) (pool_words all ts) _ (numbers_length all t))
pool_part all at (t ∷ ts) (suc i) h old e =
    rw (← (append_assoc old (child_numbers all t) (pool_words all ts)))
    (pool_part all (at + length (trees (children t))) ts i (omega arith) (old ++ child_numbers all t)
    (length-append old (child_numbers all t) ∙ omega (arith, numbers_length all t)))

pub part_fits : (all : List Tree) (at : ℕ) (ts : List Tree) (i : ℕ) → i < length ts
    → start at ts i + length (trees (children (nth_tree ts i))) ≤ at + length (pool_words all ts)
unfolding start
part_fits all at [] i h = absurd (omega arith)
part_fits all at (t ∷ ts) zero h = omega (arith, length-append (child_numbers all t) (pool_words all ts), numbers_length all t)
part_fits all at (t ∷ ts) (suc i) h =
    omega (arith, length-append (child_numbers all t) (pool_words all ts), numbers_length all t, part_fits all (at + length (trees (children t))) ts i (omega arith))

-- ---- what a list of trees has
unfoldable pub Has : List Tree → Tree → Type 0
Has ts t = (j : ℕ) × (j < length ts) × (nth_tree ts j ≡ t)

abbrev pub AllHas : List Tree → Forest → Type 0
AllHas ts none = Unit {0}
AllHas ts (c ◂ cs) = Has ts c × AllHas ts cs

-- each tree's children stand before it
unfoldable pub Ordered : List Tree → Type 0
Ordered ts = (i : ℕ) → i < length ts → AllHas (take i ts) (children (nth_tree ts i))

-- a property of every tree of the list
abbrev pub Every : (Tree → Type 0) → List Tree → Type 0
Every P ts = (j : ℕ) → j < length ts → P (nth_tree ts j)

-- a property of a tree and of all below it
abbrev mutual
  pub Deep : (Tree → Type 0) → Tree → Type 0
  Deep P (node k d cs) = P (node k d cs) × DeepAll P cs

  pub DeepAll : (Tree → Type 0) → Forest → Type 0
  DeepAll P none = Unit {0}
  DeepAll P (t ◂ ts) = Deep P t × DeepAll P ts

pub some_has : (t : Tree) (ts : List Tree) → some (same t) ts ≡ true → Has ts t
unfolding Has
some_has t [] h = absurd (true_false h refl)
some_has t (u ∷ ts) h = go (same t u) refl (some_has t ts)
  where
    go : (b : Bool) → same t u ≡ b → (some (same t) ts ≡ true → Has ts t) → Has (u ∷ ts) t
    go true e ih = (0, omega arith, sym (same_eq t u e))
    go false e ih = let (j, l, q) = ih (rw e at h) in (suc j, omega arith, q)

-- ---- keeping a tree
module _ (t : Tree) (seen : List Tree) where
  pub nth_old : (j : ℕ) → j < length seen → nth_tree (seen ++ (t ∷ [])) j ≡ nth_tree seen j
  nth_old j h = get_or-append seen (t ∷ []) stump j h

  pub nth_new : nth_tree (seen ++ (t ∷ [])) (length seen) ≡ t
  nth_new = get_or_at seen t [] stump (length seen) refl

  pub one_more : length (seen ++ (t ∷ [])) ≡ suc (length seen)
  one_more = length-append seen (t ∷ []) ∙ omega arith

  -- to show something of the list with t kept, show it where t is there already and where it is put last
  kept : (P : List Tree → Type 0) → (Has seen t → P seen) → P (seen ++ (t ∷ [])) → P (keep t seen)
  kept P p q = go (some (same t) seen) refl
    where
      go : (b : Bool) → some (same t) seen ≡ b → P (keep t seen)
      go true e = rw e (p (some_has t seen e))
      go false e = rw e q

  pub old_has : (x : Tree) → Has seen x → Has (seen ++ (t ∷ [])) x
  unfolding Has
  old_has x h = (h.0, omega (arith, h.1, one_more), nth_old h.0 h.1 ∙ h.2)

  pub keep_has : Has (keep t seen) t
  unfolding Has
  keep_has = kept (λ l. Has l t) (λ h. h) (length seen, omega (arith, one_more), nth_new)

  keep_old : (x : Tree) → Has seen x → Has (keep t seen) x
  keep_old x h = kept (λ l. Has l x) (λ k. h) (old_has x h)

  keep_every : (P : Tree → Type 0) → Every P seen → P t → Every P (keep t seen)
  keep_every P h p = kept (Every P) (λ k. h) (λ j l. go j l (dec_lt j (length seen)))
    where
      go : (j : ℕ) → j < length (seen ++ (t ∷ [])) → Dec (j < length seen) → P (nth_tree (seen ++ (t ∷ [])) j)
      go j l (yes k) = subst P (sym (nth_old j k)) (h j k)
      go j l (no k) =
          let e : j ≡ length seen = omega (arith, one_more) in
          subst (λ (x : ℕ). P (nth_tree (seen ++ (t ∷ [])) x)) (sym e) (subst P (sym nth_new) p)

  pub keep_ordered : Ordered seen → AllHas seen (children t) → Ordered (keep t seen)
  unfolding Ordered
  keep_ordered o a = kept Ordered (λ k. o) (λ i l. go i l (dec_lt i (length seen)))
    where
      go : (i : ℕ) → i < length (seen ++ (t ∷ [])) → Dec (i < length seen)
          → AllHas (take i (seen ++ (t ∷ []))) (children (nth_tree (seen ++ (t ∷ [])) i))
      go i l (yes k) =
          rw (take-append-le i seen (t ∷ []) (omega arith), nth_old i k) (o i k)
      go i l (no k) =
          let e : i ≡ length seen = omega (arith, one_more) in
          rw (e, take_at seen (t ∷ []) (length seen) refl, nth_new) a

-- ---- visiting a tree
all_has_grows : (ts us : List Tree) → ((x : Tree) → Has ts x → Has us x) → (cs : Forest) → AllHas ts cs → AllHas us cs
all_has_grows ts us f none a = tt
all_has_grows ts us f (c ◂ cs) a = (f c a.0, all_has_grows ts us f cs a.1)

mutual
  pub visit_old : (t : Tree) (seen : List Tree) (x : Tree) → Has seen x → Has (visit t seen) x
  visit_old (node k d cs) seen x h = keep_old (node k d cs) (visit_all cs seen) x (visit_all_old cs seen x h)

  pub visit_all_old : (ts : Forest) (seen : List Tree) (x : Tree) → Has seen x → Has (visit_all ts seen) x
  visit_all_old none seen x h = h
  visit_all_old (t ◂ ts) seen x h = visit_all_old ts (visit t seen) x (visit_old t seen x h)

pub visit_has : (t : Tree) (seen : List Tree) → Has (visit t seen) t
visit_has (node k d cs) seen = keep_has (node k d cs) (visit_all cs seen)

pub visit_all_has : (ts : Forest) (seen : List Tree) → AllHas (visit_all ts seen) ts
visit_all_has none seen = tt
visit_all_has (t ◂ ts) seen = (visit_all_old ts (visit t seen) t (visit_has t seen), visit_all_has ts (visit t seen))

mutual
  pub visit_ordered : (t : Tree) (seen : List Tree) → Ordered seen → Ordered (visit t seen)
  visit_ordered (node k d cs) seen o = keep_ordered (node k d cs) (visit_all cs seen) (visit_all_ordered cs seen o) (visit_all_has cs seen)

  pub visit_all_ordered : (ts : Forest) (seen : List Tree) → Ordered seen → Ordered (visit_all ts seen)
  visit_all_ordered none seen o = o
  visit_all_ordered (t ◂ ts) seen o = visit_all_ordered ts (visit t seen) (visit_ordered t seen o)

module _ (P : Tree → Type 0) where
  mutual
    visit_every : (t : Tree) (seen : List Tree) → Every P seen → Deep P t → Every P (visit t seen)
    visit_every (node k d cs) seen h p = keep_every (node k d cs) (visit_all cs seen) P (visit_all_every cs seen h p.1) p.0

    visit_all_every : (ts : Forest) (seen : List Tree) → Every P seen → DeepAll P ts → Every P (visit_all ts seen)
    visit_all_every none seen h p = h
    visit_all_every (t ◂ ts) seen h p = visit_all_every ts (visit t seen) (visit_every t seen h p.0) p.1

-- ---- the root comes last: no tree is below itself
abbrev mutual
  size : Tree → ℕ
  size (node k d cs) = suc (sizes cs)

  sizes : Forest → ℕ
  sizes none = 0
  sizes (t ◂ ts) = size t + sizes ts

mutual
  small_deep : (b : ℕ) (t : Tree) → size t < b → Deep (λ x. size x < b) t
  small_deep b (node k d cs) h = (h, small_all b cs (omega arith))

  small_all : (b : ℕ) (ts : Forest) → sizes ts < b → DeepAll (λ x. size x < b) ts
  small_all b none h = tt
  small_all b (t ◂ ts) h = (small_deep b t (omega arith), small_all b ts (omega arith))

not_below : (t : Tree) → Has (visit_all (children t) []) t → ⊥
unfolding Has
not_below (node k d cs) h =
    let all = visit_all_every (λ x. size x < size (node k d cs)) cs [] (λ j l. absurd (omega arith)) (small_all (size (node k d cs)) cs (omega arith)) in
    let own : size (node k d cs) < size (node k d cs) = subst (λ (x : Tree). size x < size (node k d cs)) h.2 (all h.0 h.1) in
    omega arith

pub listed_last : (t : Tree) → subtrees t ≡ visit_all (children t) [] ++ (t ∷ [])
unfolding subtrees
listed_last (node k d cs) = go (some (same (node k d cs)) (visit_all cs [])) refl
  where
    go : (b : Bool) → some (same (node k d cs)) (visit_all cs []) ≡ b → keep (node k d cs) (visit_all cs []) ≡ visit_all cs [] ++ (node k d cs ∷ [])
    go true e = absurd (not_below (node k d cs) (some_has (node k d cs) (visit_all cs []) e))
    go false e = rw e

-- ---- a tree's number
module _ (all : List Tree) (i : ℕ) (short : i ≤ length all) where
  number_is : (c : Tree) → Has (take i all) c → (number_in all c < i) × (nth_tree all (number_in all c) ≡ c)
  unfolding Has
  number_is c h = (before, sym (same_eq c (nth_tree all (number_in all c)) (found.passes (omega (arith, before)))))
    where
      found : IsLowest (λ i. same c (nth_tree all i)) 0 (length all) (number_in all c)
      found = lowest_is (λ i. same c (nth_tree all i)) (length all)

      early : h.0 < i
      early = omega (arith, h.1, length-take i all)

      is_c : nth_tree all h.0 ≡ c
      is_c = sym (get_or-take i all h.0 stump early) ∙ h.2

      before : number_in all c < i
      before = elim (dec_lt h.0 (number_in all c)) [
        | yes k ↦ absurd (true_false (subst (λ (x : Tree). same c x ≡ true) (sym is_c) (same_refl c)) (found.before h.0 (omega arith) k))
        | no k ↦ omega (arith, early)
      ]

  numbers_below : (cs : Forest) → AllHas (take i all) cs → every (λ c. ltb c i) (map (number_in all) (trees cs)) ≡ true
  numbers_below none a = refl
  numbers_below (c ◂ cs) a = and_both (ltb (number_in all c) i) _ (lt-ltb (number_in all c) i (number_is c a.0).0) (numbers_below cs a.1)

  numbers_forest : (f : ℕ → Tree) → ((j : ℕ) → j < i → f j ≡ nth_tree all j) → (cs : Forest) → AllHas (take i all) cs
      → forest f (map (number_in all) (trees cs)) ≡ cs
  numbers_forest f h none a = refl
  numbers_forest f h (c ◂ cs) a =
      let n = number_is c a.0 in
      ap₂ (λ (x : Tree) (xs : Forest). x ◂ xs) (h (number_in all c) n.0 ∙ n.1) (numbers_forest f h cs a.1)

-- ---- trees that the node words can hold
pub record Listable (t : Tree) : Type 0 where
  pub leaf : kind_word t < 4 → children t ≡ none
  pub inner : 3 < kind_word t → datum t ≡ 0
  pub small : kind_word t < 4 → kind_word t ≢ 1 → datum t < 2 ^ 32

node_eta : (t : Tree) → node (kind_word t) (datum t) (children t) ≡ t
node_eta (node k d cs) = refl

-- the datum, back from the two words
datum_back : (t : Tree) (at : ℕ) → Listable t
    → cond (has_children (kind_word t)) 0
    (cond (eqb (kind_word t) program_word) (first_word at t + count_word t * 2 ^ 32) (first_word at t)) ≡ datum t
datum_back t at l = go (dec_lt 3 (kind_word t)) (eqb (kind_word t) 1) refl
  where
    go : Dec (3 < kind_word t) → (b : Bool) → eqb (kind_word t) 1 ≡ b
        → cond (has_children (kind_word t)) 0
        (cond (eqb (kind_word t) program_word) (first_word at t + count_word t * 2 ^ 32) (first_word at t)) ≡ datum t
    go (yes k) b e = rw (lt-ltb 3 (kind_word t) k) (sym (l.inner k))
    go (no k) true e = rw (le-ltb 3 (kind_word t) (omega arith), e) (omega arith)
    go (no k) false e = rw (le-ltb 3 (kind_word t) (omega arith), e) (mod-eq_of_lt (l.small (omega arith) (eqb-false (kind_word t) 1 e)))

module _ (all : List Tree) (ordered : Ordered all) (listable : Every Listable all) where
  abbrev ns : List ℕ
  ns = node_words 0 all

  abbrev ps : List ℕ
  ps = pool_words all all

  pub listed_count : node_count ns ≡ length all
  listed_count = omega (arith, node_words_lem 0 all)

  module _ (i : ℕ) (h : i < length all) where
    abbrev t : Tree
    t = nth_tree all i

    pub listed_kind : kind_at ns i ≡ kind_word t
    listed_kind = ap (λ (x : ℕ). get_or ns x 0) (sym (add-zero (i * words_per_node))) ∙ word_at 0 all i 0 h (omega arith)

    pub listed_first : first_at ns i ≡ first_word (start 0 all i) t
    listed_first = word_at 0 all i 1 h (omega arith)

    pub listed_count_word : count_at ns i ≡ count_word t
    listed_count_word = word_at 0 all i 2 h (omega arith)

    pub listed_datum : datum_at ns i ≡ datum t
    unfolding datum_at
    listed_datum = rw (listed_kind, listed_first, listed_count_word) (datum_back t (start 0 all i) (listable i h))

    pub listed_children : children_at ns ps i ≡ child_numbers all t
    unfolding children_at
    listed_children = go (dec_lt 3 (kind_word t))
      where
        go : Dec (3 < kind_word t) → children_at ns ps i ≡ child_numbers all t
        go (yes k) =
            rw (listed_kind, listed_first, listed_count_word, lt-ltb 3 (kind_word t) k) (pool_part all 0 all i h [] refl)
        go (no k) =
            rw (listed_kind, le-ltb 3 (kind_word t) (omega arith))
            (ap (λ (cs : Forest). map (number_in all) (trees cs)) (sym ((listable i h).leaf (omega arith))))

    pub listed_below : every (λ c. ltb c i) (children_at ns ps i) ≡ true
    unfolding Ordered
    listed_below = rw listed_children (numbers_below all i (omega arith) (children t) (ordered i h))

  -- reading node i back gives the i-th tree
  listed_tree_below : (b i : ℕ) → i < b → i < length all → tree_of ns ps i ≡ nth_tree all i
  unfolding Ordered
  listed_tree_below zero i l h = absurd (omega arith)
  listed_tree_below (suc b) i l h =
      tree_at ns ps i (listed_below i h)
      ∙ rw (
        listed_kind i h,
        listed_datum i h,
        listed_children i h,
        numbers_forest all i (omega arith) (tree_of ns ps) (λ j k. listed_tree_below b j (omega arith) (omega arith)) (children (nth_tree all i)) (ordered i h),
      )
      (node_eta (nth_tree all i))

  pub listed_tree : (i : ℕ) → i < length all → tree_of ns ps i ≡ nth_tree all i
  listed_tree i h = listed_tree_below (suc i) i (omega arith) h

pub listed_ordered : (t : Tree) → Ordered (subtrees t)
unfolding subtrees Ordered
listed_ordered t = visit_ordered t [] (λ i l. absurd (omega arith))

pub listed_every : (P : Tree → Type 0) (t : Tree) → Deep P t → Every P (subtrees t)
unfolding subtrees
listed_every P t deep = visit_every P t [] (λ j l. absurd (omega arith)) deep

listed_listable : (t : Tree) → Deep Listable t → Every Listable (subtrees t)
listed_listable = listed_every Listable

-- ---- reading back what was listed gives the tree
pub listed_root : (t : Tree) → Deep Listable t → root_of (listed_nodes t) (listed_pool t) ≡ t
unfolding root_of listed_nodes listed_pool
listed_root t deep = rw at (listed_tree (subtrees t) (listed_ordered t) (listed_listable t deep) (length before) (omega (arith, size_is)) ∙ last)
  where
    before : List Tree
    before = visit_all (children t) []

    size_is : length (subtrees t) ≡ suc (length before)
    size_is = ap length (listed_last t) ∙ one_more t before

    at : node_count (node_words 0 (subtrees t)) - 1 ≡ length before
    at = omega (arith, listed_count (subtrees t) (listed_ordered t) (listed_listable t deep), size_is)

    last : nth_tree (subtrees t) (length before) ≡ t
    last = rw (listed_last t) (nth_new t before)
