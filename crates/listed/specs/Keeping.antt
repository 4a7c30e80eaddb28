-- The subtrees seen so far, as the listing keeps them (meaning's Rules/Listing, `keep` and `visit`): a tree that is there
-- has the number at which it was put, whatever comes behind; one that is not is put last; a visit of one that is there
-- changes nothing.
use Rattle.std.specs.Prelude.{ℕ, zero, suc, ◌≤◌, ◌<◌, ◌≡◌, List, [], ◌∷◌, ◌++◌, Bool, length, take, eqb}
use Rattle.std.proofs.Math.Path.{refl}
use Rattle.std.proofs.Common.{sym, ap, subst, ◌∙◌, arith, length-take, get_or-take, eq-eqb, ne_eqb}
use Rattle.std.proofs.Math.Bool.{true, false, or-true}
use Rattle.std.proofs.Math.Decide.{dec_lt}
use Rattle.meaning.specs.Rules.Trees.{Tree, Forest, node, none, ◌◂◌, same, children, stump, nth_tree}
use Rattle.meaning.specs.Rules.Refusals.{some}
use Rattle.meaning.specs.Rules.Listing.{keep, visit, visit_all, number_in}
use Rattle.meaning.proofs.Laws.BoolLaws.{true_false}
use Rattle.meaning.proofs.Laws.SearchLaws.{lowest_is, lowest_only}
use Rattle.meaning.proofs.Laws.TreeLaws.{same_eq, eq_same}
use Rattle.meaning.proofs.Laws.ListingLaws.{Has, AllHas, Ordered, some_has, nth_old, nth_new, one_more, visit_has, visit_ordered}

-- ---- a tree that is there
module _ (seen : List Tree) (t : Tree) where
  pub number_most : number_in seen t ≤ length seen
  number_most = (lowest_is (λ i. same t (nth_tree seen i)) (length seen)).within

  pub number_tree : number_in seen t < length seen → nth_tree seen (number_in seen t) ≡ t
  number_tree h = sym (same_eq t (nth_tree seen (number_in seen t)) ((lowest_is (λ i. same t (nth_tree seen i)) (length seen)).passes h))

  pub number_under : (k : ℕ) → k < length seen → nth_tree seen k ≡ t → number_in seen t ≤ k
  number_under k h e = elim (dec_lt k (number_in seen t)) [
    | yes l ↦ absurd (true_false (eq_same t (nth_tree seen k) (sym e)) ((lowest_is (λ i. same t (nth_tree seen i)) (length seen)).before k (omega arith) l))
    | no l ↦ omega arith
  ]

  pub number_has : number_in seen t < length seen → Has seen t
  unfolding Has
  number_has h = (number_in seen t, h, number_tree h)

-- two trees that are there have one number exactly if they are the same
pub same_number : (seen : List Tree) (t u : Tree) → number_in seen t < length seen → number_in seen u < length seen
    → eqb (number_in seen t) (number_in seen u) ≡ same t u
same_number seen t u h k = go (same t u) refl
  where
    go : (b : Bool) → same t u ≡ b → eqb (number_in seen t) (number_in seen u) ≡ same t u
    go true e = eq-eqb (number_in seen t) (number_in seen u) (ap (number_in seen) (same_eq t u e)) ∙ sym e
    go false e =
        ne_eqb (number_in seen t) (number_in seen u)
        (λ q. true_false (eq_same t u (sym (number_tree seen t h) ∙ ap (nth_tree seen) q ∙ number_tree seen u k)) e)
        ∙ sym e

-- ---- more is seen
pub record Grows (seen more : List Tree) : Type 0 where
  pub size : length seen ≤ length more
  pub nth : (k : ℕ) → k < length seen → nth_tree more k ≡ nth_tree seen k

pub grows_own : (seen : List Tree) → Grows seen seen
grows_own seen = record { size = omega arith; nth = λ k h. refl }

pub grows_last : (seen : List Tree) (t : Tree) → Grows seen (seen ++ (t ∷ []))
grows_last seen t = record { size = omega (arith, one_more t seen); nth = nth_old t seen }

module _ {seen more : List Tree} (g : Grows seen more) (t : Tree) (there : number_in seen t < length seen) where
  pub number_stays : number_in more t ≡ number_in seen t
  number_stays = lowest_only (λ i. same t (nth_tree more i)) (length more) (number_in seen t) (record {
    after = omega arith;
    within = omega (arith, g.size);
    passes = λ l. eq_same t (nth_tree more (number_in seen t)) (sym (g.nth (number_in seen t) there ∙ number_tree seen t there));
    before = λ j a b. rw (g.nth j (omega arith)) ((lowest_is (λ i. same t (nth_tree seen i)) (length seen)).before j a b);
  })

  pub still_there : number_in more t < length more
  still_there = omega (arith, number_stays, g.size)

-- ---- keeping a tree, by its number
some_found : (t : Tree) (ts : List Tree) (j : ℕ) → j < length ts → nth_tree ts j ≡ t → some (same t) ts ≡ true
some_found t [] j h e = absurd (omega arith)
some_found t (u ∷ ts) zero h e = rw (eq_same t u (sym e))
some_found t (u ∷ ts) (suc j) h e = rw (some_found t ts j (omega arith) e) (or-true (same t u))

module _ (t : Tree) (seen : List Tree) where
  pub keep_there : number_in seen t < length seen → keep t seen ≡ seen
  keep_there h = rw (some_found t seen (number_in seen t) h (number_tree seen t h))

  pub keep_new : length seen ≤ number_in seen t → keep t seen ≡ seen ++ (t ∷ [])
  unfolding Has
  keep_new h = go (some (same t) seen) refl
    where
      go : (b : Bool) → some (same t) seen ≡ b → keep t seen ≡ seen ++ (t ∷ [])
      go true e =
          let there = some_has t seen e in
          absurd (omega (arith, number_under seen t there.0 there.1 there.2, there.1))
      go false e = rw e

  pub keep_grows : Grows seen (keep t seen)
  keep_grows = elim (dec_lt (number_in seen t) (length seen)) [
    | yes h ↦ subst (Grows seen) (sym (keep_there h)) (grows_own seen)
    | no h ↦ subst (Grows seen) (sym (keep_new (omega arith))) (grows_last seen t)
  ]

  -- the number that it has then
  pub keep_number : (number_in (keep t seen) t ≡ number_in seen t) × (number_in (keep t seen) t < length (keep t seen))
  keep_number = elim (dec_lt (number_in seen t) (length seen)) [
    | yes h ↦ (number_stays keep_grows t h, still_there keep_grows t h)
    | no h ↦ subst (λ (l : List Tree). (number_in l t ≡ number_in seen t) × (number_in l t < length l)) (sym (keep_new (omega arith))) (last (omega arith))
  ]
    where
      last : length seen ≤ number_in seen t
          → (number_in (seen ++ (t ∷ [])) t ≡ number_in seen t) × (number_in (seen ++ (t ∷ [])) t < length (seen ++ (t ∷ [])))
      last l =
          let most = number_most seen t in
          let e : number_in (seen ++ (t ∷ [])) t ≡ length seen =
          lowest_only (λ i. same t (nth_tree (seen ++ (t ∷ [])) i)) (length (seen ++ (t ∷ []))) (length seen) (record {
            after = omega arith;
            within = omega (arith, one_more t seen);
            passes = λ k. eq_same t (nth_tree (seen ++ (t ∷ [])) (length seen)) (sym (nth_new t seen));
            before = λ j a b. rw (nth_old t seen j b) ((lowest_is (λ i. same t (nth_tree seen i)) (length seen)).before j a (omega arith));
          }) in
          (omega arith, omega (arith, one_more t seen))

-- ---- visiting
has_number : (t : Tree) (seen : List Tree) → Has seen t → number_in seen t < length seen
unfolding Has
has_number t seen h = omega (arith, number_under seen t h.0 h.1 h.2, h.1)

below_there : (t : Tree) (seen : List Tree) → Ordered seen → Has seen t → AllHas seen (children t)
unfolding Has Ordered
below_there t seen o h =
    subst (λ (x : Tree). AllHas seen (children x)) h.2
    (grown (children (nth_tree seen h.0)) (o h.0 h.1))
  where
    here : (x : Tree) → Has (take h.0 seen) x → Has seen x
    here x k =
        let size = length-take h.0 seen in
        (k.0, omega (arith, k.1, size), sym (get_or-take h.0 seen k.0 stump (omega (arith, k.1, size))) ∙ k.2)

    grown : (cs : Forest) → AllHas (take h.0 seen) cs → AllHas seen cs
    grown none a = tt
    grown (c ◂ cs) a = (here c a.0, grown cs a.1)

mutual
  pub visit_there : (t : Tree) (seen : List Tree) → Ordered seen → Has seen t → visit t seen ≡ seen
  visit_there (node k d cs) seen o h =
      ap (keep (node k d cs)) (visit_all_there cs seen o (below_there (node k d cs) seen o h))
      ∙ keep_there (node k d cs) seen (has_number (node k d cs) seen h)

  visit_all_there : (ts : Forest) (seen : List Tree) → Ordered seen → AllHas seen ts → visit_all ts seen ≡ seen
  visit_all_there none seen o a = refl
  visit_all_there (t ◂ ts) seen o a = ap (visit_all ts) (visit_there t seen o a.0) ∙ visit_all_there ts seen o a.1

-- a second visit changes nothing
pub visit_again : (t : Tree) (seen : List Tree) → Ordered seen → visit t (visit t seen) ≡ visit t seen
visit_again t seen o = visit_there t (visit t seen) (visit_ordered t seen o) (visit_has t seen)
