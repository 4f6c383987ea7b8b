-- Cuts, made one after another.
use Rattle.std.proofs.Common.{arith, zero, suc, ◌-◌, ◌≡◌, ◌∙◌, ℕ, ◌+◌, ◌<◌, ◌≤◌, ◌++◌, List, [], ◌∷◌, Bool, true, false, not, refl, sym, ap, get_or, slice_index_or}
use Rattle.std.specs.declared.cmp.Ordering.{Ordering}
use Rattle.std.specs.declared.cmp.Ordering.TheVariants.{Less, Equal, Greater}
use Rattle.std.specs.Cmp.{IsTotalOrder}
use Rattle.std.specs.Ordering.{is_gt, is_lt, ordering_reverse}
use Rattle.std.proofs.lemmas.Cmp.{tied_itself, upto}
use Rattle.std.proofs.lemmas.List.Elements.{All-append}
use Rattle.std.proofs.lemmas.List.Quantifiers.{all_pairs_push}
use Rattle.std.proofs.lemmas.List.Sums.{sum_by_push}
use Rattle.work_core.specs.Ranges.{is_from}
use Rattle.work_core.specs.Shares.{IsCutBefore, IsCutUpto}
use Rattle.work_core.specs.declared.shares.Cut.{Cut}

-- `Less` reversed is `Greater`
flip : (o : Ordering) → is_lt (ordering_reverse o) ≡ is_gt o
flip Less = refl
flip Equal = refl
flip Greater = refl

-- a negated test that is true was false
denied : (t : Bool) → not t ≡ true → t ≡ false
denied true e = cc
denied false e = refl

module _ {T : Type 0} (cmp : T → T → Ordering) where
  -- one part more
  pub next_part : (workers before behind some left : ℕ) (cuts : List (Cut T)) (last : T) → behind + 1 ≡ before
      → IsCutUpto cmp workers before cuts last some left → IsCutUpto cmp workers behind cuts last (some + 1) left
  next_part workers before behind some left cuts last fewer so = record {
    cut = so.cut;
    upto = so.upto;
    enough = omega (arith, so.enough, fewer);
    shared = so.shared;
    within = so.within;
  }

module _ {T : Type 0} (cmp : T → T → Ordering) (total : IsTotalOrder cmp) where
  -- `is_from` by the reversed comparison
  from_gt : (first x : T) → is_from cmp first x ≡ not (is_gt (cmp first x))
  from_gt first x = ap (λ o. not (is_lt o)) (total.antisymm x first) ∙ ap not (flip (cmp first x))

  -- `is_from` is transitive
  pub from_on : (first middle x : T) → is_from cmp first middle ≡ true → is_from cmp middle x ≡ true
      → is_from cmp first x ≡ true
  from_on first middle x low high =
      from_gt first x
      ∙ ap not (upto total first middle x (denied (is_gt (cmp first middle)) (sym (from_gt first middle) ∙ low))
      (denied (is_gt (cmp middle x)) (sym (from_gt middle x) ∙ high)))

  -- one cut more
  pub one_more : (workers parts some left : ℕ) (cuts : List (Cut T)) (last : T) (cut : Cut T)
      → IsCutUpto cmp workers parts cuts last some left → is_from cmp last cut.at ≡ true
      → 0 < cut.workers → cut.workers ≤ some
      → IsCutUpto cmp workers parts (cuts ++ cut ∷ []) cut.at 0 (left - cut.workers)
  one_more workers parts some left cuts last cut so next few enough = record {
    cut = record {
      rise = all_pairs_push (IsCutBefore cmp) cuts cut so.cut.rise
          (λ k d within. from_on (get_or cuts k d).at last cut.at (so.upto k d within) next);
      some = All-append (λ (c : Cut T). (0 < c.workers) × (c.workers ≤ workers)) cuts (cut ∷ []) so.cut.some
          (λ k d within. at_one (λ (c : Cut T). (0 < c.workers) × (c.workers ≤ workers)) cut k d within
          (few, omega (arith, so.enough, so.within, enough)));
    };
    upto = All-append (λ (c : Cut T). is_from cmp c.at cut.at ≡ true) cuts (cut ∷ [])
        (λ k d within. from_on (slice_index_or cuts k d).at last cut.at (so.upto k d within) next)
        (λ k d within. at_one (λ (c : Cut T). is_from cmp c.at cut.at ≡ true) cut k d within (itself cut.at));
    enough = omega (arith, so.enough, enough);
    shared = omega (arith, so.shared, so.enough, enough, sum_by_push (λ (c : Cut T). c.workers) cuts cut);
    within = omega (arith, so.within);
  }
    where
      at_one : (P : Cut T → Type 0) (c : Cut T) (k : ℕ) (d : Cut T) → k < 1 → P c → P (slice_index_or (c ∷ []) k d)
      at_one P c zero d within holds = holds
      at_one P c (suc k) d within holds = absurd (omega (arith, within))

      itself : (x : T) → is_from cmp x x ≡ true
      itself x = ap (λ o. not (is_lt o)) (tied_itself total x)

-- the same for equal arguments
pub moved : {T : Type 0} (cmp : T → T → Ordering) (workers parts : ℕ) {cuts other_cuts : List (Cut T)} {last other_last : T}
    {some other_some left other_left : ℕ} → cuts ≡ other_cuts → last ≡ other_last → some ≡ other_some → left ≡ other_left
    → IsCutUpto cmp workers parts other_cuts other_last other_some other_left → IsCutUpto cmp workers parts cuts last some left
moved cmp workers parts c l s r so = rw (c, l, s, r) so
