-- The steps of one part, and proofs that counts and sums fit.
use Rattle.std.proofs.Common.{◌≡◌, ◌+◌, ◌^◌, ◌<◌, ◌≤◌, ℕ, List, [], ◌∷◌, ◌++◌, length, take, get_or, Option, Some, None, inl, inr, refl, sym, subst, ap, ◌∙◌, arith, Bool, true, false, cond}
use Rattle.std.specs.Prelude.{ℤ, pos, neg_ℤ, ◌≤ℤ◌, ◌<ℤ◌, Contains}
use Rattle.std.proofs.lemmas.Int.{ints}
use Rattle.std.proofs.lemmas.List.{take_more}
use Rattle.period_core.specs.declared.period.Period.{Period}
use Rattle.period_core.specs.Period.{holds_at}
use Rattle.dip_core.specs.declared.item.Item.{Item}
use Rattle.dip_core.specs.Item.{IsChain, item_limit}
use Rattle.list_core.proofs.RisingLemmas.{Contains-head, Contains-cons, Contains-cons_cases, Contains-none}
use Rattle.merge_core.specs.declared.tally.Tally.{Tally}
use Rattle.merge_core.specs.declared.step.Step.{Step}
use Rattle.merge_core.specs.Tallies.{holding, IsTally, IsTallyAt, both}
use Rattle.merge_core.specs.Steps.{tally_at, AreStepsApart, StepList, IsStepListOf, IsWeighed, AreWeighed, IsStepList}
use Rattle.merge_core.specs.Combining.{IsLoneStep, AreLoneSteps, CanAddTallies, CanAdd, IsBothSteps}
use Rattle.merge_core.proofs.SharedLemmas.{by_order}
use Rattle.merge_core.proofs.PartLemmas.{chain_head, IsChain-tail}
use Rattle.merge_core.proofs.MergeLemmas.{Contains-only}
use Rattle.merge_core.proofs.StepLemmas.{apart_head, apart_tail, apart_none, apart_cons, holds_yes, holds_early, holds_late, at_yes, at_late}

-- ---- the bounds of one amount

pub lone_weighed : (tally : Tally) (a : ℤ) → neg_ℤ (pos (2 ^ 63)) ≤ℤ a → a ≤ℤ pos (2 ^ 63) → tally.count ≡ 1
    → tally.sum ≡ a → IsWeighed 1 tally
lone_weighed tally a least most count sum =
    record { count = omega arith; least = omega (arith, ints); most = omega (arith, ints) }

pub lone_tallies : (x : Item) (tally : Tally) → tally.count ≡ 1 → tally.sum ≡ x.amount → tally.min ≡ x.amount
    → tally.max ≡ x.amount → IsTally (x ∷ []) tally
lone_tallies x tally count sum min max =
    record {
      count = count;
      sum = omega (arith, ints);
      min_in = subst (Contains (x.amount ∷ [])) (sym min) (Contains-head x.amount []);
      min_least = λ a h. let e : x.amount ≡ a = Contains-only x.amount a h in omega (arith, ints);
      max_in = subst (Contains (x.amount ∷ [])) (sym max) (Contains-head x.amount []);
      max_greatest = λ a h. let e : x.amount ≡ a = Contains-only x.amount a h in omega (arith, ints);
    }

IsWeighed-more : (v w : ℕ) (tally : Tally) → v ≤ w → IsWeighed v tally → IsWeighed w tally
IsWeighed-more v w tally h i =
    let a = i.count in
    let b = i.least in
    let d = i.most in
    record { count = omega arith; least = omega (arith, ints); most = omega (arith, ints) }

weighed_add : (v w : ℕ) (a b : Tally) → v + w ≤ item_limit → IsWeighed v a → IsWeighed w b → CanAddTallies a b
weighed_add v w a b small i j =
    let ic = i.count in
    let il = i.least in
    let im = i.most in
    let jc = j.count in
    let jl = j.least in
    let jm = j.most in
    record { count = omega arith; sum = omega (arith, ints) }

pub can_add : (v w : ℕ) (xs ys : List Step) → v + w ≤ item_limit → AreWeighed v xs → AreWeighed w ys → CanAdd xs ys
can_add v w xs ys small a b x y h k = weighed_add v w x.tally y.tally small (a x h) (b y k)

-- ---- the sum of two tallies is within the sum of both weights

at_own : (steps : List Step) (s : Step) → AreStepsApart steps → Contains steps s
    → tally_at steps s.period.from ≡ Some s.tally
at_own [] s r h = absurd (Contains-none s h)
at_own (x ∷ xs) s r h =
    elim (Contains-cons_cases x xs s h) [
      | inl e ↦ (
          let proper : s.period.from <ℤ s.period.to = s.period.ordered in
          subst (λ (v : Step). tally_at (v ∷ xs) s.period.from ≡ Some s.tally) (sym e)
          (at_yes s xs s.period.from (omega (arith, ints)) proper))
      | inr k ↦ at_late x xs s.period.from (apart_head x xs s r k) ∙ at_own xs s (apart_tail x xs r) k
    ]

-- A tally, if there is one, is within the weight.
abbrev WeighedAt : ℕ → Option Tally → Type 0
WeighedAt w None = Unit {0}
WeighedAt w (Some a) = IsWeighed w a

chosen : (w : ℕ) (b : Bool) (x : Tally) (o : Option Tally) → IsWeighed w x → WeighedAt w o
    → WeighedAt w (cond b (Some x) o)
chosen w true x o i j = i
chosen w false x o i j = j

weighed_at : (w : ℕ) (steps : List Step) (t : ℤ) → AreWeighed w steps → WeighedAt w (tally_at steps t)
weighed_at w [] t h = tt
weighed_at w (s ∷ steps) t h =
    chosen w (holds_at t s.period) s.tally (tally_at steps t) (h s (Contains-head s steps))
    (weighed_at w steps t (λ r k. h r (Contains-cons s steps r k)))

weighed_both : (v w : ℕ) (a b : Option Tally) → WeighedAt v a → WeighedAt w b → WeighedAt (v + w) (both a b)
weighed_both v w None None i j = tt
weighed_both v w None (Some b) i j = IsWeighed-more w (v + w) b (omega arith) j
weighed_both v w (Some a) None i j = IsWeighed-more v (v + w) a (omega arith) i
weighed_both v w (Some a) (Some b) i j =
    let ic = i.count in
    let il = i.least in
    let im = i.most in
    let jc = j.count in
    let jl = j.least in
    let jm = j.most in
    record { count = omega arith; least = omega (arith, ints); most = omega (arith, ints) }

both_weighed : (v w : ℕ) (one other steps : List Step) → AreWeighed v one → AreWeighed w other
    → IsBothSteps one other steps → AreWeighed (v + w) steps
both_weighed v w one other steps a b i s h =
    let e : Some s.tally ≡ both (tally_at one s.period.from) (tally_at other s.period.from) =
    sym (at_own steps s i.apart h) ∙ i.tallies s.period.from in
    subst (WeighedAt (v + w)) (sym e)
    (weighed_both v w (tally_at one s.period.from) (tally_at other s.period.from)
    (weighed_at v one s.period.from a) (weighed_at w other s.period.from b))

pub both_kept : (v w u : ℕ) (one other steps : List Step) → u ≡ v + w → IsStepList v one → IsStepList w other
    → IsBothSteps one other steps → IsStepList u steps
both_kept v w u one other steps e a b i =
    subst (λ z. IsStepList z steps) (sym e)
    (record { apart = i.apart; weighed = both_weighed v w one other steps a.weighed b.weighed i })

-- ---- steps of one part

AreLoneSteps-push : (xs : List Item) (ss : List Step) (x : Item) (s : Step) → AreLoneSteps xs ss → IsLoneStep x s
    → AreLoneSteps (xs ++ x ∷ []) (ss ++ s ∷ [])
AreLoneSteps-push [] [] x s a i = (i, tt)
AreLoneSteps-push [] (r ∷ ss) x s a i = absurd a
AreLoneSteps-push (y ∷ xs) [] x s a i = absurd a
AreLoneSteps-push (y ∷ xs) (r ∷ ss) x s a i = (a.0, AreLoneSteps-push xs ss x s a.1 i)

pub lone_more : (items : List Item) (i : ℕ) (x : Item) (ss new : List Step) (s : Step) → i < length items
    → x ≡ get_or items i x → new ≡ ss ++ s ∷ [] → IsLoneStep x s → AreLoneSteps (take i items) ss
    → AreLoneSteps (take (i + 1) items) new
lone_more items i x ss new s small e f l a =
    subst (λ v. AreLoneSteps v new)
    (sym (take_more items i x small ∙ ap (λ (z : Item). take i items ++ z ∷ []) (sym e)))
    (subst (AreLoneSteps (take i items ++ x ∷ [])) (sym f) (AreLoneSteps-push (take i items) ss x s a l))

-- each step belongs to one item
item_of : (xs : List Item) (ss : List Step) (s : Step) → AreLoneSteps xs ss → Contains ss s
    → (x : Item) × Contains xs x × IsLoneStep x s
item_of [] [] s a h = absurd (Contains-none s h)
item_of [] (r ∷ ss) s a h = absurd a
item_of (x ∷ xs) [] s a h = absurd a
item_of (x ∷ xs) (r ∷ ss) s a h =
    elim (Contains-cons_cases r ss s h) [
      | inl e ↦ (x, Contains-head x xs, subst (IsLoneStep x) e a.0)
      | inr k ↦ (let m = item_of xs ss s a.1 k in (m.0, Contains-cons x xs m.0 m.1, m.2))
    ]

lone_apart : (xs : List Item) (ss : List Step) → IsChain xs → AreLoneSteps xs ss → AreStepsApart ss
lone_apart [] [] r a = apart_none
lone_apart [] (s ∷ ss) r a = absurd a
lone_apart (x ∷ xs) [] r a = absurd a
lone_apart (x ∷ xs) (s ∷ ss) r a =
    apart_cons s ss
    (λ u h.
    let m = item_of xs ss u a.1 h in
    let after : x.period.to ≤ℤ m.0.period.from = chain_head x xs r m.0 m.1 in
    let e : s.period.to ≡ x.period.to = ap (λ (p : Period). p.to) a.0.period in
    let f : u.period.from ≡ m.0.period.from = ap (λ (p : Period). p.from) m.2.period in
    omega (arith, ints))
    (lone_apart xs ss (IsChain-tail x xs r) a.1)

some_item : (xs : List Item) (x : Item) → Contains xs x → 1 ≤ length xs
some_item [] x h = absurd (Contains-none x h)
some_item (y ∷ xs) x h = omega arith

lone_each : (w : ℕ) (xs : List Item) (ss : List Step) → length xs ≤ w → AreLoneSteps xs ss → AreWeighed w ss
lone_each w xs ss small a s h =
    let m = item_of xs ss s a h in
    IsWeighed-more 1 w s.tally (omega (arith, some_item xs m.0 m.1)) m.2.weighed

pub lone_kept : (w : ℕ) (xs : List Item) (ss : List Step) → w ≡ length xs → IsChain xs → AreLoneSteps xs ss
    → IsStepList w ss
lone_kept w xs ss e r a = record { apart = lone_apart xs ss r a; weighed = lone_each w xs ss (omega arith) a }

-- ---- and their tallies

none_held : (xs : List Item) (t : ℤ) → ((x : Item) → Contains xs x → t <ℤ x.period.from) → holding xs t ≡ []
none_held [] t h = refl
none_held (x ∷ xs) t h =
    ap (λ b. cond b (x ∷ holding xs t) (holding xs t)) (holds_early x.period t (h x (Contains-head x xs)))
    ∙ none_held xs t (λ y k. h y (Contains-cons x xs y k))

-- an item that doesn't hold `t` changes nothing
module _ (x : Item) (xs : List Item) (s : Step) (ss : List Step) (t : ℤ) where
  same_held : (o : Option Tally) → holding (x ∷ xs) t ≡ holding xs t → IsTallyAt xs t o → IsTallyAt (x ∷ xs) t o
  same_held None e i = e ∙ i
  same_held (Some b) e i = subst (λ z. IsTally z b) (sym e) i

  skipped : holds_at t x.period ≡ false → IsTallyAt xs t (tally_at ss t)
      → IsTallyAt (x ∷ xs) t (cond (holds_at t x.period) (Some s.tally) (tally_at ss t))
  skipped e rest =
      subst (IsTallyAt (x ∷ xs) t) (sym (ap (λ b. cond b (Some s.tally) (tally_at ss t)) e))
      (same_held (tally_at ss t) (ap (λ b. cond b (x ∷ holding xs t) (holding xs t)) e) rest)

  -- and an item of a part that does is the only one
  only_one : IsChain (x ∷ xs) → IsTally (x ∷ []) s.tally → x.period.from ≤ℤ t → t <ℤ x.period.to
      → IsTallyAt (x ∷ xs) t (cond (holds_at t x.period) (Some s.tally) (tally_at ss t))
  only_one r tally on in_time =
      let e : holds_at t x.period ≡ true = holds_yes x.period t on in_time in
      let others : holding xs t ≡ [] =
      none_held xs t
      (λ y k. let after : x.period.to ≤ℤ y.period.from = chain_head x xs r y k in omega (arith, ints)) in
      let now : holding (x ∷ xs) t ≡ x ∷ [] =
      ap (λ b. cond b (x ∷ holding xs t) (holding xs t)) e ∙ ap (λ z. x ∷ z) others in
      subst (IsTallyAt (x ∷ xs) t) (sym (ap (λ b. cond b (Some s.tally) (tally_at ss t)) e))
      (subst (λ z. IsTally z s.tally) (sym now) tally)

lone_tally_at : (xs : List Item) (ss : List Step) (t : ℤ) → IsChain xs → AreLoneSteps xs ss
    → IsTallyAt xs t (tally_at ss t)
lone_tally_at [] [] t r a = refl
lone_tally_at [] (s ∷ ss) t r a = absurd a
lone_tally_at (x ∷ xs) [] t r a = absurd a
lone_tally_at (x ∷ xs) (s ∷ ss) t r a =
    let tallies : tally_at (s ∷ ss) t ≡ cond (holds_at t x.period) (Some s.tally) (tally_at ss t) =
    ap (λ (q : Period). cond (holds_at t q) (Some s.tally) (tally_at ss t)) a.0.period in
    subst (IsTallyAt (x ∷ xs) t) (sym tallies)
    (elim (by_order x.period.to t) [
      | inl late ↦
          skipped x xs s ss t (holds_late x.period t late) (lone_tally_at xs ss t (IsChain-tail x xs r) a.1)
      | inr in_time ↦ elim (by_order x.period.from t) [
        | inr early ↦
            skipped x xs s ss t (holds_early x.period t early) (lone_tally_at xs ss t (IsChain-tail x xs r) a.1)
        | inl on ↦ only_one x xs s ss t r a.0.tally on in_time
      ]
    ])

pub lone_stand_for : (xs : List Item) (list : StepList) → list.weight ≡ length xs → IsChain xs
    → AreLoneSteps xs list.steps → IsStepListOf xs list
lone_stand_for xs list e r a = record { tallies = λ t. lone_tally_at xs list.steps t r a; weight = e }
