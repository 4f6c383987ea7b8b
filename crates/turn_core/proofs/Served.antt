-- How one call of the closure changes the seat.
use Rattle.std.proofs.Common.{◌≡◌, ℕ, ◌⊎◌, inl, inr, List, [], ◌∷◌, ◌++◌, sym, ap, ◌∙◌, subst}
use denote.Ref.{MutBor}
use Rattle.std.specs.Fn.{Once, FnOnceReturnsAtMut}
use Rattle.turn_core.specs.declared.view.View.{View}
use Rattle.turn_core.specs.declared.view.Stage.TheVariants.{Resting, Waiting, Serving}
use Rattle.turn_core.specs.Entries.{own, AreOfCallers, AddsAtMostOne}
use Rattle.turn_core.specs.Steps.{Lent}
use Rattle.turn_core.specs.Calls.{KeepsEntries, Ran}
use Rattle.turn_core.proofs.EntryLemmas.{own-push}

module _ {S E F R : Type 0} (entries : S → List E) (by : E → ℕ) (mark_of : S → ℕ)
    (g : Once F (MutBor S × Unit {0}) (R × (MutBor S × Unit {0}))) (f : F) where
  module _ (v v' : View E) (left n : ℕ) (drew : v' ≡ record v { left = left; stage = Waiting n }) where
    pub lent-before : (y : S) → Lent entries by mark_of v' y → Lent entries by mark_of v y
    lent-before y l = let m = subst (λ (u : View E). Lent entries by mark_of u y) drew l in
        record { begins = m.begins; own = m.own; numbered = m.numbered; mark = m.mark }

    module _ (w : View E) (x y : S) (r : R)
        (took : w ≡ record v' { seen = entries x; stage = Serving n }) (l : Lent entries by mark_of v' x)
        (keeps : KeepsEntries entries by mark_of g f v)
        (ran : FnOnceReturnsAtMut g f x r y) where
      same : (number : w.number ≡ v.number) × (w.mark ≡ v.mark) × (w.mine ≡ v.mine)
      same = (
        ap (λ u. u.number) took ∙ ap (λ u. u.number) drew,
        ap (λ u. u.mark) took ∙ ap (λ u. u.mark) drew,
        ap (λ u. u.mine) took ∙ ap (λ u. u.mine) drew,
      )

      added : (mark_of y ≡ mark_of x) × AddsAtMostOne by v.number (entries x) (entries y)
      added = (keeps x (lent-before x l)).1 r y ran

      pub keeps-on : (mark_of y ≡ w.mark) × AddsAtMostOne by w.number w.seen (entries y)
      keeps-on = (
        added.0 ∙ ((lent-before x l).mark ∙ sym same.1),
        subst (λ (z : ℕ × List E). AddsAtMostOne by z.0 z.1 (entries y)) (λ i. (
          sym same.0 i,
          sym (ap (λ u. u.seen) took) i,
        )) added.1,
      )

      mine-after : (u : View E) → u.seen ≡ entries y → u.mine ≡ own by v.number (entries y)
          → AddsAtMostOne by v.number (entries x) (entries y)
          → ((u.seen ≡ entries x) × (u.mine ≡ v.mine)) ⊎ ((e : E) × (by e ≡ v.number)
          × (u.seen ≡ entries x ++ e ∷ []) × (u.mine ≡ v.mine ++ e ∷ []))
      mine-after u seen mine (inl is) = inl (seen ∙ is, mine ∙ (ap (own by v.number) is ∙ (lent-before x l).own))
      mine-after u seen mine (inr (e, of, is)) = inr (
        e,
        of,
        seen ∙ is,
        mine ∙ (ap (own by v.number) is
            ∙ (own-push by v.number (entries x) e of ∙ ap (λ m. m ++ e ∷ []) (lent-before x l).own)),
      )

      pub ran-on : (u : View E) → u ≡ record w {
        seen = entries y;
        mine = own by w.number (entries y);
        stage = Resting;
      } → AreOfCallers by w.mark (entries y) → Ran entries by mark_of g f v r u
      ran-on u passed numbered =
          let seen : u.seen ≡ entries y = ap (λ z. z.seen) passed in
          let mine : u.mine ≡ own by v.number (entries y) = ap (λ z. z.mine) passed
          ∙ ap (λ (k : ℕ). own by k (entries y)) same.0 in
          record {
            lent = x;
            left = y;
            fits = lent-before x l;
            ran = ran;
            seen = seen;
            own = ap (own by v.number) seen ∙ sym mine;
            mine = mine-after u seen mine added.1;
            numbered = subst (λ (z : ℕ × List E). AreOfCallers by z.0 z.1) (λ i. (same.1 i, sym seen i)) numbered;
          }
