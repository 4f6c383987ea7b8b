use Rattle.std.proofs.Common.{◌≡◌, ◌+◌, ◌-◌, ◌≤◌, get_or, subst, sym, ap, arith, inl, inr, refl, true, false}
use Rattle.std.proofs.lemmas.Bool.{cases_lt}
use Rattle.period_core.specs.Period.{Overlap}
use Rattle.dip_core.specs.declared.item.Item.{Item}
use Rattle.cert_core.proofs.PlacesLemmas.{before_is, after_is}
use Rattle.cert_core.proofs.overlap.first_pair.Goals as goal

pub returns-then-overlaps : goal.returns-then-overlaps
returns-then-overlaps c =
    let low : 1 ≤ c.loop-next.next = omega (arith, c.loop-next.auto.next) in
    let one = before_is c.args.items.now c.loop-next.next c.index-items-next.result low c.loop-next-test.true
    c.index-items-next.is in
    let other =
    after_is c.args.items.now c.loop-next.next c.index-items-next-in-loop-next.result low c.loop-next-test.true
    c.index-items-next-in-loop-next.is in
    let shared : Overlap c.index-items-next.result.period c.index-items-next-in-loop-next.result.period =
    c.if-overlaps.ensures.instants.0 refl in
    record {
      place = c.loop-next.next - 1;
      within = omega (arith, low);
      ids = λ d. (ap (λ (x : Item). x.id) (one d), ap (λ (x : Item). x.id) (other d));
      overlap = λ d.
          subst (λ (x : Item). Overlap x.period (get_or c.args.items.now (c.loop-next.next - 1 + 1) d).period)
          (sym (one d))
          (subst (λ (x : Item). Overlap c.index-items-next.result.period x.period) (sym (other d)) shared);
      first = λ k d h. c.loop-next.invariant k d (omega (arith, low, h));
    }

pub loop-next-preserved : goal.loop-next-preserved
loop-next-preserved c = λ k d h shared.
    let low : 1 ≤ c.loop-next.next = omega (arith, c.loop-next.auto.next) in
    let one = before_is c.args.items.now c.loop-next.next c.index-items-next.result low c.loop-next-test.true
    c.index-items-next.is in
    let other =
    after_is c.args.items.now c.loop-next.next c.index-items-next-in-loop-next.result low c.loop-next-test.true
    c.index-items-next-in-loop-next.is in
    elim (cases_lt (k + 1) c.loop-next.next) [
      | inl less ↦ c.loop-next.invariant k d less shared
      | inr more ↦
          let e : k ≡ c.loop-next.next - 1 = omega (arith, low, h, more) in
          let there : Overlap (get_or c.args.items.now (c.loop-next.next - 1) d).period
          (get_or c.args.items.now (c.loop-next.next - 1 + 1) d).period =
          subst (λ n. Overlap (get_or c.args.items.now n d).period
          (get_or c.args.items.now (n + 1) d).period) e shared in
          let yes : false ≡ true = c.if-overlaps.ensures.instants.1
          (subst (λ (x : Item). Overlap x.period c.index-items-next-in-loop-next.result.period) (one d)
          (subst (λ (x : Item). Overlap (get_or c.args.items.now (c.loop-next.next - 1) d).period x.period)
          (other d) there)) in
          cc (yes)
    ]

pub returns : goal.returns
returns c = λ k d h. c.loop-next.invariant k d (omega arith)
