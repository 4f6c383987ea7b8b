use Rattle.std.proofs.Common.{[], ◌≡◌, ℕ, ◌+◌, ◌-◌, ◌*◌, ◌<◌, ◌≤◌, List, length, min, take, drop, arith, sym, subst, ap, ◌∙◌}
use Rattle.std.proofs.Math.Arith.{digits_lt}
use Rattle.dip_core.specs.declared.item.Item.{Item}
use Rattle.dip_core.specs.Division.{all_of, part_at}
use Rattle.merge_core.specs.Gaps.{ListsGaps}
use Rattle.anti_core.specs.PairGaps.{AreGapsAgainst}
use Rattle.anti_core.proofs.SupplyLemmas.{AreGapsAgainst-from_pairs, more-met, supply-held}
use Rattle.std.proofs.lemmas.List.{take_all}
use Rattle.merge_core.specs.Meets.{IdsTell}
use Rattle.anti_core.proofs.part_gaps.gaps_of_part.Goals as goal

pub supply_at-requires-clause-supply : goal.supply_at-requires-clause-supply
supply_at-requires-clause-supply g c = λ κs outlives x e. c.loop-done.invariant.2 x (sym c.take.ensures.value ∙ e)

pub supply_at-requires-clause-inside : goal.supply_at-requires-clause-inside
supply_at-requires-clause-inside g c =
    let ps = c.args.pairs.now.left.now in
    let qs = c.args.pairs.now.right.now in
    let rights : c.parts-rights.result ≡ length qs = c.parts-rights.ensures.value in
    let first : c.args.number * c.parts-rights.result ≡ c.args.number * length qs =
    ap (λ n. c.args.number * n) rights in
    let within : c.args.number * length qs + c.loop-done.done < length ps * length qs =
    digits_lt {q = c.args.number} {m = length ps} {r = c.loop-done.done} {c = length qs} (omega arith)
    (omega (arith, rights)) in
    omega (arith, within, first)

pub loop-done-preserved : goal.loop-done-preserved
loop-done-preserved g c =
    let ps = c.args.pairs.now.left.now in
    let qs = c.args.pairs.now.right.now in
    let part : c.part-part.result.items.now ≡ part_at ps c.args.number = c.part-part.ensures in
    let done : ℕ = c.loop-done.done in
    let count : ℕ = c.min-count.result in
    let ready = c.in_ok-ready.ready in
    let there = c.in_ok-ready.ensures.there in
    let rights : c.parts-rights.result ≡ length qs = c.parts-rights.ensures.value in
    let number : c.args.number * c.parts-rights.result + done ≡ c.args.number * length qs + done =
    ap (λ n. c.args.number * n + done) rights in
    let from : ℕ = (c.args.number * c.parts-rights.result + done) - ready.first in
    let at : ready.first + from ≡ c.args.number * length qs + done = omega (arith, number, there.0) in
    let least : count ≡ min (c.len.result - from) (c.parts-rights.result - done) = c.min-count.ensures in
    let inside : done + count ≤ length qs = omega (arith, least, rights) in
    let against : AreGapsAgainst (part_at ps c.args.number) qs done ready.values from count =
    AreGapsAgainst-from_pairs ps qs c.args.number done ready.first from count ready.values
    c.in_ok-ready.ensures.values at inside in
    let more : ListsGaps (part_at ps c.args.number) (all_of (take count (drop done qs))) c.in_ok-more.more =
    subst (λ (p : List Item). ListsGaps p (all_of (take count (drop done qs))) c.in_ok-more.more) part
    (c.in_ok-more.ensures qs done inside
    (subst (λ (p : List Item). AreGapsAgainst p qs done ready.values from count) (sym part) against)) in (
      omega (arith, inside, rights),
      more-met (part_at ps c.args.number) qs done count c.loop-done.gaps c.in_ok-more.more c.in_ok-gaps-2.gaps
          c.loop-done.invariant.1 more
          (λ right others a b.
          c.in_ok-gaps-2.ensures.both (part_at ps c.args.number) right others c.requires.tell a b),
      λ x e. supply-held ps qs ready x e c.in_ok-ready.ensures.values,
    )

pub loop-done-init : goal.loop-done-init
loop-done-init g c = (
  omega arith,
  subst (λ (p : List Item). ListsGaps p [] c.in_ok-gaps.gaps) c.part-part.ensures c.in_ok-gaps.ensures,
  c.requires.supply,
)

pub meet_values-requires : goal.meet_values-requires
meet_values-requires g c =
    let there = c.in_ok-ready.ensures.there in
    let least = c.min-count.ensures in
    let len = c.len.ensures in
    let more = c.loop-done-test.true in
    record {
      some = omega (arith, there.0, there.1, least, len, more);
      inside = omega (arith, there.0, there.1, least, len, more);
      tell = subst (λ (p : List Item). IdsTell p) (sym c.part-part.ensures) c.requires.tell;
    }

pub returns-clause-gaps : goal.returns-clause-gaps
returns-clause-gaps g c =
    let qs = c.args.pairs.now.right.now in
    let all = c.loop-done-test.false in
    let rights : c.parts-rights.result ≡ length qs = c.parts-rights.ensures.value in
    subst
    (λ (l : List (List Item)). ListsGaps (part_at c.args.pairs.now.left.now c.args.number) (all_of l) c.loop-done.gaps)
    (take_all c.loop-done.done qs (omega (arith, all, rights))) c.loop-done.invariant.1

pub returns-clause-supply : goal.returns-clause-supply
returns-clause-supply g c = c.loop-done.invariant.2
