use Rattle.std.proofs.Common.{◌≡◌, ◌≤◌, ◌∙◌, ℤ, List, length, map, subst, ap, arith}
use Rattle.std.proofs.lemmas.List.{length-map}
use Rattle.std.proofs.lemmas.List.Sorted.{length_permutation}
use Rattle.dip_core.specs.declared.item.Item.{Item}
use Rattle.dip_core.specs.Item.{item_limit}
use Rattle.join_core.specs.Crowds.{AreOrdered, IsMostAtOnce}
use Rattle.join_core.proofs.CrowdSweep.{IsLeast-most}
use Rattle.join_core.proofs.crowds.least_parts.Goals as goal

-- the sorted points have the same length as the items
ordered-len : (items : List Item) (of : Item → ℤ) (points sorted : List ℤ)
    → points ≡ map of items → AreOrdered points sorted → length sorted ≡ length items
ordered-len items of points sorted are ordered =
    let a = length_permutation points sorted ordered.same in
    let b = ap length are ∙ length-map items of in
    omega (arith, a, b)

pub most_at_once-requires-clause-len : goal.most_at_once-requires-clause-len
most_at_once-requires-clause-len g c =
    let items = c.args.items.now in
    let a = ordered-len items (λ (x : Item). x.period.from) c.in_ok-starts_of.field-0.items c.in_order-starts.result.items
    c.in_ok-starts_of.ensures c.in_order-starts.ensures in
    let b = ordered-len items (λ (x : Item). x.period.to) c.in_ok-ends_of.field-0.items c.in_order-ends.result.items
    c.in_ok-ends_of.ensures c.in_order-ends.ensures in
    rw (c.deref.ensures.value, c.deref-2.ensures.value) (omega (arith, a, b))

pub returns-clause-least : goal.returns-clause-least
returns-clause-least g c =
    let starts = c.in_order-starts.result.items in
    let ends = c.in_order-ends.result.items in
    IsLeast-most c.args.items.now starts ends c.most_at_once.result c.requires.ids
    (subst (λ (xs : List ℤ). AreOrdered xs starts) c.in_ok-starts_of.ensures c.in_order-starts.ensures)
    (subst (λ (xs : List ℤ). AreOrdered xs ends) c.in_ok-ends_of.ensures c.in_order-ends.ensures)
    (subst (λ (xs : List ℤ). IsMostAtOnce xs ends c.most_at_once.result) c.deref.ensures.value
    (subst (λ (ys : List ℤ). IsMostAtOnce c.deref.result.now ys c.most_at_once.result) c.deref-2.ensures.value
    c.most_at_once.ensures.most))

pub returns-clause-few : goal.returns-clause-few
returns-clause-few g c =
    let few : length c.args.items.now ≤ item_limit = c.requires.few in
    let most = c.most_at_once.ensures.few in
    let same = ap length c.deref.ensures.value in
    let a = ordered-len c.args.items.now (λ (x : Item). x.period.from) c.in_ok-starts_of.field-0.items
    c.in_order-starts.result.items c.in_ok-starts_of.ensures c.in_order-starts.ensures in
    omega (arith, few, most, same, a)
