use Rattle.std.proofs.Common.{arith, ◌≡◌, ◌+◌, ◌*◌, ◌^◌, ◌<◌, ◌∙◌, length, ap, subst}
use Rattle.std.specs.List.{SwappedAt}
use Rattle.std.specs.Prelude.{IsPermutation}
use Rattle.std.proofs.lemmas.List.Sorted.{IsPermutation-trans}
use Rattle.dip_core.specs.Heap.{ComesFirstAt}
use Rattle.dip_core.proofs.DigitsLemmas.{exponent-less, power-more}
use Rattle.dip_core.proofs.HeapLemmas.{down-goes}
use Rattle.dip_core.proofs.placement.sift_down.Goals as goal

pub returns-then-comes_first-clause-few : goal.returns-then-comes_first-clause-few
returns-then-comes_first-clause-few c = λ digits short.
    let (level, power, few) = c.loop-place.invariant.levels in
    let next : 2 ^ (level + 1) ≡ 2 * 2 ^ level = power-more level in
    let deep : level + 1 < digits = exponent-less (level + 1) digits (omega arith) in
    omega arith

pub loop-place-preserved : goal.loop-place-preserved
loop-place-preserved c =
    let xs = c.loop-place.ends.ends in
    let ys = c.swap.new.self.ends in
    let place = c.loop-place.place in
    let below = c.first_below-below.result in
    let found = c.first_below-below.ensures in
    let was = c.loop-place.invariant in
    let looked : c.comes_first.new.self.ends ≡ xs = c.comes_first.ensures.ends ∙ found.same in
    let swapped : SwappedAt xs ys place below =
    subst (λ zs. SwappedAt zs ys place below) looked c.swap.ensures.by_index in
    let moved : IsPermutation xs ys = subst (λ zs. IsPermutation zs ys) looked c.swap.ensures.same in
    let before : ComesFirstAt xs below place =
    subst (λ zs. ComesFirstAt zs below place) found.same c.if-comes_first.ensures.first in
    let long : length ys ≡ length xs = c.swap.ensures.long ∙ ap length looked in
    let (level, power, few) = was.levels in
    let next : 2 ^ (level + 1) ≡ 2 * 2 ^ level = power-more level in
    record {
      long = long ∙ was.long;
      honest = omega (arith, was.honest, c.comes_first.ensures.all_looks, c.comes_first.ensures.counted, c.swap.ensures.all_looks, c.swap.ensures.looks, found.honest);
      within = omega arith;
      heap =
          down-goes xs ys place below swapped long found.from found.to found.within before found.first was.heap;
      same = IsPermutation-trans c.args.ends.now.ends xs ys was.same moved;
      more = omega arith;
      room = omega arith;
      levels = (level + 1, omega arith, omega arith);
    }

pub returns-clause-few : goal.returns-clause-few
returns-clause-few c = λ digits short.
    let (level, power, few) = c.loop-place.invariant.levels in
    let deep : level < digits = exponent-less level digits (omega arith) in
    omega arith
