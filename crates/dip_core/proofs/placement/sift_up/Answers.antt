use Rattle.std.proofs.Common.{arith, ◌≡◌, ◌∙◌, ◌-◌, ◌/◌, ◌<◌, length, ap, subst}
use Rattle.std.specs.List.{SwappedAt}
use Rattle.std.specs.Prelude.{IsPermutation}
use Rattle.std.proofs.lemmas.List.Sorted.{IsPermutation-trans}
use Rattle.dip_core.specs.Heap.{ComesFirstAt}
use Rattle.dip_core.proofs.DigitsLemmas.{half-power}
use Rattle.dip_core.proofs.HeapLemmas.{up-goes}
use Rattle.dip_core.proofs.placement.sift_up.Goals as goal

pub returns-then-comes_first-clause-few : goal.returns-then-comes_first-clause-few
returns-then-comes_first-clause-few c = λ digits short.
    let more : 0 < c.loop-place.place = omega arith in
    let (levels, power, few) = c.loop-place.invariant.levels digits (omega arith) in
    let (less, is, half) = half-power c.loop-place.place levels more power in
    omega arith

pub loop-place-preserved : goal.loop-place-preserved
loop-place-preserved c =
    let xs = c.loop-place.ends.ends in
    let ys = c.swap.new.self.ends in
    let place = c.loop-place.place in
    let above = (place - 1) / 2 in
    let was = c.loop-place.invariant in
    let more : 0 < place = omega arith in
    let looked : c.comes_first.new.self.ends ≡ xs = c.comes_first.ensures.ends in
    let swapped : SwappedAt xs ys above place =
    subst (λ zs. SwappedAt zs ys above place) looked c.swap.ensures.by_index in
    let moved : IsPermutation xs ys = subst (λ zs. IsPermutation zs ys) looked c.swap.ensures.same in
    let before : ComesFirstAt xs place above = c.if-comes_first.ensures.first in
    let long : length ys ≡ length xs = c.swap.ensures.long ∙ ap length looked in
    record {
      long = long ∙ was.long;
      honest = omega (arith, was.honest, c.comes_first.ensures.all_looks, c.comes_first.ensures.counted, c.swap.ensures.all_looks, c.swap.ensures.looks);
      within = omega arith;
      heap = up-goes xs ys above place swapped long (omega arith) (omega arith) was.within before was.heap;
      same = IsPermutation-trans c.args.ends.now.ends xs ys was.same moved;
      more = omega arith;
      room = omega arith;
      levels = λ digits short.
          let (levels, power, few) = was.levels digits (omega arith) in
          let (less, is, half) = half-power place levels more power in
          (less, half, omega arith);
    }

pub returns-clause-few : goal.returns-clause-few
returns-clause-few c = λ digits short.
    let (levels, power, few) = c.loop-place.invariant.levels digits (omega arith) in
    omega arith
