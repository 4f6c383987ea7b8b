use Rattle.std.proofs.Common.{◌∙◌, ◌<◌, ap, arith, length, map, rules, slice_index_or, sym}
use Rattle.std.proofs.lemmas.List.{get_or-set_other, length-set, take_all}
use Rattle.match_core.specs.declared.row_items.ClassedPlace.{ClassedPlace}
use Rattle.match_core.specs.ClassedPlaces.{numbered_by}
use Rattle.match_core.proofs.PlacedLemmas.{numbered-more}
use Rattle.match_core.proofs.numbering.number_places.Goals as goal

pub offset_bounds-numbers-at : goal.offset_bounds-numbers-at
offset_bounds-numbers-at c =
    let d : ClassedPlace = record { class = 0; place = 0 } in
    let same = ap (λ (at : ClassedPlace). at.class) (c.loop-i.invariant.left c.loop-i.i d (omega arith)) in
    let below = c.requires c.loop-i.i d c.loop-i-test.true in
    let inside : (slice_index_or c.loop-i.places c.loop-i.i d).class < length c.args.numbers.now =
    omega (arith, same, below) in
    search rules

pub bounds-numbers-at : goal.bounds-numbers-at
bounds-numbers-at c =
    let d : ClassedPlace = record { class = 0; place = 0 } in
    let same = ap (λ (at : ClassedPlace). at.class) (c.loop-i.invariant.left c.loop-i.i d (omega arith)) in
    let below = c.requires c.loop-i.i d c.loop-i-test.true in
    omega (arith, same, below)

pub loop-i-preserved : goal.loop-i-preserved
loop-i-preserved c =
    let d : ClassedPlace = record { class = 0; place = 0 } in
    let numbers = c.args.numbers.now in
    let places = c.loop-i.places in
    let i = c.loop-i.i in
    let next = numbered_by numbers (slice_index_or places i d) in
    record {
      long = length-set places i next ∙ c.loop-i.invariant.long;
      done = numbered-more numbers c.args.places.now places i d c.loop-i.invariant.long c.loop-i-test.true
          (c.loop-i.invariant.left i d (omega arith)) c.loop-i.invariant.done;
      left = λ k e from.
          get_or-set_other places i k next e (λ same. omega (arith, from, same))
          ∙ c.loop-i.invariant.left k e (omega (arith, from));
    }

pub returns : goal.returns
returns c =
    let i = c.loop-i.i in
    let old = c.args.places.now in
    sym (take_all i c.loop-i.places (omega (arith, c.loop-i-test.false, c.loop-i.invariant.long)))
    ∙ c.loop-i.invariant.done
    ∙ ap (map (numbered_by c.args.numbers.now)) (take_all i old (omega (arith, c.loop-i-test.false)))
