use Rattle.std.proofs.Common.{◌≡◌, ◌∙◌, ◌++◌, ◌<◌, List, ℕ, ap, arith, get_or, length, map, subst, sym, take, drop}
use Rattle.std.specs.Prelude.{All, IsPermutation}
use Rattle.std.proofs.lemmas.List.{get_or_default}
use Rattle.std.proofs.lemmas.List.Sorted.{All-permutation, IsPermutation-map, IsPermutation-trans}
use Rattle.match_core.specs.declared.cells.Cell.{Cell}
use Rattle.match_core.specs.declared.row_items.ClassedPlace.{ClassedPlace}
use Rattle.match_core.specs.ClassedPlaces.{numbered_by, placed_from}
use Rattle.match_core.proofs.PlacedLemmas.{placed_from-below, placed_from-numbered}
use Rattle.match_core.specs.Cells.{AreMatched, AreNumbered, Refines}
use Rattle.match_core.proofs.RefinedClasses.{AreSides, refined}
use Rattle.match_core.proofs.VecLemmas.{written_back}
use Rattle.match_core.proofs.split.refine.Goals as goal
use Rattle.match_core.proofs.split.refine.Goals.{After-drop-lefts-2}
use Rattle.match_core.proofs.split.refine.Given.{Over}

pub number_rows-requires : goal.number_rows-requires
number_rows-requires g c k d lt =
    let right = c.in_ok-lefts.ensures.right.ranked in
    let ranks = c.in_ok-lefts.rights.ranks.items in
    let matched = c.in_ok-numbers.ensures.count in
    let count = right.count in
    let at = ap (λ (l : List ℕ). get_or l k d) c.deref_mut.ensures.value in
    let len = ap length c.deref_mut.ensures.value in
    let firsts = ap length c.deref-2.ensures.value in
    let numbers = ap length c.deref-3.ensures.value in
    let inside : k < length ranks = omega (arith, lt, len) in
    let rank = (right.each k (omega (arith, inside, count))).within in
    let same = get_or_default ranks k d 0 inside in
    omega (arith, at, same, rank, matched, firsts, numbers)

-- the right ranks after they were written
kept : (g : Over) (c : After-drop-lefts-2 g)
    → take c.in_ok-lefts.rights.ranks.len
    (c.number_rows.new.ranks ++ drop (length c.number_rows.new.ranks) c.in_ok-lefts.rights.ranks.items)
    ≡ c.number_rows.new.ranks
kept g c =
    let old = c.in_ok-lefts.rights.ranks.items in
    written_back old c.number_rows.new.ranks c.in_ok-lefts.rights.ranks.len
    (c.number_rows.auto.ranks ∙ ap length c.deref_mut.ensures.value) (sym c.in_ok-lefts.rights.ranks.ok.0)

-- the right indices after they were written
kept_places : (g : Over) (c : After-drop-lefts-2 g)
    → take c.in_ok-lefts.rights.places.len
    (c.number_places.new.places ++ drop (length c.number_places.new.places) c.in_ok-lefts.rights.places.items)
    ≡ c.number_places.new.places
kept_places g c =
    let old = c.in_ok-lefts.rights.places.items in
    written_back old c.number_places.new.places c.in_ok-lefts.rights.places.len
    (c.number_places.auto.places ∙ ap length c.deref_mut-2.ensures.value) (sym c.in_ok-lefts.rights.places.ok.0)

pub returns-clause-left : goal.returns-clause-left
returns-clause-left g c = c.in_ok-lefts.ensures.left.ranked.count

pub returns-clause-right : goal.returns-clause-right
returns-clause-right g c =
    ap length (kept g c) ∙ c.number_rows.auto.ranks ∙ ap length c.deref_mut.ensures.value
    ∙ c.in_ok-lefts.ensures.right.ranked.count

pub returns-clause-split : goal.returns-clause-split
returns-clause-split g c =
    let order = g.met.V.Ord g.world.𝓛 g.world.𝓜 g.world.𝓡 ((λ s x. x), (λ x. x), (λ x. x), λ x. x) in
    let laws = g.met.S.Comparable g.world.𝓛 g.world.𝓜 g.world.𝓡 ((λ s x. x), (λ x. x), (λ x. x), λ x. x) in
    let sides = g.met.S.Classed g.world.𝓛 g.world.𝓜 g.world.𝓡 ((λ s x. x), (λ x. x), (λ x. x), λ x. x) in
    let IsOf = g.S.Comparable.IsOf in
    let cmp = g.V.Ord.cmp in
    let xs = g.S.Classed.column c.args.left in
    let ys = g.S.Classed.column c.args.right in
    let one = g.S.Classed.classes c.args.left in
    let other = g.S.Classed.classes c.args.right in
    let ranks = c.in_ok-lefts.lefts.ranks.items in
    let right_ranks = c.in_ok-lefts.rights.ranks.items in
    let new = c.number_rows.new.ranks in
    let firsts = c.in_ok-lefts.lefts.firsts.items in
    let others = c.in_ok-lefts.rights.firsts.items in
    let numbers = c.in_ok-numbers.numbers.items in
    let sides : AreSides cmp IsOf one other xs ys ranks right_ranks numbers new firsts others = record {
      one_count = sides.counted c.args.left;
      other_count = sides.counted c.args.right;
      left = c.in_ok-lefts.ensures.left.ranked;
      right = c.in_ok-lefts.ensures.right.ranked;
      matched = subst (λ (l : List (Cell g.row.V.Denot)). AreMatched cmp l others numbers) c.deref.ensures.value
          (subst (λ (l : List (Cell g.row.V.Denot)). AreMatched cmp c.deref.result.now l numbers)
          c.deref-2.ensures.value c.in_ok-numbers.ensures);
      numbered = subst (λ (l : List ℕ). AreNumbered l numbers c.number_rows.new.ranks) c.deref_mut.ensures.value
          (subst (λ (l : List ℕ). AreNumbered c.deref_mut.result.now l c.number_rows.new.ranks) c.deref-3.ensures.value
          c.number_rows.ensures);
    } in
    subst (λ (l : List ℕ). Refines (one ++ other) (xs ++ ys) (ranks ++ l)) (sym (kept g c))
    (refined g.S.Comparable.kind IsOf cmp order.total laws.compares one other xs ys ranks right_ranks numbers new
    firsts others sides c.requires.kind)

pub number_places-requires : goal.number_places-requires
number_places-requires g c =
    let right = c.in_ok-lefts.ensures.right.ranked in
    let ranks = c.in_ok-lefts.rights.ranks.items in
    let places = c.in_ok-lefts.rights.places.items in
    let matched = c.in_ok-numbers.ensures.count in
    let count = right.count in
    let firsts = ap length c.deref-2.ensures.value in
    let numbers = ap length c.deref-4.ensures.value in
    let below : All (λ n. n < length c.deref-4.result.now) ranks =
    λ k d lt. (let rank = (right.each k (omega (arith, lt, count))).within in
    let same = get_or_default ranks k d 0 lt in
    omega (arith, same, rank, matched, firsts, numbers)) in
    let P = λ (at : ClassedPlace). at.class < length c.deref-4.result.now in
    subst (λ (l : List ClassedPlace). All P l) (sym c.deref_mut-2.ensures.value)
    (All-permutation P (placed_from 0 ranks) places c.in_ok-lefts.ensures.right.placed
    (placed_from-below 0 ranks (length c.deref-4.result.now) below))

pub returns-clause-left_places : goal.returns-clause-left_places
returns-clause-left_places g c = record {
  same = IsPermutation-trans (placed_from 0 c.in_ok-lefts.lefts.ranks.items) c.in_ok-lefts.lefts.places.items
      c.by_class.result.items c.in_ok-lefts.ensures.left.placed c.by_class.ensures.same;
  rise = c.by_class.ensures.rise;
}

pub returns-clause-right_places : goal.returns-clause-right_places
returns-clause-right_places g c =
    let ranks = c.in_ok-lefts.rights.ranks.items in
    let new = c.number_rows.new.ranks in
    let places = c.in_ok-lefts.rights.places.items in
    let made = c.number_places.new.places in
    let numbers = c.deref-3.result.now in
    let number = numbered_by numbers in
    let lent = c.deref_mut.ensures.value in
    let count : length new ≡ length ranks = c.number_rows.auto.ranks ∙ ap length lent in
    let known : AreNumbered ranks numbers new =
    subst (λ (l : List ℕ). AreNumbered l numbers new) lent c.number_rows.ensures in
    let all : map number (placed_from 0 ranks) ≡ placed_from 0 new = placed_from-numbered numbers 0 ranks new count known in
    let same : made ≡ map number places =
    c.number_places.ensures
    ∙ ap (λ (l : List ClassedPlace). map (numbered_by c.deref-4.result.now) l) c.deref_mut-2.ensures.value
    ∙ ap (λ (l : List ℕ). map (numbered_by l) places) (c.deref-4.ensures.value ∙ sym c.deref-3.ensures.value) in
    let moved : IsPermutation (placed_from 0 new) made =
    subst (λ (l : List ClassedPlace). IsPermutation l made) all
    (subst (IsPermutation (map number (placed_from 0 ranks))) (sym same)
    (IsPermutation-map number (placed_from 0 ranks) places c.in_ok-lefts.ensures.right.placed)) in
    record {
      same = subst (λ (l : List ℕ). IsPermutation (placed_from 0 l) c.by_class-2.result.items) (sym (kept g c))
          (IsPermutation-trans (placed_from 0 new) made c.by_class-2.result.items moved
          (subst (λ (l : List ClassedPlace). IsPermutation l c.by_class-2.result.items) (kept_places g c)
          c.by_class-2.ensures.same));
      rise = c.by_class-2.ensures.rise;
    }
