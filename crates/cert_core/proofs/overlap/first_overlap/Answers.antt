use Rattle.std.proofs.Common.{◌≡◌, ◌+◌, ◌≤◌, length, take, map, get_or, subst, sym, ap, arith, ◌∙◌}
use Rattle.std.specs.Prelude.{All}
use Rattle.std.proofs.lemmas.List.{take_all, length-map}
use Rattle.std.proofs.lemmas.List.Elements.{All-more}
use Rattle.std.proofs.lemmas.Option.{get_or_from_slice_get}
use Rattle.cert_core.specs.Claim.{ids_of}
use Rattle.cert_core.specs.Places.{id_at}
use Rattle.cert_core.specs.Verdict.{HasNoOverlap}
use Rattle.cert_core.proofs.ClaimLemmas.{ids_of-part_end, ids_of-take}
use Rattle.cert_core.proofs.PlacesLemmas.{ArePlaces-part, IsDistinct-part}
use Rattle.cert_core.proofs.overlap.first_overlap.Goals as goal
use Rattle.cert_core.proofs.overlap.first_overlap.Goals.{After-part}

-- the part's indices end within all of them
ends : (c : After-part) → c.loop-number.start + length c.part.result.now ≤ length c.args.places.now
ends c =
    let size : length (map (id_at c.args.items.now) c.args.places.now) ≡ length c.args.places.now =
    length-map c.args.places.now (id_at c.args.items.now) in
    let all : length (map (id_at c.args.items.now) c.args.places.now) ≡ length (ids_of c.args.claim.now) =
    ap length c.requires.places.named in
    let within : length (ids_of (take c.loop-number.number c.args.claim.now)) + length c.part.result.now ≤ length
    (ids_of c.args.claim.now) =
    ids_of-part_end c.args.claim.now c.loop-number.number c.part.result.now c.part.ensures in
    let start : c.loop-number.start ≡ length (ids_of (take c.loop-number.number c.args.claim.now)) =
    c.loop-number.invariant.start in
    omega (arith, size, all, within, start)

pub overflow_add-end : goal.overflow_add-end
overflow_add-end c = let h = ends c in omega (arith, h)

pub offset_bounds-places-start : goal.offset_bounds-places-start
offset_bounds-places-start c = let h = ends c in omega (arith, h)

pub slice_bounds-overlap_of-end : goal.slice_bounds-overlap_of-end
slice_bounds-overlap_of-end c = ends c

pub returns-in-Some : goal.returns-in-Some
returns-in-Some c =
    let found = rw c.in-Some.is at c.in_ok-pair.ensures in
    record {
      number = c.loop-number.number;
      part = c.part.result.now;
      is_part = c.part.ensures;
      earlier = c.loop-number.invariant.apart;
      overlap = found c.part.result.now
          (ArePlaces-part c.args.items.now c.args.claim.now c.args.places.now c.loop-number.number c.part.result.now
          c.loop-number.start c.requires.places c.part.ensures c.loop-number.invariant.start)
          (IsDistinct-part c.args.claim.now c.loop-number.number c.part.result.now c.requires.distinct c.part.ensures);
    }

pub loop-number-preserved : goal.loop-number-preserved
loop-number-preserved c =
    let found = rw c.in_default.is at c.in_ok-pair.ensures in
    let none : HasNoOverlap c.args.items.now c.part.result.now = found c.part.result.now
    (ArePlaces-part c.args.items.now c.args.claim.now c.args.places.now c.loop-number.number c.part.result.now
    c.loop-number.start c.requires.places c.part.ensures c.loop-number.invariant.start)
    (IsDistinct-part c.args.claim.now c.loop-number.number c.part.result.now c.requires.distinct c.part.ensures) in
    let here : get_or c.args.claim.now c.loop-number.number c.part.result.now ≡ c.part.result.now =
    get_or_from_slice_get c.args.claim.now c.loop-number.number c.part.result.now c.part.result.now c.part.ensures in
    record {
      start = ap (λ n. n + length c.part.result.now) c.loop-number.invariant.start
          ∙ sym (ids_of-take c.args.claim.now c.loop-number.number c.part.result.now c.part.ensures);
      apart = All-more (HasNoOverlap c.args.items.now) c.args.claim.now c.loop-number.number c.part.result.now
          (omega (arith, c.len-number-end.ensures)) c.loop-number.invariant.apart
          (subst (HasNoOverlap c.args.items.now) (sym here) none);
    }

pub returns : goal.returns
returns c =
    subst (All (HasNoOverlap c.args.items.now))
    (take_all c.loop-number.number c.args.claim.now
    (omega (arith, c.len-number-end.ensures))) c.loop-number.invariant.apart
