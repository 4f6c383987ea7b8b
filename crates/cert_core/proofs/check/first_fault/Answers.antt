use Rattle.std.proofs.Common.{◌≡◌, ◌<◌, length, get_or, subst, sym, ap, ◌∙◌, arith, drop}
use Rattle.std.proofs.lemmas.List.{take_at}
use Rattle.std.specs.Prelude.{All, Contains}
use Rattle.cert_core.specs.Claim.{ids_of}
use Rattle.cert_core.specs.Ids.{IsDistinct, IsTwice}
use Rattle.cert_core.specs.Places.{ArePlaces, AreMarks}
use Rattle.cert_core.specs.Verdict.{HasItem, HasNoOverlap, IsMissing, IsOverlap}
use Rattle.cert_core.proofs.IdsLemmas.{id_at-get_or}
use Rattle.cert_core.proofs.PlacesLemmas.{ArePlaces-same, IsTwice-within, IsTwice-at, IsDistinct-at, IsMissing-at, known-from_places, complete-at}
use Rattle.cert_core.proofs.VerdictLemmas.{twice-first, missing-first, overlap-first, not_crowded-first}
use Rattle.cert_core.proofs.check.first_fault.Goals as goal

pub returns-in-Some-first_twice : goal.returns-in-Some-first_twice
returns-in-Some-first_twice c =
    let counted : length c.args.claim.now ≡ c.args.certificate.now.parts =
    omega (arith, c.len-parts.ensures, c.if-parts-certificate.false) in
    let are : ArePlaces c.args.items.now (ids_of c.args.claim.now) c.deref.result.now =
    ArePlaces-same c.args.items.now c.ids.result.now
    (ids_of c.args.claim.now) c.find_places.new.places.items c.deref.result.now c.ids.ensures c.deref.ensures.value
    (rw c.in_default-2.is at c.in_ok-id.ensures) in
    let known : All (HasItem c.args.items.now) (ids_of c.args.claim.now) =
    known-from_places c.args.items.now (ids_of c.args.claim.now) c.deref.result.now are in
    let within : c.in-Some-first_twice.place < length c.args.items.now =
    IsTwice-within
    (λ p. p < length c.args.items.now) c.deref.result.now c.in-Some-first_twice.place are.within
    c.in-Some-first_twice.ensures in
    let twice : IsTwice (ids_of c.args.claim.now)
    (get_or c.args.items.now c.in-Some-first_twice.place c.index-items-place.result).id =
    subst (IsTwice (ids_of c.args.claim.now))
    (id_at-get_or c.args.items.now c.in-Some-first_twice.place c.index-items-place.result within)
    (IsTwice-at c.args.items.now
    (ids_of c.args.claim.now) c.deref.result.now c.in-Some-first_twice.place c.requires are
    c.in-Some-first_twice.ensures) in (
      twice-first c.args.items.now c.args.claim.now c.args.certificate.now
          (get_or c.args.items.now c.in-Some-first_twice.place c.index-items-place.result).id counted
          c.in_default.ensures known twice,
      λ e. cc (e),
    )

pub returns-in-Some-first_unmarked : goal.returns-in-Some-first_unmarked
returns-in-Some-first_unmarked c =
    let counted : length c.args.claim.now ≡ c.args.certificate.now.parts =
    omega (arith, c.len-parts.ensures, c.if-parts-certificate.false) in
    let are : ArePlaces c.args.items.now (ids_of c.args.claim.now) c.deref.result.now =
    ArePlaces-same c.args.items.now c.ids.result.now
    (ids_of c.args.claim.now) c.find_places.new.places.items c.deref.result.now c.ids.ensures c.deref.ensures.value
    (rw c.in_default-2.is at c.in_ok-id.ensures) in
    let known : All (HasItem c.args.items.now) (ids_of c.args.claim.now) =
    known-from_places c.args.items.now (ids_of c.args.claim.now) c.deref.result.now are in
    let distinct : IsDistinct (ids_of c.args.claim.now) =
    IsDistinct-at c.args.items.now
    (ids_of c.args.claim.now) c.deref.result.now c.requires are c.in_default-first_twice.ensures.0 in
    let long : length c.first_twice.new.marks ≡ c.in_ok-marks.marks.len =
    c.first_twice.auto.marks ∙ (ap length c.deref_mut.ensures.value ∙ omega (arith, c.in_ok-marks.marks.ok)) in
    let written : c.deref-2.result.now ≡ c.first_twice.new.marks =
    c.deref-2.ensures.value
    ∙ take_at c.first_twice.new.marks
    (drop (length c.first_twice.new.marks) c.in_ok-marks.marks.items) c.in_ok-marks.marks.len long in
    let marks : AreMarks c.deref.result.now c.deref-2.result.now =
    subst (AreMarks c.deref.result.now) (sym written) c.in_default-first_twice.ensures.1 in
    let size : length c.deref-2.result.now ≡ length c.args.items.now =
    ap length written ∙ (long ∙ omega (arith, c.in_ok-marks.ensures.len, c.in_ok-marks.marks.ok)) in
    let within : c.in-Some-first_unmarked.place < length c.args.items.now =
    (let h : c.in-Some-first_unmarked.place < length
    c.deref-2.result.now = c.in-Some-first_unmarked.ensures.within in omega (arith, h, size)) in
    let missing : IsMissing c.args.items.now (ids_of c.args.claim.now)
    (get_or c.args.items.now c.in-Some-first_unmarked.place c.index-items-place-in-Some-first_unmarked.result).id =
    subst (IsMissing c.args.items.now (ids_of c.args.claim.now))
    (id_at-get_or c.args.items.now c.in-Some-first_unmarked.place c.index-items-place-in-Some-first_unmarked.result
    within)
    (IsMissing-at c.args.items.now
    (ids_of c.args.claim.now) c.deref.result.now c.deref-2.result.now c.in-Some-first_unmarked.place c.requires are
    marks size c.in-Some-first_unmarked.ensures) in (
      missing-first c.args.items.now c.args.claim.now c.args.certificate.now
          (get_or c.args.items.now c.in-Some-first_unmarked.place c.index-items-place-in-Some-first_unmarked.result).id
          counted c.in_default.ensures known distinct missing,
      λ e. cc (e),
    )

pub first_overlap-requires-clause-distinct : goal.first_overlap-requires-clause-distinct
first_overlap-requires-clause-distinct c =
    let are : ArePlaces c.args.items.now (ids_of c.args.claim.now) c.deref.result.now =
    ArePlaces-same c.args.items.now c.ids.result.now
    (ids_of c.args.claim.now) c.find_places.new.places.items c.deref.result.now c.ids.ensures c.deref.ensures.value
    (rw c.in_default-2.is at c.in_ok-id.ensures) in
    let known : All (HasItem c.args.items.now) (ids_of c.args.claim.now) =
    known-from_places c.args.items.now (ids_of c.args.claim.now) c.deref.result.now are in
    IsDistinct-at c.args.items.now
    (ids_of c.args.claim.now) c.deref.result.now c.requires are c.in_default-first_twice.ensures.0

pub returns-in-Some-3 : goal.returns-in-Some-3
returns-in-Some-3 c =
    let counted : length c.args.claim.now ≡ c.args.certificate.now.parts =
    omega (arith, c.len-parts.ensures, c.if-parts-certificate.false) in
    let are : ArePlaces c.args.items.now (ids_of c.args.claim.now) c.deref.result.now =
    ArePlaces-same c.args.items.now c.ids.result.now
    (ids_of c.args.claim.now) c.find_places.new.places.items c.deref.result.now c.ids.ensures c.deref.ensures.value
    (rw c.in_default-2.is at c.in_ok-id.ensures) in
    let known : All (HasItem c.args.items.now) (ids_of c.args.claim.now) =
    known-from_places c.args.items.now (ids_of c.args.claim.now) c.deref.result.now are in
    let distinct : IsDistinct (ids_of c.args.claim.now) =
    IsDistinct-at c.args.items.now
    (ids_of c.args.claim.now) c.deref.result.now c.requires are c.in_default-first_twice.ensures.0 in
    let long : length c.first_twice.new.marks ≡ c.in_ok-marks.marks.len =
    c.first_twice.auto.marks ∙ (ap length c.deref_mut.ensures.value ∙ omega (arith, c.in_ok-marks.marks.ok)) in
    let written : c.deref-2.result.now ≡ c.first_twice.new.marks =
    c.deref-2.ensures.value
    ∙ take_at c.first_twice.new.marks
    (drop (length c.first_twice.new.marks) c.in_ok-marks.marks.items) c.in_ok-marks.marks.len long in
    let marks : AreMarks c.deref.result.now c.deref-2.result.now =
    subst (AreMarks c.deref.result.now) (sym written) c.in_default-first_twice.ensures.1 in
    let size : length c.deref-2.result.now ≡ length c.args.items.now =
    ap length written ∙ (long ∙ omega (arith, c.in_ok-marks.ensures.len, c.in_ok-marks.marks.ok)) in
    let complete : All (λ x. Contains (ids_of c.args.claim.now) x.id) c.args.items.now =
    complete-at c.args.items.now
    (ids_of c.args.claim.now) c.deref.result.now c.deref-2.result.now are marks size
    c.in_default-first_unmarked.ensures in
    let overlap : IsOverlap c.args.items.now c.args.claim.now c.in-Some-3.a c.in-Some-3.b =
    rw c.in-Some-3.is at c.in_ok-a.ensures in (
      overlap-first c.args.items.now c.args.claim.now c.args.certificate.now c.in-Some-3.a c.in-Some-3.b counted
          c.in_default.ensures known distinct complete overlap,
      λ e. cc (e),
    )

pub returns-in-Some-wrong_crowd : goal.returns-in-Some-wrong_crowd
returns-in-Some-wrong_crowd c =
    let counted : length c.args.claim.now ≡ c.args.certificate.now.parts =
    omega (arith, c.len-parts.ensures, c.if-parts-certificate.false) in
    let are : ArePlaces c.args.items.now (ids_of c.args.claim.now) c.deref.result.now =
    ArePlaces-same c.args.items.now c.ids.result.now
    (ids_of c.args.claim.now) c.find_places.new.places.items c.deref.result.now c.ids.ensures c.deref.ensures.value
    (rw c.in_default-2.is at c.in_ok-id.ensures) in
    let known : All (HasItem c.args.items.now) (ids_of c.args.claim.now) =
    known-from_places c.args.items.now (ids_of c.args.claim.now) c.deref.result.now are in
    let distinct : IsDistinct (ids_of c.args.claim.now) =
    IsDistinct-at c.args.items.now
    (ids_of c.args.claim.now) c.deref.result.now c.requires are c.in_default-first_twice.ensures.0 in
    let long : length c.first_twice.new.marks ≡ c.in_ok-marks.marks.len =
    c.first_twice.auto.marks ∙ (ap length c.deref_mut.ensures.value ∙ omega (arith, c.in_ok-marks.marks.ok)) in
    let written : c.deref-2.result.now ≡ c.first_twice.new.marks =
    c.deref-2.ensures.value
    ∙ take_at c.first_twice.new.marks
    (drop (length c.first_twice.new.marks) c.in_ok-marks.marks.items) c.in_ok-marks.marks.len long in
    let marks : AreMarks c.deref.result.now c.deref-2.result.now =
    subst (AreMarks c.deref.result.now) (sym written) c.in_default-first_twice.ensures.1 in
    let size : length c.deref-2.result.now ≡ length c.args.items.now =
    ap length written ∙ (long ∙ omega (arith, c.in_ok-marks.ensures.len, c.in_ok-marks.marks.ok)) in
    let complete : All (λ x. Contains (ids_of c.args.claim.now) x.id) c.args.items.now =
    complete-at c.args.items.now
    (ids_of c.args.claim.now) c.deref.result.now c.deref-2.result.now are marks size
    c.in_default-first_unmarked.ensures in
    let apart : All (HasNoOverlap c.args.items.now) c.args.claim.now = rw c.in_default-3.is at c.in_ok-a.ensures in (
      not_crowded-first c.args.items.now c.args.claim.now c.args.certificate.now c.in-Some-wrong_crowd.holds c.requires
          counted c.in_default.ensures known distinct complete apart c.in-Some-wrong_crowd.ensures,
      λ e. cc (e),
    )

pub returns : goal.returns
returns c =
    let counted : length c.args.claim.now ≡ c.args.certificate.now.parts =
    omega (arith, c.len-parts.ensures, c.if-parts-certificate.false) in
    let are : ArePlaces c.args.items.now (ids_of c.args.claim.now) c.deref.result.now =
    ArePlaces-same c.args.items.now c.ids.result.now
    (ids_of c.args.claim.now) c.find_places.new.places.items c.deref.result.now c.ids.ensures c.deref.ensures.value
    (rw c.in_default-2.is at c.in_ok-id.ensures) in
    let known : All (HasItem c.args.items.now) (ids_of c.args.claim.now) =
    known-from_places c.args.items.now (ids_of c.args.claim.now) c.deref.result.now are in
    let distinct : IsDistinct (ids_of c.args.claim.now) =
    IsDistinct-at c.args.items.now
    (ids_of c.args.claim.now) c.deref.result.now c.requires are c.in_default-first_twice.ensures.0 in
    let long : length c.first_twice.new.marks ≡ c.in_ok-marks.marks.len =
    c.first_twice.auto.marks ∙ (ap length c.deref_mut.ensures.value ∙ omega (arith, c.in_ok-marks.marks.ok)) in
    let written : c.deref-2.result.now ≡ c.first_twice.new.marks =
    c.deref-2.ensures.value
    ∙ take_at c.first_twice.new.marks
    (drop (length c.first_twice.new.marks) c.in_ok-marks.marks.items) c.in_ok-marks.marks.len long in
    let marks : AreMarks c.deref.result.now c.deref-2.result.now =
    subst (AreMarks c.deref.result.now) (sym written) c.in_default-first_twice.ensures.1 in
    let size : length c.deref-2.result.now ≡ length c.args.items.now =
    ap length written ∙ (long ∙ omega (arith, c.in_ok-marks.ensures.len, c.in_ok-marks.marks.ok)) in
    let complete : All (λ x. Contains (ids_of c.args.claim.now) x.id) c.args.items.now =
    complete-at c.args.items.now
    (ids_of c.args.claim.now) c.deref.result.now c.deref-2.result.now are marks size
    c.in_default-first_unmarked.ensures in
    let apart : All (HasNoOverlap c.args.items.now) c.args.claim.now = rw c.in_default-3.is at c.in_ok-a.ensures in
    record {
      counted = counted;
      filled = c.in_default.ensures;
      known = known;
      distinct = distinct;
      complete = complete;
      apart = apart;
      crowded = c.in_default-wrong_crowd.ensures;
    }
