use Rattle.std.proofs.Common.{◌≡◌, ◌+◌, ◌<◌, [], ◌∷◌, ◌++◌, true, false, length, take, drop, get_or, set, subst, sym, ap, arith, ◌∙◌}
use Rattle.std.specs.Prelude.{Contains}
use Rattle.std.proofs.lemmas.List.{take_more, take_all, take-append-drop, drop_more}
use Rattle.cert_core.specs.Ids.{IsDistinct}
use Rattle.cert_core.specs.Places.{AreMarks}
use Rattle.cert_core.proofs.IdsLemmas.{IsDistinct-push}
use Rattle.cert_core.proofs.PlacesLemmas.{AreMarks-nil, AreMarks-push, marked_each}
use Rattle.cert_core.proofs.marks.first_twice.Goals as goal
use Rattle.cert_core.proofs.marks.first_twice.Goals.{Else-marks-place, Then-marks-place}

pub returns-then-marks-place : goal.returns-then-marks-place
returns-then-marks-place c =
    let within : get_or c.args.places.now c.loop-place.place-index 0 < length c.args.marks.now =
    c.requires.within c.loop-place.place-index 0 c.loop-place-test.true in
    record {
      before = take c.loop-place.place-index c.args.places.now;
      after = drop (c.loop-place.place-index + 1) c.args.places.now;
      stands = sym (take-append-drop c.loop-place.place-index c.args.places.now)
          ∙ ap (λ l. take c.loop-place.place-index c.args.places.now ++ l)
          (drop_more c.args.places.now c.loop-place.place-index 0 c.loop-place-test.true);
      again = c.loop-place.invariant.marked.marked (get_or c.args.places.now c.loop-place.place-index 0)
          (omega (arith, within, c.loop-place.auto.marks)) c.if-marks-place.true;
      first = c.loop-place.invariant.distinct;
    }

-- the index wasn't among the earlier ones
new : (c : Else-marks-place)
    → Contains (take c.loop-place.place-index c.args.places.now) (get_or c.args.places.now c.loop-place.place-index 0)
    → ⊥
new c there =
    let yes : get_or c.loop-place.marks (get_or c.args.places.now c.loop-place.place-index 0) false ≡ true =
    marked_each (take c.loop-place.place-index c.args.places.now) c.loop-place.marks
    (get_or c.args.places.now c.loop-place.place-index 0) c.loop-place.invariant.marked there in
    let no : get_or c.loop-place.marks (get_or c.args.places.now c.loop-place.place-index 0) false ≡ false =
    c.if-marks-place.false in
    cc (yes, no)

pub loop-place-preserved : goal.loop-place-preserved
loop-place-preserved c =
    let within : get_or c.args.places.now c.loop-place.place-index 0 < length c.args.marks.now =
    c.requires.within c.loop-place.place-index 0 c.loop-place-test.true in
    let longer : take
    (c.loop-place.place-index + 1) c.args.places.now ≡ take c.loop-place.place-index c.args.places.now ++ get_or
    c.args.places.now c.loop-place.place-index 0 ∷ [] =
    take_more c.args.places.now c.loop-place.place-index 0 c.loop-place-test.true in
    record {
      marked = subst
          (λ ps. AreMarks ps (set c.loop-place.marks (get_or c.args.places.now c.loop-place.place-index 0) true))
          (sym longer)
          (AreMarks-push (take c.loop-place.place-index c.args.places.now) c.loop-place.marks
          (get_or c.args.places.now c.loop-place.place-index 0) c.loop-place.invariant.marked
          (omega (arith, within, c.loop-place.auto.marks)));
      distinct = subst IsDistinct (sym longer)
          (IsDistinct-push (take c.loop-place.place-index c.args.places.now)
          (get_or c.args.places.now c.loop-place.place-index 0) c.loop-place.invariant.distinct (new c));
    }

pub loop-place-init : goal.loop-place-init
loop-place-init c = record { marked = AreMarks-nil c.args.marks.now c.requires.none; distinct = λ i. omega arith }

pub returns : goal.returns
returns c =
    let all : take c.loop-place.place-index c.args.places.now ≡ c.args.places.now =
    take_all c.loop-place.place-index c.args.places.now c.loop-place-test.false in (
      subst IsDistinct all c.loop-place.invariant.distinct,
      subst
          (λ ps. AreMarks ps c.loop-place.marks) all c.loop-place.invariant.marked,
    )
