use Rattle.std.proofs.Common.{◌∙◌, ap, subst, sym, length, refl, arith}
use Rattle.std.specs.Prelude.{slice_get}
use Rattle.std.proofs.lemmas.Option.{slice_get_read}
use Rattle.table_core.specs.Places.{AreWithin, shown_at}
use Rattle.table_core.specs.Source.{rows_from}
use Rattle.table_core.proofs.PlaceLemmas.{length-at_places, place-within, slice_get-at_places}
use Rattle.table_core.proofs.shared_rows.place_among.Goals as goal

pub index-requires : goal.index-requires
index-requires c =
    let within = subst (λ places. AreWithin places (rows_from c.args.source.now)) c.in-Some.is c.requires.within in
    let same = length-at_places c.in-Some.places.items (rows_from c.args.source.now) within in
    let shown = ap (λ places. length (shown_at places (rows_from c.args.source.now))) c.in-Some.is in
    omega (arith, c.requires.there, c.in-Some.places.ok.0, same, shown)

pub returns-in-Some-clause-row : goal.returns-in-Some-clause-row
returns-in-Some-clause-row c =
    let places = c.in-Some.places.items in
    let within = subst (λ places. AreWithin places (rows_from c.args.source.now)) c.in-Some.is c.requires.within in
    let same = length-at_places places (rows_from c.args.source.now) within in
    let shown = ap (λ places. length (shown_at places (rows_from c.args.source.now))) c.in-Some.is in
    let read = slice_get_read places (length places) c.args.place c.index.result.now refl
    (omega (arith, c.requires.there, same, shown)) c.index.ensures in
    slice_get-at_places places (rows_from c.args.source.now) c.args.place c.index.result.now within read
    ∙ ap (λ places. slice_get (shown_at places (rows_from c.args.source.now)) c.args.place) (sym c.in-Some.is)

pub returns-in-Some-clause-within : goal.returns-in-Some-clause-within
returns-in-Some-clause-within c =
    let places = c.in-Some.places.items in
    let within = subst (λ places. AreWithin places (rows_from c.args.source.now)) c.in-Some.is c.requires.within in
    let same = length-at_places places (rows_from c.args.source.now) within in
    let shown = ap (λ places. length (shown_at places (rows_from c.args.source.now))) c.in-Some.is in
    let read = slice_get_read places (length places) c.args.place c.index.result.now refl
    (omega (arith, c.requires.there, same, shown)) c.index.ensures in
    place-within places (rows_from c.args.source.now) c.args.place c.index.result.now within read
