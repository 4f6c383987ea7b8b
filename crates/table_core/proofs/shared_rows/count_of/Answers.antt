use Rattle.std.proofs.Common.{ap, subst, length, arith}
use Rattle.table_core.specs.Places.{AreWithin, shown_at}
use Rattle.table_core.specs.Source.{rows_from}
use Rattle.table_core.proofs.PlaceLemmas.{length-at_places}
use Rattle.table_core.proofs.shared_rows.count_of.Goals as goal

pub returns-in-Some : goal.returns-in-Some
returns-in-Some c =
    let within = subst (λ places. AreWithin places (rows_from c.args.source.now)) c.in-Some.is c.requires in
    let same = length-at_places c.in-Some.places.items (rows_from c.args.source.now) within in
    let shown = ap (λ places. length (shown_at places (rows_from c.args.source.now))) c.in-Some.is in
    omega (arith, c.len-in-Some.ensures, c.in-Some.places.ok.0, same, shown)
