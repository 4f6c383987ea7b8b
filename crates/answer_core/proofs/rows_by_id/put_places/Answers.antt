use Rattle.std.proofs.Common.{rules, ◌≡◌, ◌+◌, ◌-◌, ◌<◌, ◌≤◌, arith, get_or, length, sym, subst, ap, ◌∙◌}
use Rattle.std.proofs.lemmas.Option.{get_or_from_slice_get}
use Rattle.table_core.specs.Lent.{lent_row}
use Rattle.answer_core.proofs.FoundRows.{ArePlacesOf, place_low, placed_more, placed_less}
use Rattle.answer_core.proofs.rows_by_id.put_places.Goals.{then-at-places, else-at-places}
use Rattle.answer_core.proofs.rows_by_id.put_places.Goals as goal

pub overflow_cast-places : goal.overflow_cast-places
overflow_cast-places c =
    let rows = c.args.rows.now in
    let i = c.loop-i.i in
    let x = lent_row c.at.result in
    let within : i < length rows = omega (arith, c.loop-i-test.true, c.len-i-end.ensures) in
    let here : x ≡ get_or rows i x = sym (get_or_from_slice_get rows i x x c.at.ensures) in
    let low : i ≤ x.id - c.args.first =
    place_low rows c.args.first i x c.requires.rise c.requires.low within here in
    let at : c.saturating_sub-at.result ≡ x.id - c.args.first =
    c.saturating_sub-at.ensures ∙ ap (λ n. n - c.args.first) c.id.ensures in
    let few = c.requires.few in
    let inside = c.if-at-places.true in
    let len = c.loop-i.auto.places in
    search (rules, low, at, few, inside, len)

pub loop-i-preserved : goal.loop-i-preserved
loop-i-preserved c =
    let rows = c.args.rows.now in
    let i = c.loop-i.i in
    let first = c.args.first in
    let x = lent_row c.at.result in
    let within : i < length rows = omega (arith, c.loop-i-test.true, c.len-i-end.ensures) in
    let here : x ≡ get_or rows i x = sym (get_or_from_slice_get rows i x x c.at.ensures) in
    let at : c.saturating_sub-at.result ≡ x.id - first =
    c.saturating_sub-at.ensures ∙ ap (λ n. n - first) c.id.ensures in
    elim c.if-at-places.branch [
      | then-at-places w ↦
          subst (ArePlacesOf (i + 1) first rows) (sym w.places-is)
          (placed_more rows c.loop-i.places first i c.saturating_sub-at.result x c.requires.rise c.requires.low within
          here at w.if-at-places.true c.loop-i.invariant)
      | else-at-places w ↦
          subst (ArePlacesOf (i + 1) first rows) (sym w.places-is)
          (placed_less rows c.loop-i.places first i c.saturating_sub-at.result x within here at w.if-at-places.false
          c.loop-i.invariant)
    ]

pub returns-clause-places : goal.returns-clause-places
returns-clause-places c = λ i d lt. c.loop-i.invariant i d (omega (arith, lt, c.loop-i-test.false, c.len-i-end.ensures))
