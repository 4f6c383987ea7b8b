use Rattle.std.proofs.Common.{◌≡◌, ◌∙◌, ◌<◌, ◌++◌, ◌∷◌, [], ap, sym, length, subst, Vec, Global, ℕ, Some, All}
use Rattle.std.specs.Prelude.{slice_get}
use Rattle.std.proofs.lemmas.List.Elements.{All-push}
use Rattle.period_core.specs.Period.{holds_at}
use Rattle.row_core.specs.declared.row.Row.{Row}
use Rattle.table_core.specs.Lent.{lent_row}
use Rattle.table_core.specs.Places.{at_places, shown_at}
use Rattle.table_core.specs.Source.{rows_from}
use Rattle.table_core.proofs.PlaceLemmas.{filter-more, filter-same, at_places-more}
use Rattle.table_core.proofs.shared_rows.places_holding.Goals as goal
use Rattle.table_core.proofs.shared_rows.places_holding.Goals.{then-holds_at+in_ok-as_place+in_ok-push, else-holds_at}

pub loop-i-preserved : goal.loop-i-preserved
loop-i-preserved c =
    let rows = rows_from c.args.source.now in
    let shown = shown_at c.args.places.now rows in
    let row = lent_row c.row_at.result in
    let test = λ (r : Row). holds_at c.args.point r.period in
    elim c.if-holds_at.branch [
      | then-holds_at+in_ok-as_place+in_ok-push w ↦
          let place = w.in_ok-as_place.field-0 in
          let is : w.in_ok-as_place.field-0 ≡ w.place_among.result = w.in_ok-as_place.ensures.index in
          let grown = ap (λ (v : Vec ℕ Global). v.items) w.held-is ∙ w.in_ok-push.ensures.items in
          let there : slice_get rows place ≡ Some row =
          ap (slice_get rows) is ∙ w.place_among.ensures.row ∙ c.row_at.ensures in
          record {
            within = subst (All (λ p. p < length rows)) (sym grown)
                (All-push (λ p. p < length rows) c.loop-i.held.items place c.loop-i.invariant.within
                (subst (λ p. p < length rows) (sym is) w.place_among.ensures.within));
            held = ap (λ l. at_places l rows) grown
                ∙ at_places-more c.loop-i.held.items rows place row there
                ∙ ap (λ l. l ++ row ∷ []) c.loop-i.invariant.held
                ∙ filter-more test shown c.loop-i.i row c.row_at.ensures (sym c.holds_at.ensures ∙ w.if-holds_at.true);
          }
      | else-holds_at w ↦
          let same = ap (λ (v : Vec ℕ Global). v.items) w.held-is in
          record {
            within = subst (All (λ p. p < length rows)) (sym same) c.loop-i.invariant.within;
            held = ap (λ l. at_places l rows) same ∙ c.loop-i.invariant.held
                ∙ filter-same test shown c.loop-i.i row c.row_at.ensures (sym c.holds_at.ensures ∙ w.if-holds_at.false);
          }
    ]
