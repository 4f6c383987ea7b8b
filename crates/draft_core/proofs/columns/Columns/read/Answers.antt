use Rattle.std.proofs.Common.{◌≡◌, ◌∙◌, ◌++◌, ◌∷◌, [], ap, arith, length, map, refl}
use Rattle.draft_core.specs.Columns.{draft_of, values_at, values_of_column}
use Rattle.draft_core.proofs.ColumnLemmas.{alike, view-push}
use Rattle.draft_core.proofs.columns.Columns.read.Goals as goal

pub returns-clause-ok : goal.returns-clause-ok
returns-clause-ok g c =
    let inside = c.self.inside in
    let size : c.len-count.result ≡ length inside.periods.items = omega (arith, c.len-count.ensures, inside.periods.ok.0) in
    let columns = c.read_onto.new.values.items in
    let values = values_at (map values_of_column columns) c.len-count.result in
    let period = c.in_ok-period.period in
    let row = draft_of period values in (
      row,
      c.in_ok-period.ensures.row,
      view-push inside.periods.items c.push.new.self.items period inside.values.items columns values
          c.len-count.result c.in_ok-push.ensures.items size c.in_ok-period.ensures.kept refl
          ∙ ap (λ a. alike a.kinds (a.rows ++ row ∷ [])) c.self.view_is,
    )
