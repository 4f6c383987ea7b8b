use Rattle.std.proofs.Common.{◌≡◌, ◌∙◌, ◌++◌, ◌∷◌, [], ap, arith, length, refl}
use Rattle.row_core.specs.declared.draft.Draft.{Draft}
use Rattle.draft_core.proofs.ColumnLemmas.{alike, on_err, view-kept, view-push}
use Rattle.draft_core.proofs.columns.Columns.push.Goals as goal

pub returns-in_err-push_values-clause-err : goal.returns-in_err-push_values-clause-err
returns-in_err-push_values-clause-err c =
    let inside = c.self.inside in
    let size : c.len-count.result ≡ length inside.periods.items = omega (arith, c.len-count.ensures, inside.periods.ok.0) in
    on_err c.from_residual.result
    (view-kept inside.periods.items inside.periods.items inside.values.items c.push_values.new.columns.items
    c.len-count.result refl size c.push_values.ensures.kept ∙ c.self.view_is)

pub returns-in_err-push-clause-err : goal.returns-in_err-push-clause-err
returns-in_err-push-clause-err c =
    let inside = c.self.inside in
    let size : c.len-count.result ≡ length inside.periods.items = omega (arith, c.len-count.ensures, inside.periods.ok.0) in
    on_err c.from_residual-in_err-push.result
    (view-kept inside.periods.items c.push.new.self.items inside.values.items c.push_values.new.columns.items
    c.len-count.result c.in_err-push.ensures.items size c.push_values.ensures.kept ∙ c.self.view_is)

pub returns-clause-ok : goal.returns-clause-ok
returns-clause-ok c =
    let inside = c.self.inside in
    let size : c.len-count.result ≡ length inside.periods.items = omega (arith, c.len-count.ensures, inside.periods.ok.0) in
    let row : Draft = record { period = c.args.period; values = c.args.values.now } in
    view-push inside.periods.items c.push.new.self.items c.args.period inside.values.items
    c.push_values.new.columns.items c.args.values.now c.len-count.result c.in_ok-push.ensures.items size
    c.push_values.ensures.kept c.in_ok-push_values.ensures.values
    ∙ ap (λ a. alike a.kinds (a.rows ++ row ∷ [])) c.self.view_is
