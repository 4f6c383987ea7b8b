use Rattle.std.proofs.Common.{◌≡◌, ◌∙◌, ◌++◌, ap, arith, length, map, refl}
use Rattle.draft_core.specs.Columns.{rows_by_column, values_of_column}
use Rattle.draft_core.proofs.ColumnLemmas.{alike, on_err, view-append, view-kept}
use Rattle.draft_core.proofs.columns.Columns.append.Goals as goal

pub returns-in_err-append_values-clause-err : goal.returns-in_err-append_values-clause-err
returns-in_err-append_values-clause-err c =
    let inside = c.self.inside in
    let size : c.len.result ≡ length inside.periods.items = omega (arith, c.len.ensures, inside.periods.ok.0) in
    on_err c.from_residual.result
    (view-kept inside.periods.items inside.periods.items inside.values.items c.append_values.new.columns.items
    c.len.result refl size c.append_values.ensures.kept ∙ c.self.view_is)

pub returns-in_err-append-clause-err : goal.returns-in_err-append-clause-err
returns-in_err-append-clause-err c =
    let inside = c.self.inside in
    let size : c.len.result ≡ length inside.periods.items = omega (arith, c.len.ensures, inside.periods.ok.0) in
    on_err c.from_residual-in_err-append.result
    (view-kept inside.periods.items c.append.new.self.items inside.values.items c.append_values.new.columns.items
    c.len.result c.in_err-append.ensures.items size c.append_values.ensures.kept ∙ c.self.view_is)

pub returns-clause-ok : goal.returns-clause-ok
returns-clause-ok c =
    let inside = c.self.inside in
    let more = c.more.inside in
    let size : c.len.result ≡ length inside.periods.items = omega (arith, c.len.ensures, inside.periods.ok.0) in
    let more_size : c.len-2.result ≡ length more.periods.items = omega (arith, c.len-2.ensures, more.periods.ok.0) in
    view-append inside.periods.items more.periods.items c.append.new.self.items inside.values.items
    c.append_values.new.columns.items more.values.items c.len.result c.len-2.result c.in_ok-append.ensures.items size
    more_size c.append_values.ensures.kept c.in_ok-append_values.ensures.values
    ∙ ap (λ a. alike a.kinds (a.rows ++ rows_by_column 0 more.periods.items (map values_of_column more.values.items)))
    c.self.view_is
    ∙ ap (λ a. alike c.args.self.now.kinds (c.args.self.now.rows ++ a.rows)) c.more.view_is
