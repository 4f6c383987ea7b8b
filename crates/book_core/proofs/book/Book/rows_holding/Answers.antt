use Rattle.std.proofs.Common.{◌∙◌, ap}
use Rattle.std.specs.Prelude.{filter}
use Rattle.period_core.specs.Period.{holds_at}
use Rattle.row_core.specs.declared.row.Row.{Row}
use Rattle.version_core.specs.Shown.{shown}
use Rattle.book_core.proofs.Sound.{held-few, held-fit, held-rise}
use Rattle.book_core.proofs.book.Book.rows_holding.Goals as goal

pub returns-in_ok-rows_holding-in-Ok-clause-few : goal.returns-in_ok-rows_holding-in-Ok-clause-few
returns-in_ok-rows_holding-in-Ok-clause-few c =
    held-few c.args.self.now c.args.name c.in-Ok.table.now c.args.n (λ row. holds_at c.args.point row.period) _
    c.in-Ok.ensures.found
    (c.in_ok-rows_holding-in-Ok.ensures
    ∙ ap (λ versions. filter (λ (row : Row). holds_at c.args.point row.period) (shown c.args.n versions))
    c.versions.ensures)

pub returns-in_ok-rows_holding-in-Ok-clause-rise : goal.returns-in_ok-rows_holding-in-Ok-clause-rise
returns-in_ok-rows_holding-in-Ok-clause-rise c =
    held-rise c.args.self.now c.args.name c.in-Ok.table.now c.args.n (λ row. holds_at c.args.point row.period) _
    c.in-Ok.ensures.found
    (c.in_ok-rows_holding-in-Ok.ensures
    ∙ ap (λ versions. filter (λ (row : Row). holds_at c.args.point row.period) (shown c.args.n versions))
    c.versions.ensures)

pub returns-in_ok-rows_holding-in-Ok-clause-fit : goal.returns-in_ok-rows_holding-in-Ok-clause-fit
returns-in_ok-rows_holding-in-Ok-clause-fit c =
    held-fit c.args.self.now c.args.name c.in-Ok.table.now c.args.n (λ row. holds_at c.args.point row.period) _
    c.in-Ok.ensures.found
    (c.in_ok-rows_holding-in-Ok.ensures
    ∙ ap (λ versions. filter (λ (row : Row). holds_at c.args.point row.period) (shown c.args.n versions))
    c.versions.ensures)
