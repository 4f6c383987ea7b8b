use Rattle.std.proofs.Common.{◌∙◌, ap}
use Rattle.version_core.specs.Shown.{shown}
use Rattle.book_core.proofs.Sound.{rows-few, rows-fit, rows-rise}
use Rattle.book_core.proofs.book.Book.rows_at.Goals as goal

pub returns-in_ok-rows_shown-in-Ok-clause-few : goal.returns-in_ok-rows_shown-in-Ok-clause-few
returns-in_ok-rows_shown-in-Ok-clause-few c =
    rows-few c.args.self.now c.args.name c.in-Ok.table.now c.args.n _ c.in-Ok.ensures.found
    (c.in_ok-rows_shown-in-Ok.ensures
    ∙ ap (shown c.args.n) c.versions.ensures)

pub returns-in_ok-rows_shown-in-Ok-clause-rise :
    goal.returns-in_ok-rows_shown-in-Ok-clause-rise
returns-in_ok-rows_shown-in-Ok-clause-rise c =
    rows-rise c.args.self.now c.args.name c.in-Ok.table.now c.args.n _ c.in-Ok.ensures.found
    (c.in_ok-rows_shown-in-Ok.ensures
    ∙ ap (shown c.args.n) c.versions.ensures)

pub returns-in_ok-rows_shown-in-Ok-clause-fit : goal.returns-in_ok-rows_shown-in-Ok-clause-fit
returns-in_ok-rows_shown-in-Ok-clause-fit c =
    rows-fit c.args.self.now c.args.name c.in-Ok.table.now c.args.n _ c.in-Ok.ensures.found
    (c.in_ok-rows_shown-in-Ok.ensures
    ∙ ap (shown c.args.n) c.versions.ensures)
