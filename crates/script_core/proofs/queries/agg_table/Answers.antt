use Rattle.std.proofs.Common.{◌∙◌, Ok, ap, refl, sym}
use Rattle.store_core.specs.Snapshots.{history}
use Rattle.script_core.specs.Effects.{TableRows}
use Rattle.script_core.specs.Ledgers.{commit_shown}
use Rattle.script_core.proofs.Comparing.{aggregated-read, table-read}
use Rattle.script_core.proofs.queries.agg_table.Goals as goal

pub returns-in-Ok : goal.returns-in-Ok
returns-in-Ok g c =
    let number = c.args.number in
    let h = history c.args.snapshot.now in
    let asof = commit_shown c.args.snapshot.now in
    let asked = c.args.aggregate in
    let table : TableRows = (c.in_ok-schema.schema.now, c.in_ok-schema.rows) in
    let (_, reported, is) = c.in_ok-schema.ensures.gives in
    let read = table-read number h asof asked.table table.0 table.1 (reported ∙ ap Ok (sym is))
    c.in_ok-schema.ensures.columns in
    let answered = c.in-Ok.ensures in (
      table,
      aggregated-read number h asof asked table read answered.0,
      record { rows = c.in-Ok.rows; aggregated = answered.1; is = refl },
    )
