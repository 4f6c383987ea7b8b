use Rattle.std.proofs.Common.{◌≡◌, ◌∙◌, ap}
use Rattle.std.proofs.lemmas.Result.{err_from_is_err_and}
use Rattle.command_core.specs.PairsIn.{compared_in, name_pairs_in}
use Rattle.answer_core.specs.declared.answer.Answer.TheVariants as answer
use Rattle.store_core.specs.Snapshots.{history}
use Rattle.script_core.specs.Ledgers.{commit_shown}
use Rattle.script_core.proofs.Comparing.{compared-read}
use Rattle.script_core.proofs.queries.join_tables.Goals as goal

pub returns-in_err-left_columns : goal.returns-in_err-left_columns
returns-in_err-left_columns g c =
    let p = err_from_is_err_and c.from_residual-in_err-left_columns.result
    c.from_residual-in_err-left_columns.ensures.1 in
    rw (p.1, p.2) (c.in_err-left_columns.ensures.fails (name_pairs_in c.args.tables.on))

pub returns-in-Ok : goal.returns-in-Ok
returns-in-Ok g c =
    let both = c.in_ok-left_columns.field-0 in
    let read = c.in_ok-left_columns.ensures in
    let named : c.deref.result.now ≡ name_pairs_in c.args.tables.on = c.deref.ensures.value ∙ c.in_ok-on.ensures in
    let answered = rw named at c.in-Ok.ensures in (
      ((both.left_columns.now, both.left), (both.right_columns.now, both.right)),
      compared-read c.args.number (history c.args.snapshot.now) (commit_shown c.args.snapshot.now)
          (compared_in c.args.tables) (both.left_columns, both.left) (both.right_columns, both.right) read.left
          read.right answered.0,
      record { rows = c.in-Ok.rows; joined = answered.1; is = ap answer.Join c.new.ensures },
    )
