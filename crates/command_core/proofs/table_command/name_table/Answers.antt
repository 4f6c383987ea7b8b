use Rattle.std.proofs.Common.{◌∙◌, Err, Ok, ap, subst, sym}
use Rattle.std.proofs.lemmas.Result.{err_from_is_err_and}
use Rattle.row_core.specs.Refusals.{Reads}
use Rattle.command_core.specs.Command.{meaning_of}
use Rattle.command_core.specs.Meaning.{Make, make_table, table_columns}
use Rattle.command_core.specs.TableCommand.{form_of}
use Rattle.command_core.proofs.NamedColumns.{make_table-unread, name_table-column, name_table-key, name_table-made, name_table-unnamed, none-named, some-named}
use Rattle.command_core.proofs.table_command.name_table.Goals as goal

pub returns-in_default : goal.returns-in_default
returns-in_default c =
    name_table-unnamed c.args.table.now (form_of c.args.raw.now) (none-named c.args.table.now c.in_default.ensures)

pub returns-in_default-2 : goal.returns-in_default-2
returns-in_default-2 c =
    let named = some-named c.args.table.now c.in-Ok.table c.in-Ok.ensures in
    let unnamed = rw (c.in_default-2.is, c.deref.ensures.value) at c.in_ok-columns.ensures in
    name_table-column c.args.table.now (form_of c.args.raw.now) named.0 unnamed

pub returns-in_default-3 : goal.returns-in_default-3
returns-in_default-3 c =
    let named = some-named c.args.table.now c.in-Ok.table c.in-Ok.ensures in
    let all = rw (c.in-Some.is, c.deref.ensures.value) at c.in_ok-columns.ensures in
    let unnamed = rw c.in_default-3.is at c.in_ok-key.ensures in
    name_table-key c.args.table.now (form_of c.args.raw.now) named.0 all.0 unnamed

pub returns-in_err-schema : goal.returns-in_err-schema
returns-in_err-schema c =
    let table = c.args.table.now in
    let result = c.from_residual-in_err-schema.result in
    let p = err_from_is_err_and result c.from_residual-in_err-schema.ensures.1 in
    let named = some-named table c.in-Ok.table c.in-Ok.ensures in
    let all = rw (c.in-Some.is, c.deref.ensures.value) at c.in_ok-columns.ensures in
    let key = rw c.in-Some-2.is at c.in_ok-key.ensures in
    let columns = c.deref-2.result.now in
    let names = c.deref-3.result.now in
    let made =
    name_table-made table (form_of c.args.raw.now) columns names named.0 (all.0, c.deref-2.ensures.value ∙ all.1)
    (key.0, c.deref-3.ensures.value ∙ key.1)
    in
    let unread =
    make_table-unread table (table_columns (columns, names)) c.in_err-schema.field-0.0 c.in_err-schema.ensures in
    subst (λ meant. Reads meaning_of meant result) (sym made)
    (subst (λ r. Reads meaning_of (make_table table (table_columns (columns, names))) r)
    (sym (p.1 ∙ ap Err p.2)) unread)

pub returns : goal.returns
returns c =
    let table = c.args.table.now in
    let named = some-named table c.in-Ok.table c.in-Ok.ensures in
    let all = rw (c.in-Some.is, c.deref.ensures.value) at c.in_ok-columns.ensures in
    let key = rw c.in-Some-2.is at c.in_ok-key.ensures in
    name_table-made table (form_of c.args.raw.now) c.deref-2.result.now c.deref-3.result.now named.0
    (all.0, c.deref-2.ensures.value ∙ all.1) (key.0, c.deref-3.ensures.value ∙ key.1)
    ∙ ap (make_table table) c.in_ok-schema.ensures ∙ ap (λ name. Ok (Make name c.in_ok-schema.schema)) (sym named.1)
