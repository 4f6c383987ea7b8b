use Rattle.std.proofs.Common.{◌+◌, ◌*◌, ◌<◌, ◌∙◌, Some, ap, arith, length, sym}
use Rattle.std.proofs.lemmas.Option.{slice_get_past}
use Rattle.command_core.specs.Lines.{fields_in}
use Rattle.command_core.specs.Pairs.{pairs_of}
use Rattle.command_core.proofs.Cutting.{slice_get-there}
use Rattle.command_core.proofs.NamedColumns.{none-named, some-named}
use Rattle.command_core.proofs.PortionLemmas.{all_columns-get, length-pairs_of, pairs-get}
use Rattle.command_core.proofs.pairs.TextPairs.get.Goals as goal

pub returns-then-place-len : goal.returns-then-place-len
returns-then-place-len c =
    let fields = fields_in c.args.self.fields in
    sym (slice_get_past (pairs_of fields) c.args.place
    (omega (arith, length-pairs_of fields, c.if-place-len.true, c.len.ensures)))

pub returns-in_err-column : goal.returns-in_err-column
returns-in_err-column c =
    let fields = fields_in c.args.self.fields in
    let lt : 2 * c.args.place < length fields = omega (arith, c.if-place-len.false, c.len.ensures) in
    absurd (slice_get-there fields (2 * c.args.place) lt (sym c.in_err-column.ensures))

pub returns-in_err-text : goal.returns-in_err-text
returns-in_err-text c =
    let fields = fields_in c.args.self.fields in
    let lt : 2 * c.args.place + 1 < length fields = omega (arith, c.if-place-len.false, c.len.ensures) in
    absurd (slice_get-there fields (2 * c.args.place + 1) lt (sym c.in_err-text.ensures))

pub unreachable-requires : goal.unreachable-requires
unreachable-requires c =
    let fields = fields_in c.args.self.fields in
    let column = c.in_ok-column.column.now in
    let text = c.in_ok-text.text.now in
    let there = pairs-get fields c.args.place column text (sym c.in_ok-column.ensures) (sym c.in_ok-text.ensures) in
    let named = all_columns-get (pairs_of fields) c.args.place (column, text) c.args.self.named there in
    absurd (cc (named, none-named column c.in-Err.ensures))

pub returns : goal.returns
returns c =
    let fields = fields_in c.args.self.fields in
    let column = c.in_ok-column.column.now in
    let text = c.in_ok-text.text.now in
    let there = pairs-get fields c.args.place column text (sym c.in_ok-column.ensures) (sym c.in_ok-text.ensures) in
    let named = some-named column c.in-Ok.column c.in-Ok.ensures in
    ap (λ name. Some (name, text)) named.1 ∙ sym there
